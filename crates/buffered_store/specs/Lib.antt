pub mod Layers
pub mod Buffered
pub mod Extending
