pub mod Grammar
pub mod Shown
pub mod Told
pub mod Writing
