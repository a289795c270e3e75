pub mod Ints
pub mod Nearest
pub mod Ranges
