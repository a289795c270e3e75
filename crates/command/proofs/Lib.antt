pub mod Characters
pub mod Lines
pub mod Sole
pub mod Puts
