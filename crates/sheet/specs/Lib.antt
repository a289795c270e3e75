pub mod Cells
pub mod Kinds
pub mod Rules
pub mod Grading
pub mod Starred
