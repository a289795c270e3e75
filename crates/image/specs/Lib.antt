pub mod Faults
pub mod Rules
pub mod Images
pub mod Writing
pub mod Stores
pub mod Laws
pub mod Starred
