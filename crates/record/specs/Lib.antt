pub mod Faults
pub mod Format
pub mod Parts
pub mod Laws
