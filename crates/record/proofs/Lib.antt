pub mod Bytes
pub mod Cuts
pub mod Back
