pub mod Cases
pub mod Reading
pub mod Back
pub mod Writes
pub mod Stars
pub mod Loads
