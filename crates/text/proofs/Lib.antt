pub mod Splits
pub mod EditWords
