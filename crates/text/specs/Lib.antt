pub mod Written
pub mod Words
pub mod Numerals
