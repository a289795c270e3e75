pub mod Stores
pub mod Records
