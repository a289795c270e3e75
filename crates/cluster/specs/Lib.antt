pub mod Meaning
pub mod Called
pub mod Statuses
