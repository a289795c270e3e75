pub mod Turns
pub mod Answers
pub mod Tickets
