pub mod Crashes
pub mod Entries
