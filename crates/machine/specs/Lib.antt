pub mod States
pub mod Sheets
pub mod Counts
pub mod StepsOn
pub mod StepsBack
