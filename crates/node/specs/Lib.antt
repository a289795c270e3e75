pub mod Meaning
pub mod Campaigns
