pub mod Threes
pub mod Links
pub mod Networks
pub mod Campaigns
pub mod Sends
pub mod Deliveries
