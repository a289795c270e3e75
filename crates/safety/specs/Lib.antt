pub mod Story
pub mod SixCalls
