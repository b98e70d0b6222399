pub mod Ranks
pub mod Luby
pub mod LubyWalk
pub mod IntervalBounds
pub mod Count
pub mod CallBounds
pub mod RestartPoints
