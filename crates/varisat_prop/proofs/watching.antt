pub mod LongListed
pub mod LongRearranged
pub mod LongVisited
pub mod WatchKept
pub mod WatchRebuilt
pub mod WatchesHold
pub mod WatchesOnce
