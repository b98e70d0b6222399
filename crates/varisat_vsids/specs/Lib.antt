pub mod Heaps
pub mod Idle
pub mod Activities
