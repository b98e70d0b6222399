pub mod ClauseStatuses
pub mod PropagationRounds
pub mod Scans
pub mod Checking
