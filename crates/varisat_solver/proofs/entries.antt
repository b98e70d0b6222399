pub mod CheckedHeld
pub mod StepEntries
pub mod LoggedEntries
pub mod LoggedProofs
pub mod OpenProofs
pub mod ReachedHeld
pub mod Targets
pub mod LoggedJournals
