pub mod HeldRetirements
pub mod Renaming
pub mod StepCounts
pub mod Spoken
pub mod StepCovers
pub mod Journals
pub mod RenamedJournals
pub mod NewClauses
