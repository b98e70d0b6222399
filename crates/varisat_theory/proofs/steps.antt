pub mod StepParts
pub mod SearchFits
pub mod StepChanges
pub mod StepEnds
pub mod StepLoads
pub mod StepAccounts
pub mod StepRetirements
pub mod StepsMade
