pub mod AssumptionLevels
pub mod AssumptionSteps
pub mod AssumptionContexts
pub mod NextAssumption
pub mod AssumptionOutcomes
