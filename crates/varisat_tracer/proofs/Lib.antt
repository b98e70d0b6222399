pub mod GlobalSteps
pub mod Logging
