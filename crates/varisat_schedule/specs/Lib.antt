pub mod Walks
pub mod Plans
pub mod CallSteps
