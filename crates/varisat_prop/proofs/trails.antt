pub mod EnqueueAssignment
pub mod LiteralValues
pub mod PropagateQueue
pub mod PropagateSteps
pub mod NextLiteral
pub mod LiteralStates
pub mod TrailExtend
pub mod TrailValues
