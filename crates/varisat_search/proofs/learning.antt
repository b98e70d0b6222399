pub mod LearnClause
pub mod LearnContext
pub mod LearnLines
pub mod LearnedHeaders
pub mod AssumedTruths
pub mod LeastHeld
