pub mod clauses
pub mod bounds
pub mod journals
pub mod steps
