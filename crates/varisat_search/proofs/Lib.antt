pub mod loading
pub mod stepping
pub mod learning
pub mod variables
pub mod simplifying
pub mod assuming
