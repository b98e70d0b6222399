pub mod pairs
pub mod views
pub mod trails
pub mod watching
