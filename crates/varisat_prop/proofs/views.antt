pub mod ClauseOrder
pub mod Leaving
pub mod ReadElements
pub mod SimplifiedClauses
pub mod SimplifiedView
pub mod ViewGrowth
pub mod WellFormedChanges
