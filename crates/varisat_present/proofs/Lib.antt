pub mod Elements
pub mod MarkedLists
pub mod Mentions
pub mod KnownMarks
pub mod FarPlaces
pub mod PlacedClauses
pub mod KnownGrowth
pub mod QuietPairs
