pub mod HeapOrder
pub mod HeapPlaces
pub mod HeapHoles
pub mod HeapView
pub mod HeapGrowth
pub mod IdleVariables
pub mod ActivityLimits
pub mod AvailableAfter
