pub mod ShortLists
pub mod BinaryPropagated
pub mod CountedPairs
pub mod DistinctPlaces
pub mod KeptPairs
pub mod PairAdded
pub mod SimplifiedPairs
