pub mod Traced
pub mod TracedLists
pub mod TracedParts
pub mod Broken
