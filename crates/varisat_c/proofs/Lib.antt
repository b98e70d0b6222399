pub mod ClientHandleWords
pub mod HandleWords
pub mod SearchEnds
pub mod SimplifierHandleWords
pub mod SlotWords
