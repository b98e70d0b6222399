-- What a promise to users rests on. Who wants to know what is proved reads these files, in the order that docs/GUARANTEES.md gives.
pub mod Pasts
pub mod Turns
pub mod Moments
pub mod Runs
pub mod Histories
pub mod Answers
pub mod Lines
pub mod Decided
pub mod Proven
