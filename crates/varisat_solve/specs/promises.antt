-- What a promise to users rests on. Who wants to know what is proved reads these files, in the order that docs/GUARANTEES.md gives.
pub mod Extending
pub mod Wrapping
pub mod Solving
pub mod Timing
