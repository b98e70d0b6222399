-- What a promise to users rests on. Who wants to know what is proved reads these files, in the order that docs/GUARANTEES.md gives.
pub mod Dimacs
pub mod Formulas
pub mod Parsed
pub mod Rest
pub mod Streams
pub mod TakenTexts
pub mod Values
pub mod Written
