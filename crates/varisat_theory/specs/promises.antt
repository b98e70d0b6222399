-- What a promise to users rests on. Who wants to know what is proved reads these files, in the order that docs/GUARANTEES.md gives.
pub mod Membership
pub mod Literals
pub mod Propagation
pub mod Derivations
pub mod Rat
pub mod Held
pub mod Analysis
pub mod Renaming
pub mod CallBounds
pub mod Counted
pub mod Searches
pub mod Journals
pub mod NewClauses
