-- What a promise to users rests on. Who wants to know what is proved reads these files, in the order that docs/GUARANTEES.md gives.
pub mod Marked
pub mod Results
pub mod Calls
pub mod DratChecks
pub mod Verified
pub mod Assumed
pub mod Passing
pub mod Proving
