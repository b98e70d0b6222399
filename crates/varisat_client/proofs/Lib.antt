pub mod Fitting
pub mod Refusing
pub mod Moving
pub mod Runs
pub mod Given
pub mod SetFlags
pub mod Giving
