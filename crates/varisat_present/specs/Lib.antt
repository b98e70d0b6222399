pub mod Knowing
pub mod Pairs
pub mod Places
