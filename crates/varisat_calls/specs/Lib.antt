pub mod Numbers
pub mod Codes
pub mod Callers
pub mod Texts
pub mod Lookups
pub mod Lists
pub mod Simplifiers
pub mod Checks
