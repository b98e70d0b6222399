pub mod promises
pub mod inside
