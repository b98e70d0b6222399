pub mod inside
pub mod promises
