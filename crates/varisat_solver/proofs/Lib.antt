pub mod accepting
pub mod steps
pub mod calls
pub mod entries
pub mod leaving
pub mod modes
