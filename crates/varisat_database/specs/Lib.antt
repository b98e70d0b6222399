pub mod Cuts
pub mod Databases
pub mod Flags
pub mod Lending
pub mod Names
pub mod Sound
pub mod Written
