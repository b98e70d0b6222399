pub mod Batches
pub mod Flags
pub mod Reconstructions
