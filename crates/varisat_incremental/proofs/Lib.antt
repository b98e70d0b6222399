pub mod BatchLemmas
pub mod FlagLemmas
pub mod StackLemmas
pub mod TakingLemmas
