pub mod CountLemmas
pub mod LoadLemmas
pub mod NormalLemmas
pub mod PartLemmas
pub mod UnloadLemmas
