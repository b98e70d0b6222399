pub mod CutLemmas
pub mod ListLemmas
pub mod WrittenLemmas
