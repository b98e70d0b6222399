pub mod AddedClause
pub mod ClauseLengths
pub mod LoadContext
pub mod LoadView
pub mod PairSearch
pub mod LoadedQueue
pub mod LoadedTrue
