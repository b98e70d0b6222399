pub mod DetachedAlone
pub mod DetachedTables
pub mod DetachedLists
pub mod DetachedSolvers
pub mod ForgottenCopies
pub mod DetachedValues
