-- What contracts inside of the program cite. No promise to users rests on these definitions.
pub mod SinceChange
pub mod Changes
pub mod Searches
pub mod Accepted
pub mod Accepting
pub mod Carried
pub mod Spaces
pub mod TextCalls
pub mod VariableChanges
pub mod Detached
pub mod Phases
pub mod Representations
