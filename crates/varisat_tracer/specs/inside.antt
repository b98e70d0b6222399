-- What contracts inside of the program cite. No promise to users rests on these definitions.
pub mod Tracing
pub mod Logged
pub mod RenamedEntries
pub mod TracerLaws
