-- What contracts inside of the program cite. No promise to users rests on these definitions.
pub mod Example
pub mod Luby
pub mod Rank
pub mod Laws
pub mod Outcomes
pub mod StepLaws
pub mod JournalLaws
