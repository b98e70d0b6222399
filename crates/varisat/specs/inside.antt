-- What contracts inside of the program cite. No promise to users rests on these definitions.
pub mod WrongAnswers
pub mod Laws
pub mod FewSteps
pub mod Counts
