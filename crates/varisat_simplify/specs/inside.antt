-- What contracts inside of the program cite. No promise to users rests on these definitions.
pub mod Loading
pub mod Parts
