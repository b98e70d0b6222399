-- What contracts inside of the program cite. No promise to users rests on these definitions.
pub mod Charges
pub mod Errors
pub mod Reductions
