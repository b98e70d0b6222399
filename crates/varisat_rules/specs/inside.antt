-- What contracts inside of the program cite. No promise to users rests on these definitions.
pub mod Deriving
pub mod Noting
pub mod Resolving
pub mod States
