-- What contracts inside of the program cite. No promise to users rests on these definitions.
pub mod NamesAndModes
pub mod NumberSets
pub mod CodePages
pub mod Entries
pub mod KeptCodes
pub mod Lending
