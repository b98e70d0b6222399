pub mod KeptLiterals
pub mod RatPlaces
pub mod FirstPlaces
