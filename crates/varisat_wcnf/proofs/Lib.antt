pub mod Reading
pub mod Printing
