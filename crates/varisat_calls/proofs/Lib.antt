pub mod Making
pub mod Fronts
pub mod Checking
pub mod Reading
pub mod Adding
pub mod Looking
pub mod Extending
pub mod SimplifierSteps
