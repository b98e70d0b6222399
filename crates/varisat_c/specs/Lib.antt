pub mod ClientHandles
pub mod Codes
pub mod Ends
pub mod Handles
pub mod SimplifierHandles
pub mod Slots
