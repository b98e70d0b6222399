pub mod TextLiterals
pub mod LeadBytes
pub mod LeadBehind
pub mod ExtendedModels
pub mod DecidedBehind
pub mod SimplifiedTexts
mod ShownTexts
mod WrappedTexts
mod SpentRounds
mod LimitedSteps
mod TimedOptions
