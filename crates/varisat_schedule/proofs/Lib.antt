pub mod WalkPlaces
pub mod RestartPlans
pub mod CallSteps
pub mod StepsWithout
