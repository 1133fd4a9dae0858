pub mod OnePlace
pub mod Walks
pub mod Moving
pub mod Casting
pub mod Rounds
pub mod Ends
pub mod FlowVerdicts
pub mod Delivering
