pub mod Checking
pub mod FlowLeft
pub mod Touching
pub mod OutageEnds
