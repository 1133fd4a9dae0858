pub mod TotalsSoFar
pub mod Filling
pub mod Given
pub mod MeterAnswers
pub mod SumsToZero
