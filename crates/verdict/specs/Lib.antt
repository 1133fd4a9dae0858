pub mod Case
pub mod Excess
pub mod Island
pub mod Record
pub mod Update
