pub mod Measuring
pub mod Tallying
pub mod Fitting
