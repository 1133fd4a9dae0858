pub mod Parts
pub mod Limits
pub mod Examples
