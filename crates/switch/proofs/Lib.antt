pub mod Checking
pub mod Switched
