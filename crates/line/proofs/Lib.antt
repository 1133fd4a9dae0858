pub mod Joined
pub mod Adding
pub mod FewestDigits
pub mod Group
pub mod Members
pub mod Plain
