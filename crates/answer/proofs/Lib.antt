pub mod Refusals
pub mod Said
pub mod Giving
pub mod Numbers
