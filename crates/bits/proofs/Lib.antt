pub mod Low
pub mod ReadAsPut
pub mod Window
pub mod Fields
pub mod Again
pub mod Counting
pub mod Marking
