pub mod Scan
pub mod Moving
pub mod MovedBook
pub mod Examples
