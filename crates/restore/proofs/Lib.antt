pub mod Checking
pub mod ToBeWritten
pub mod StateBack
pub mod ReturnEnds
