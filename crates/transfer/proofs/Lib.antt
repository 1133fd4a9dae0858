pub mod Injections
pub mod Checking
pub mod BookShifted
pub mod TransferEnds
