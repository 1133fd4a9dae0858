pub mod Registers
pub mod Promise
pub mod Inside
