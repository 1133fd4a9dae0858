pub mod Row
pub mod Sum
pub mod Bit
pub mod Inside
