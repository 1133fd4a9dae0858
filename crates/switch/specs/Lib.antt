pub mod Check
pub mod Inside
