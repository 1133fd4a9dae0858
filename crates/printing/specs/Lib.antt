pub mod Lines
pub mod List
pub mod Inside
