pub mod Case
pub mod Call
pub mod Inside
