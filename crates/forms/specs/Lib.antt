pub mod Move
pub mod Inside
