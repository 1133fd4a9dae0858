pub mod InsideCalls
pub mod Inside
