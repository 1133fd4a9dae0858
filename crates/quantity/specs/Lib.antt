pub mod Rating
pub mod Signed
pub mod Register
pub mod Inside
