pub mod Form
pub mod Book
pub mod Fault
pub mod Layout
pub mod Rule
pub mod Check
pub mod Inside
