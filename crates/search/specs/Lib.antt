pub mod InsideLinks
pub mod InsideSearch
pub mod Inside
