pub mod InsideStream
pub mod InsideSpaces
pub mod InsideNumbers
