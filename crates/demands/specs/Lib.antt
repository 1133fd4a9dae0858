pub mod Answered
pub mod WhereWrong
pub mod Same
pub mod Run
pub mod Order
