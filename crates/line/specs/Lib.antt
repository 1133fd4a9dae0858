pub mod Text
pub mod AnswerText
pub mod Inside
