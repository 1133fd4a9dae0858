pub mod Sum
pub mod Row
