pub mod Made
pub mod Listed
