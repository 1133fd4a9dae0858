pub mod Split
pub mod KeptBranches
pub mod MergedRows
pub mod AttemptRows
pub mod Confining
pub mod Choosing
pub mod Replacing
