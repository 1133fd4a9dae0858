pub mod HeadRange
pub mod Filling
pub mod ReadEnds
pub mod BranchRowsFilled
pub mod RowsHoldBook
pub mod ReadOnce
pub mod StatusSet
