pub mod Tests
pub mod OnBook
pub mod Marked
pub mod AnotherCall
pub mod Excluded
pub mod Elsewhere
pub mod NewScreen
pub mod LoadMoved
