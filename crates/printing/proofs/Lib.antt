pub mod Texts
pub mod Counted
pub mod ShownOfCase
pub mod LinesApart
pub mod InTheList
pub mod OneList
