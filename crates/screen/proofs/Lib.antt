pub mod ScreenEnd
pub mod Screening
pub mod AcceptedScreen
