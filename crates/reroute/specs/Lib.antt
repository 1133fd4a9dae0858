pub mod InsideMoves
pub mod InsideVerdicts
pub mod Inside
