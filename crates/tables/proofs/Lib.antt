pub mod MeterCommand
pub mod Written
