pub mod Answer
pub mod Window
pub mod Meter
pub mod Share
pub mod Calls
pub mod MeterBytes
pub mod Runs
