pub mod Watch
pub mod Inputs
pub mod ReadFaults
pub mod Lines
pub mod Devices
pub mod Keeping
