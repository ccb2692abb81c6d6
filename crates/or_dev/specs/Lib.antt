pub mod Serial
pub mod Controller
pub mod Padding
pub mod Devices
