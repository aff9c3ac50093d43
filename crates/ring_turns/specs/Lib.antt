pub mod Looking
pub mod Spared
pub mod Turning
pub mod Waiting
