pub mod Partitions
pub mod KeptBindings
pub mod RisingBindings
pub mod Lines
pub mod KeptRings
