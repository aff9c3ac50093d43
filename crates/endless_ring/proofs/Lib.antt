pub mod Segments
pub mod Settled
pub mod Chained
pub mod Surveyed
pub mod Filled
pub mod Texted
