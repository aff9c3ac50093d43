pub mod Cells
pub mod Sizes
pub mod StateFault
pub mod Widths
