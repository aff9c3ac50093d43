pub mod Requested
pub mod CutTexts
pub mod Endings
pub mod MotionEndings
pub mod RepairEndings
pub mod StrictEndings
