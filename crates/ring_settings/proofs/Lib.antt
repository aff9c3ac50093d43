pub mod Documents
pub mod Each
pub mod ScriptLaws
pub mod Walks
pub mod RingLaws
pub mod SeatLaws
pub mod PlanLaws
pub mod SizeLaws
