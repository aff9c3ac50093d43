pub mod LineLaws
pub mod TextLaws
pub mod Loops
pub mod Passing
pub mod TextParts
pub mod ValueParts
