-- The definitions that the contracts cite.
pub mod Shapes
pub mod Spread
pub mod Growth
pub mod Pages
