pub mod Bounded
pub mod Ranking
pub mod Spreading
pub mod Walking
pub mod Texts
