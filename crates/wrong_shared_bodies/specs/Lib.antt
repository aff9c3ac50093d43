pub mod LastRing
