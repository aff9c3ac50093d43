pub mod Summed
pub mod NotedReads
pub mod NotedEnds
