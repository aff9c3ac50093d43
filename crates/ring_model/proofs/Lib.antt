pub mod Below
pub mod Moves
pub mod Weight
pub mod Lead
pub mod Descent
pub mod Bound
pub mod Settled
pub mod Runs
pub mod Meaning
pub mod OtherLead
pub mod PlainLoops
mod Rows
pub mod Histories
pub mod Statewise
pub mod QuietRuns
pub mod Places
pub mod Fairness
pub mod HistoryLaws
pub mod Suffixes
pub mod Groups
pub mod Orders
pub mod Blocks
pub mod Wholes
pub mod OneCut
pub mod Scanning
pub mod Rounds
pub mod Waiting
pub mod Labels
pub mod FewRounds
pub mod FirstPasses
pub mod PassedValues
pub mod SlowRuns
pub mod LongRuns
pub mod LongestRepair
pub mod Progress
mod Steps
mod Worked
pub mod Shifts
pub mod ChainHistories
pub mod Tallied
pub mod Seen
mod WorkedChains
