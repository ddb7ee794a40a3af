-- The proof of demand 3 and of the bench table, each file on those before it.
pub mod Lists
pub mod Kept
pub mod Simulation
pub mod Answers
pub mod Limits
pub mod Levels
pub mod Blocks
pub mod Chords
pub mod Notes
pub mod Demand
pub mod BenchValues
