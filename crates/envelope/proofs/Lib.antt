-- The drawing of a block, and what holds of every envelope that calls from a fresh one left.
pub mod Runs
pub mod Cuts
pub mod Reachable
pub mod Notes
