-- The theorem over whole lists of calls, and document 01's bench table.
pub mod Demand
pub mod BenchValues
