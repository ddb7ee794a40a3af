-- Laws about counts of samples.
pub mod Counts
pub mod BenchValues
