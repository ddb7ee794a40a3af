-- A bank's numbers, in four arrays.
pub mod Spaced
pub mod Memory
