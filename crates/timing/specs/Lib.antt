-- mod.rs's Timing and document 01, 'Timing'.
pub mod Clock
pub mod Codes
pub mod Samples
