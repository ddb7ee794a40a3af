-- Document 01, 'One voice': lane.rs.
pub mod Planning
pub mod Voices
pub mod Readings
pub mod Schedule
pub mod BenchVoices
