-- The single envelope: document 01, 'One voice' and "No's, by call"; mod.rs's `Envelope`.
pub mod Envelopes
pub mod Calls
pub mod Parts
