-- The bank: document 01, 'The bank' and "No's, by call"; mod.rs's `EnvelopeBank`.
pub mod Calls
pub mod Banks
pub mod Replies
pub mod Lent
pub mod Parts
pub mod Frames
