-- Rows of levels: document 01, 'The bank'; mod.rs's drawing.
pub mod Strides
pub mod Runs
pub mod Rows
pub mod Places
