-- What `play` prints: document 01, 'The event list'.
pub mod Text
pub mod Digits
pub mod Lines
