-- The event list's records: document 01, 'The event list'.
pub mod Format
