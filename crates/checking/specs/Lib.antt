-- What an event list asks of a bank, and the check of a whole list: document 01, 'The event list' and "No's, by call".
pub mod Actions
pub mod Checks
