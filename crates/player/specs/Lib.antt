-- Playing an event list: document 01, 'The event list'.
pub mod Playing
pub mod Takes
