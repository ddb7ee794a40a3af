-- What C's numbers stand for.
pub mod Clock
pub mod Note
