-- Laws of the player: what an event does, record after record, and what the host gets.
pub mod Doing
pub mod Progress
pub mod Written
pub mod Takes
