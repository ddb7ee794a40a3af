-- What C's numbers stand for, and what a host gets of a live bank and of a list.
pub mod Apart
pub mod Coded
pub mod Live
pub mod OutParameters
pub mod Layout
pub mod Lists
