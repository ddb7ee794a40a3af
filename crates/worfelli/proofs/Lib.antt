-- Laws of what hosts get: what codes name, a host's list of calls, a reading behind a pointer, room for a list.
pub mod Named
pub mod Listed
pub mod Behind
pub mod Room
