-- What the program's uses of the lent envelope promise.
pub mod Notes
