-- Laws about numbers at equal distances, and about voices that are stored.
pub mod Spaced
pub mod Storing
