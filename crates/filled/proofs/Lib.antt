-- Laws about lists by their elements, and about lists of which a part is filled.
pub mod Tables
pub mod Filling
