-- Lists by their elements, and lists of which a part is filled.
pub mod Tables
pub mod Filled
