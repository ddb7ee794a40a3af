-- Laws of the text that is printed: texts one after the other, digits, levels in bytes, the text of a list and how long it can be.
pub mod Writing
pub mod Numerals
pub mod Levels
pub mod Printed
pub mod Room
