-- Laws of the format: numbers in bytes, and what a parsed record says.
pub mod Numbers
pub mod Records
