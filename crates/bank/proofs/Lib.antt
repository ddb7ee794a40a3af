-- Laws of the bank: of its definitions, and of the arrays that hold it.
pub mod Frames
pub mod Bytes
pub mod Accepted
pub mod Representation
pub mod Repeats
pub mod ChordVoices
pub mod Answers
pub mod Replying
pub mod Runs
pub mod Drawing
pub mod Whole
