-- Laws about one voice, each file on those before it.
pub mod Finding
pub mod Counts
pub mod Frames
pub mod Timed
pub mod Entering
pub mod Sound
pub mod Lengths
pub mod Lead
pub mod NewNote
pub mod BenchValues
