-- Laws about curves: the absolute value in the test for a straight segment, where a curve begins, and u after so many samples.
pub mod Straight
pub mod Start
pub mod Steps
