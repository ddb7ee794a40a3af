-- Document 01, 'Curve segments': curve.rs, and `Segment` of lane.rs.
pub mod Segments
pub mod Curves
