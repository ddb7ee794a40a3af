-- Laws about rows and runs, each file on those before it.
pub mod Lent
mod LanesMoved
pub mod RowsDrawn
mod GroupsDrawn
pub mod BlocksDrawn
pub mod SpareLanes
pub mod WithinRuns
