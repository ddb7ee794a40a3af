-- Laws of the check: one record, then record after record.
pub mod Judging
pub mod Passing
