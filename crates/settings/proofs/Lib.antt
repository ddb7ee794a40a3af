-- Laws of the settings: what becomes of a refusal.
pub mod Propagated
