-- Document 01, 'One voice' and "No's, by call": mod.rs's settings and stages, their codes and their limits.
pub mod Settings
pub mod Codes
pub mod Refusals
pub mod Stages
