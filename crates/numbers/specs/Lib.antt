-- The number helpers of document 01, over IEEE 754 as `lib.Ieee` has it. A NaN is one value; `fin s m e` is m × 2^e, negative where s is true.
pub mod Constants
pub mod Rounded
pub mod Limits
pub mod Conversions
pub mod Counts
pub mod Bytes
pub mod StandIns
pub mod Parts
