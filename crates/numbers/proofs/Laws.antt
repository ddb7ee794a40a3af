-- Laws that are not about one helper: order and `compare`, powers of two and digits, NaN and the sign of a rounding, bit patterns, the pattern of a
-- rounded binary32, zeros and adding +0, constants as the code writes them, bounds on binary64 results, and sizes by powers of two.
pub mod Order
pub mod Digits
pub mod Floats
pub mod Patterns
pub mod Binary32
pub mod Zero
pub mod Literals
pub mod Bounds
pub mod Sizes
