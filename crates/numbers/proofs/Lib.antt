-- Laws by subject. Laws/ is general: order, digits, floats and bit patterns. Each other file is about one helper's definition.
pub mod Laws
pub mod UnitInterval
pub mod Narrowing
pub mod Rounding
pub mod Exponential
pub mod ExponentialSize
pub mod Powers
pub mod Logarithm
pub mod Significand
pub mod Bytes
pub mod BenchValues
