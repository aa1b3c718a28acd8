pub mod CommonDivisors
pub mod Capped
pub mod LimitLines
