-- definitions
pub mod Order
pub mod Butterfly
pub mod Halving
pub mod Passes
-- laws
pub mod OrderLaws
pub mod BoundLaws
pub mod WordLaws
pub mod PartLaws
pub mod PassLaws
pub mod GridLaws
