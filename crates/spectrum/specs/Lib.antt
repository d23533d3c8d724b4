-- definitions
pub mod Value
pub mod Tile
pub mod Corner
pub mod Product
-- laws
pub mod ValueLaws
pub mod SpectrumLaws
pub mod LendingLaws
