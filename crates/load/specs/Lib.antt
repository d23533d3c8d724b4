-- definitions
pub mod Load
pub mod Offender
pub mod Blank
pub mod Weights
-- laws
pub mod OffenderLaws
