pub mod CallsLaws
pub mod RunLaws
pub mod EnginesLaws
pub mod PreviewsLaws
-- laws that the proofs share
mod PartsWritten
mod Scratch
mod Outcomes
