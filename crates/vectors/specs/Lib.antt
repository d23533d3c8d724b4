-- definitions
pub mod Sequence
-- laws
pub mod SequenceLaws
