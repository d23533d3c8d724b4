-- definitions, in the order of the request
pub mod Sequence
pub mod Sequenced
pub mod Ready
-- laws
pub mod SequenceLaws
pub mod ReadyLaws
pub mod CutLaws
pub mod SequenceCases
