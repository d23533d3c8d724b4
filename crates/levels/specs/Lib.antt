-- definitions
pub mod Level
pub mod Answer
-- laws
pub mod AnswerLaws
pub mod BySize
