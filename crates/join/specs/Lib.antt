-- definitions
pub mod Answer
-- laws
pub mod AnswerLaws
pub mod JoinCases
