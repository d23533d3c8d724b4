-- definitions
pub mod Window
pub mod Worst
pub mod Answer
pub mod Accepted
pub mod Reached
pub mod Exceeds
-- laws
pub mod WindowLaws
pub mod WorstLaws
pub mod ReachedLaws
pub mod AcceptedLaws
pub mod AnswerLaws
pub mod WorstCases
