-- definitions, in the order of the request
pub mod Steps
pub mod Answer
pub mod Linked
pub mod Lent
pub mod Runnable
-- laws
pub mod StepsLaws
pub mod AnswerLaws
pub mod LinkedLaws
pub mod RunnableLaws
pub mod UnreadLaws
pub mod PlacedLaws
