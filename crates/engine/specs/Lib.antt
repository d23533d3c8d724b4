-- definitions, in the order of the request
pub mod Call
pub mod Calls
pub mod Preview
pub mod Previews
-- laws
pub mod AnswerLaws
pub mod FinishedLaws
