-- definitions
pub mod Start
pub mod Channel
