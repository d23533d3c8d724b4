-- definitions
pub mod Stored
pub mod Held
-- laws
pub mod HeldLaws
pub mod LentLaws
pub mod ReadingLaws
