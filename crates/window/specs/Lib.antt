-- definitions
pub mod Window
pub mod Loaded
pub mod Shows
-- laws
pub mod LoadedLaws
pub mod ShowsLaws
