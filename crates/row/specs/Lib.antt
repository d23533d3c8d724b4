-- definitions
pub mod Powers
pub mod Row
-- laws
pub mod PowersLaws
pub mod FrequencyLaws
pub mod RowLaws
