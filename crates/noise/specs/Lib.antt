-- definitions
pub mod Draw
-- laws
pub mod DrawLaws
pub mod GeometricLaws
