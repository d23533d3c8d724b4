-- definitions
pub mod Field
pub mod Transform
-- laws
pub mod RootLaws
pub mod TransformLaws
pub mod ConvolutionLaws
pub mod FoldingLaws
pub mod LengthLaws
pub mod HalvingLaws
pub mod FieldLaws
pub mod FieldSizeLaws
