-- definitions, in the order of the request
pub mod Shape
pub mod Strip
pub mod Numbers
pub mod Direct
pub mod Windows
pub mod Planned
-- laws
pub mod KindLaws
pub mod ShapeLaws
pub mod FullLaws
pub mod PlannedLaws
pub mod TileSizeLaws
pub mod CountLaws
pub mod PartLaws
pub mod TileLaws
pub mod StripLaws
pub mod PlaceLaws
pub mod WindowLaws
pub mod SpacedLaws
