mod Tiles
mod Widening
mod Corners
mod Products
mod OffsetResidues
mod Recovery
mod Sizes
