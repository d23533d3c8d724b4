pub mod Fronts
pub mod Cleared
