pub mod GroupLaws
pub mod LoadLaws
pub mod BlankLaws
mod Apart
mod GroupSums
mod KernelPlanes
mod Peaks
mod Searches
