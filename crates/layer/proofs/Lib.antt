pub mod WeighedLaws
pub mod ProductLaws
