pub mod NearestLaws
pub mod LevelLaws
pub mod LevelCases
