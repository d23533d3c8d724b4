-- definitions
pub mod Origin
pub mod Rows
pub mod Stored
