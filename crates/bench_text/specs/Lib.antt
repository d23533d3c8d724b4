-- definitions
pub mod Printed
