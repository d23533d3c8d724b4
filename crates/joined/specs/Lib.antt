-- definitions
pub mod Joined
pub mod Joinable
pub mod Terms
pub mod Products
-- laws
pub mod ProductsLaws
