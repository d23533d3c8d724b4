-- definitions, in the order of the request
pub mod ProductSums
pub mod CallsMade
