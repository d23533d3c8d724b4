-- definitions, in the order of the request
pub mod Lines
-- what the code promises on the way
pub mod Writing
-- laws
pub mod DecimalLaws
pub mod WritingLaws
