-- definitions, in the order of the request
pub mod Words
-- what the code promises on the way
pub mod Reading
-- laws
pub mod ReadingLaws
