-- definitions
pub mod Engine
pub mod Rules
pub mod Checks
pub mod Found
pub mod Callable
pub mod FormerLoad
-- laws
pub mod ChecksLaws
pub mod CallableLaws
pub mod OffenderLaws
pub mod FoundLaws
pub mod EngineLaws
pub mod BeyondLaws
pub mod FormerLoadLaws
pub mod Charts
pub mod LoadCases
pub mod OffenderCases
pub mod StripCases
