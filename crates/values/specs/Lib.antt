-- definitions
pub mod Values
pub mod PartSize
-- laws
pub mod ValuesLaws
pub mod PlaneLaws
pub mod PartSizeLaws
pub mod BeforeLaws
pub mod ValuesCases
