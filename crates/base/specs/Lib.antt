-- definitions
pub mod Rules
pub mod Number
pub mod Refusals
-- laws
pub mod RulesLaws
pub mod NumberLaws
pub mod RefusalsLaws
