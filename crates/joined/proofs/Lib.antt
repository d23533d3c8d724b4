pub mod JoinedLaws
pub mod JoinLaw
mod Totals
