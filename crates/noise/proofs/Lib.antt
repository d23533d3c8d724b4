pub mod PeriodLaws
pub mod SeedCases
