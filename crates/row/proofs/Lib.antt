pub mod RootLaws
mod TwistedRows
mod Rows
