pub mod ChannelLaws
mod Loads
mod Rows
mod WindowRows
mod Figures
mod Corner
