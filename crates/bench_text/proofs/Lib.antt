mod Bodies
mod Counts
mod Headers
mod Runs
