mod LoadedRows
mod RowSums
mod Adding
mod Finishing
mod HeldPlaces
