mod StoredRows
mod HeldLines
mod HeldPlaces
