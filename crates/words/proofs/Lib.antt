-- laws that the proofs share
mod ReadNumbers
mod FirstPlaces
mod NextWords
mod ReadSigns
mod ReadWords
