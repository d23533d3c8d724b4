-- a law that the proofs share
mod SignedDecimals
