-- laws that the proofs share
mod Reports
