pub mod ProductSumsLaws
-- laws that the proofs share
mod ThreeCalls
