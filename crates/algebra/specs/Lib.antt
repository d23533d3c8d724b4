-- definitions
pub mod Sum
pub mod Counted
pub mod First
pub mod Greatest
pub mod Every
pub mod Congruence
pub mod Residue
pub mod Places
pub mod Planes
-- laws
pub mod SumLaws
pub mod DoubleSums
pub mod TripleSums
pub mod CountedLaws
pub mod EveryLaws
pub mod FirstLaws
pub mod GreatestLaws
pub mod PowerLaws
pub mod CongruenceLaws
pub mod Integer
pub mod SignLaws
pub mod SizeLaws
pub mod ResidueLaws
pub mod PlacesLaws
pub mod PlanesLaws
pub mod EachWord
