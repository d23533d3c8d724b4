-- What the writer promises: from `at` on, a text stands in the buffer; what stood before it and after it stays.
use Rattle.std.specs.Prelude.{◌≡◌, List, ◌++◌, ℕ, ◌+◌, length, take, drop}

-- the buffer xs became ys, and `end` stands after the text
pub record Appended (at : ℕ) (text xs ys : List ℕ) (end : ℕ) : Type 0 where
  pub same_length : length ys ≡ length xs
  pub ends : end ≡ at + length text
  pub shown : take end ys ≡ take at xs ++ text
  pub after : drop end ys ≡ drop end xs
