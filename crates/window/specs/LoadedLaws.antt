-- What words hold of weights that are lent, they hold of the kernel. It rests on the definitions of Loaded.
use Rattle.std.specs.Prelude.{◌≡◌, Bool, true, false, cond, List, ℕ, ◌+◌, ◌-◌, ◌≤◌, ◌<◌, ℤ, pos, length, get_or, drop}
use Rattle.std.proofs.Common.{ap, ◌∙◌, subst, zero-add, length-drop, length-take-le, get_or-take, get_or-drop, arith}
use borrow.Rule.Slice.PartMut.{mid_of}
use Rattle.algebra.specs.Residue.{Represents}
use Rattle.fermat.specs.Field.{modulus}
use Rattle.layer.specs.declared.shape.Layer.{Layer}
use Rattle.layer.specs.Shape.{is_conv}
use Rattle.window.specs.Window.{turned_in}
use Rattle.window.specs.Loaded.{HoldsWeights}

turned_lt : (l : Layer) (count i : ℕ) → i < count → turned_in l count i < count
turned_lt l count i below = go (is_conv l)
  where
    go : (t : Bool) → cond t (count - 1 - i) i < count
    go true = omega arith
    go false = below

pub weights_lent : (l : Layer) (kernel : List ℤ) (from k count : ℕ) {xs : List ℕ} → k ≡ count → from + count ≤ length kernel
    → HoldsWeights l (mid_of from k kernel) 0 (length (mid_of from k kernel)) xs → HoldsWeights l kernel from count xs
weights_lent l kernel from k count {xs} k_is room holds = record {
  value = λ i h.
      subst (λ (z : ℤ). Represents (modulus l.field) z (get_or xs i 0)) (same i h) (holds.value i (omega (arith, size)));
  empty = λ i h. holds.empty i (omega (arith, size));
  bound = holds.bound;
}
  where
    size : length (mid_of from k kernel) ≡ count
    size = length-take-le k (drop from kernel) (omega (arith, length-drop from kernel)) ∙ k_is

    same : (i : ℕ) → i < count
        → get_or (mid_of from k kernel) (0 + turned_in l (length (mid_of from k kernel)) i) (pos 0)
        ≡ get_or kernel (from + turned_in l count i) (pos 0)
    same i below =
        let j : ℕ = turned_in l count i in
        ap (λ (n : ℕ). get_or (mid_of from k kernel) (0 + turned_in l n i) (pos 0)) size
        ∙ get_or-take k (drop from kernel) (0 + j) (pos 0) (omega (arith, turned_lt l count i below)) ∙ get_or-drop from kernel (0 + j) (pos 0)
        ∙ ap (λ (n : ℕ). get_or kernel (from + n) (pos 0)) (zero-add j)
