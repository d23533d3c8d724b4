-- What a call gives is the product of its place; the products of all other places are 0.
use Rattle.std.proofs.Common.{◌≡◌, ◌∙◌, sym, ap, ℕ, ◌+◌, ◌-◌, ◌^◌, ◌<◌, ◌≤◌, List, ℤ, pos, ◌*ℤ◌, get_or, arith, to_z-of_z, w64, rules}
use Rattle.std.proofs.Math.IntN.{*ℤ-zero}
use borrow.Author.Rules.{sfits_of}
use Rattle.layer.specs.Direct.{within}
use Rattle.layer.specs.WindowLaws.{within_is, within_yes, when_yes, when_no}
use Rattle.joined.specs.declared.places.Part.{Part}
use Rattle.joined.specs.Products.{product_at, row_sum}
use Rattle.joined.proofs.Totals.{total_all}
use Rattle.joined.proofs.sums.row_sum.Goals as goal
use Rattle.joined.proofs.sums.row_sum.Goals.{After-total}

module _ (first : List ℤ) (row : Part) (second : List ℤ) (other : Part) (b j : ℕ) where
  outside : (j ≤ b → b - j < other.side → ⊥) → product_at first row second other b j ≡ pos 0
  unfolding product_at
  outside out =
      let none = when_no (within j other.side b) (get_or second (other.start + (b - j)) (pos 0)) (λ t.
      let h = within_is j other.side b t in out h.0 h.1) in
      rw none (*ℤ-zero (get_or first (row.start + j) (pos 0)))

  met : j ≤ b → b - j < other.side
      → product_at first row second other b j ≡ get_or first (row.start + j) (pos 0) *ℤ get_or second (other.start + (b - j)) (pos 0)
  unfolding product_at
  met l k =
      ap (λ (z : ℤ). get_or first (row.start + j) (pos 0) *ℤ z)
      (when_yes (within j other.side b) _ (within_yes j other.side b l k))

pub returns : goal.returns
unfolding row_sum
returns c =
    let a = c.args in
    let term = product_at a.first.now a.row a.second.now a.other a.b in
    let word = to_z-of_z {w = w64} {z = c.total.result} (sfits_of c.total.type_inv) in
    let given = c.total.ensures.is term
    (λ j value l k p.
    let e : value ≡ get_or a.first.now (a.row.start + j) (pos 0) *ℤ get_or a.second.now (a.other.start + (a.b - j)) (pos 0) = search rules in
    e ∙ sym (met a.first.now a.row a.second.now a.other a.b j (omega arith) (omega arith)))
    (λ j l. outside a.first.now a.row a.second.now a.other a.b j (λ m n. omega arith)) in
    rw word (
      given ∙ sym (total_all a.row.side term (omega arith) (λ j l k. outside a.first.now a.row a.second.now a.other a.b j (λ m n. omega arith))),
      omega (arith, c.total.ensures.small (2 ^ 30) (λ j value l k p. search rules)),
    )
