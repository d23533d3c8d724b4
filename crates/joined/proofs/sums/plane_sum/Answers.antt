-- What a call gives is the sum of its row; the sums of all other rows are 0.
use Rattle.std.proofs.Common.{◌≡◌, ◌∙◌, sym, ℕ, ◌*◌, ◌-◌, ◌^◌, ◌<◌, ◌≤◌, List, ℤ, pos, arith, to_z-of_z, w64, rules}
use borrow.Author.Rules.{sfits_of}
use Rattle.layer.specs.Direct.{within}
use Rattle.layer.specs.WindowLaws.{within_is, within_yes, when_yes, when_no}
use Rattle.joined.specs.declared.places.Part.{Part}
use Rattle.joined.specs.Products.{row_of, row_sum, row_at, plane_sum}
use Rattle.joined.proofs.Totals.{total_all}
use Rattle.joined.proofs.sums.plane_sum.Goals as goal

module _ (first : List ℤ) (plane : Part) (second : List ℤ) (other : Part) (a b i : ℕ) where
  outside : (i ≤ a → a - i < other.side → ⊥) → row_at first plane second other a b i ≡ pos 0
  unfolding row_at
  outside out = when_no (within i other.side a) _ (λ t. let h = within_is i other.side a t in out h.0 h.1)

  met : i ≤ a → a - i < other.side
      → row_at first plane second other a b i ≡ row_sum first (row_of plane i) second (row_of other (a - i)) b
  unfolding row_at
  met l k = when_yes (within i other.side a) _ (within_yes i other.side a l k)

pub returns : goal.returns
unfolding plane_sum
returns c =
    let x = c.args in
    let first = x.first.now in
    let second = x.second.now in
    let term = row_at first x.plane second x.other x.a x.b in
    let given = c.total.ensures.is term
    (λ i value l k p.
    let e : value ≡ row_sum first (row_of x.plane i) second (row_of x.other (x.a - i)) x.b = search rules in
    e ∙ sym (met first x.plane second x.other x.a x.b i (omega arith) (omega arith)))
    (λ i l. outside first x.plane second x.other x.a x.b i (λ m n. omega arith)) in
    rw (to_z-of_z {w = w64} {z = c.total.result} (sfits_of c.total.type_inv)) (
      given ∙ sym (total_all x.plane.side term (omega arith) (λ i l k. outside first x.plane second x.other x.a x.b i (λ m n. omega arith))),
      omega (arith, c.total.ensures.small (11 * 2 ^ 30) (λ i value l k p. search rules)),
    )
