-- Each of `transformed` and `inverted` undoes the other, in every field and on all words: refused words are as they were, and accepted
-- words are residues before and after. It rests on the laws of the transform and on 2 being a root in each field.
use Rattle.std.specs.Prelude.{◌≡◌, List, length}
use Rattle.std.proofs.Math.Path.{sym}
use Rattle.std.proofs.Common.{◌∙◌, mod-lt, add-one, arith}
use Prim.Native.Nat.{ℕ, ◌*◌, ◌<◌}
use Rattle.std.proofs.Math.Decide.{ℕ_discrete}
use Rattle.std.proofs.Math.ListN.{get_or}
use Rattle.algebra.specs.Places.{table}
use Rattle.algebra.specs.PlacesLaws.{length-table, get_d_table, table_of}
use Rattle.algebra.specs.CongruenceLaws.{c_eq, c_refl, c_mul}
use Rattle.fermat.specs.Field.{modulus, transform_length, inverse_of_two, scale}
use Rattle.fermat.specs.Transform.{power_sum, transform_at, inverse_at, transform_in, inverse_in}
use Rattle.fermat.specs.TransformLaws.{c_power_sum, undo, redo}
use Rattle.fermat.specs.FieldLaws.{field_root}
use Rattle.transform.specs.Answer.{transform_code, Accepted, Operation, row, answered, transformed, inverted}
use Rattle.transform.specs.AnswerLaws.{accepted, code_accepted, answered-accepted, answered-refused}

-- an operation that gives residues and looks at N numbers alone
pub record OnRows (operation : Operation) (field : ℕ) : Type 0 where
  pub below : (x : ℕ → ℕ) (k : ℕ) → operation field x k < modulus field
  pub same : (x y : ℕ → ℕ) (k : ℕ) → ((i : ℕ) → i < transform_length field → x i ≡ y i) → operation field x k ≡ operation field y k

pub transform_rows : (t : ℕ) → OnRows transform_in t
unfolding transform_at
transform_rows t = record {
  below = λ x k. mod-lt (power_sum (transform_length t) 2 x k) (omega arith);
  same = λ x y k h. (c_power_sum (transform_length t) 2 x y k (λ i l. c_eq (h i l))).same;
}

pub inverse_rows : (t : ℕ) → OnRows inverse_in t
unfolding inverse_at
inverse_rows t = record {
  below = λ x k. mod-lt (scale t * power_sum (transform_length t) (inverse_of_two t) x k) (omega arith);
  same = λ x y k h. (c_mul (c_refl {a = scale t}) (c_power_sum (transform_length t) (inverse_of_two t) x y k (λ i l. c_eq (h i l)))).same;
}

-- the words that an operation makes are accepted again
pub row-accepted : {operation : Operation} {field : ℕ} → OnRows operation field → (words : List ℕ)
    → Accepted field words → Accepted field (row operation field words)
unfolding row
row-accepted {operation} {field} o words a =
    let x : ℕ → ℕ = λ n. get_or words n 0 in
    let size : length (table (transform_length field) (operation field x)) ≡ transform_length field = length-table (transform_length field) (operation field x) in
    record {
      field_low = a.field_low;
      field_high = a.field_high;
      same_length = size;
      below = λ i l. rw (get_d_table 0 (transform_length field) (operation field x) i (omega arith)) (o.below x i);
    }

module _ {there back : Operation} {field : ℕ} (t : OnRows there field) (b : OnRows back field)
    (returns : (x : ℕ → ℕ) (k : ℕ) → k < transform_length field → x k < modulus field → back field (there field x) k ≡ x k) where
  back-row : (words : List ℕ) → Accepted field words → row back field (row there field words) ≡ words
  unfolding row
  back-row words a =
      let x : ℕ → ℕ = λ n. get_or words n 0 in
      sym (table_of 0 (transform_length field) _ words a.same_length (λ k l. sym
      (b.same _ (there field x) k (λ i h. get_d_table 0 (transform_length field) (there field x) i h) ∙ returns x k l (a.below k (omega (arith, a.same_length))))))

  back-answered : (words : List ℕ) → answered back field (answered there field words) ≡ words
  back-answered words = go (ℕ_discrete (transform_code field words) 0)
    where
      go : Dec (transform_code field words ≡ 0) → answered back field (answered there field words) ≡ words
      go (no n) = rw (answered-refused field words there n) (answered-refused field words back n)
      go (yes e) =
          let a : Accepted field words = accepted field words e in
          let made : List ℕ = row there field words in
          rw (answered-accepted field words there e)
          (answered-accepted field made back (code_accepted field made (row-accepted t words a)) ∙ back-row words a)

-- the inverse undoes the transform
pub undo_transformed : (field : ℕ) (words : List ℕ) → inverted field (transformed field words) ≡ words
undo_transformed field = back-answered (transform_rows field) (inverse_rows field) (rw (← add-one field) at (undo (field_root field)))

-- the transform undoes the inverse
pub redo_inverted : (field : ℕ) (words : List ℕ) → transformed field (inverted field words) ≡ words
redo_inverted field = back-answered (inverse_rows field) (transform_rows field) (rw (← add-one field) at (redo (field_root field)))
