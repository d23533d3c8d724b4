-- What an output holds once parts are finished: place by place, for no part, for two runs of parts in a row and for all parts. It rests on
-- the laws of tables.
use Rattle.std.specs.Prelude.{◌≡◌, refl, Bool, ◌&&◌, cond, List, ℕ, ◌<◌, ◌≤◌, leb, ltb, ℤ, pos, length, get_or}
use Rattle.std.proofs.Common.{sym, ◌∙◌, arith, ext_get_or, le-leb, lt-ltb, le-ltb}
use Rattle.std.proofs.Math.Decide.{dec_lt}
use Rattle.std.proofs.lemmas.Bool.{lt-leb}
use Rattle.algebra.specs.Places.{table}
use Rattle.algebra.specs.PlacesLaws.{length-table, get_d_table, table_of}
use Rattle.layer.specs.Planned.{Planned}
use Rattle.layer.specs.declared.shape.Layer.{Layer}
use Rattle.layer.specs.Shape.{output_count}
use Rattle.layer.specs.Direct.{direct_at}
use Rattle.checks.specs.Engine.{Engine, Lawful}
use Rattle.engine.specs.Call.{finished}

module _ (engine : Engine) (l : Layer) (map kernel : List ℤ) where
  -- ---- place by place

  pub length-finished : (from to : ℕ) (output : List ℤ) → length (finished engine l map kernel from to output) ≡ length output
  unfolding finished
  length-finished from to output = length-table (length output) _

  module _ (from to : ℕ) (output : List ℤ) (p : ℕ) (below : p < length output) where
    -- by the test of the place's part
    by_test : {low high : Bool} → leb from (engine.part_of l p) ≡ low → ltb (engine.part_of l p) to ≡ high
        → get_or (finished engine l map kernel from to output) p (pos 0) ≡ cond (low && high) (direct_at l map kernel p) (get_or output p (pos 0))
    unfolding finished
    by_test a b = get_d_table (pos 0) (length output) _ p below ∙ rw (a, b)

    -- the place lies in one of the parts
    pub get_d_finished_in : from ≤ engine.part_of l p → engine.part_of l p < to → get_or (finished engine l map kernel from to output) p (pos 0) ≡ direct_at l map kernel p
    get_d_finished_in a b = by_test (le-leb from (engine.part_of l p) a) (lt-ltb (engine.part_of l p) to b)

    -- it lies in none of them
    pub get_d_finished_out : (from ≤ engine.part_of l p → engine.part_of l p < to → ⊥)
        → get_or (finished engine l map kernel from to output) p (pos 0) ≡ get_or output p (pos 0)
    get_d_finished_out none = go (dec_lt (engine.part_of l p) from)
      where
        go : Dec (engine.part_of l p < from) → get_or (finished engine l map kernel from to output) p (pos 0) ≡ get_or output p (pos 0)
        go (yes a) = by_test (lt-leb from (engine.part_of l p) a) refl
        go (no a) =
            let past : engine.part_of l p < to → ⊥ = none (omega arith) in
            by_test (le-leb from (engine.part_of l p) (omega arith)) (le-ltb (engine.part_of l p) to (omega arith))

  -- ---- the whole output

  pub finished_none : (from : ℕ) (output : List ℤ) → finished engine l map kernel from from output ≡ output
  finished_none from output =
      ext_get_or (pos 0) _ _ (length-finished from from output)
      (λ p h. get_d_finished_out from from output p (omega (arith, length-finished from from output)) (λ a b. omega arith))

  -- the parts up to `middle`, then those from it on
  pub finished_then : (from middle to : ℕ) (output : List ℤ) → from ≤ middle → middle ≤ to
      → finished engine l map kernel middle to (finished engine l map kernel from middle output) ≡ finished engine l map kernel from to output
  finished_then from middle to output a b =
      ext_get_or (pos 0) _ _ (length-finished middle to before ∙ same ∙ sym (length-finished from to output))
      (λ p h. go p (omega (arith, length-finished middle to before, same))
      (dec_lt (engine.part_of l p) from) (dec_lt (engine.part_of l p) middle) (dec_lt (engine.part_of l p) to))
    where
      before : List ℤ
      before = finished engine l map kernel from middle output

      same : length before ≡ length output
      same = length-finished from middle output

      go : (p : ℕ) → p < length output → Dec (engine.part_of l p < from) → Dec (engine.part_of l p < middle) → Dec (engine.part_of l p < to)
          → get_or (finished engine l map kernel middle to before) p (pos 0) ≡ get_or (finished engine l map kernel from to output) p (pos 0)
      go p h (yes i) _ _ =
          get_d_finished_out middle to before p (omega (arith, same)) (λ x y. omega arith)
          ∙ get_d_finished_out from middle output p h (λ x y. omega arith)
          ∙ sym (get_d_finished_out from to output p h (λ x y. omega arith))
      go p h (no i) (yes j) _ =
          get_d_finished_out middle to before p (omega (arith, same)) (λ x y. omega arith)
          ∙ get_d_finished_in from middle output p h (omega arith) j
          ∙ sym (get_d_finished_in from to output p h (omega arith) (omega arith))
      go p h (no i) (no j) (yes k) =
          get_d_finished_in middle to before p (omega (arith, same)) (omega arith) k
          ∙ sym (get_d_finished_in from to output p h (omega arith) k)
      go p h (no i) (no j) (no k) =
          get_d_finished_out middle to before p (omega (arith, same)) (λ x y. omega arith)
          ∙ get_d_finished_out from middle output p h (λ x y. omega arith)
          ∙ sym (get_d_finished_out from to output p h (λ x y. omega arith))

  -- all parts of an accepted layer: every place is a direct sum
  pub finished_all : Lawful engine → (output : List ℤ) → Planned l → length output ≡ output_count l
      → finished engine l map kernel 0 (engine.total l) output ≡ table (length output) (direct_at l map kernel)
  finished_all lawful output plan size =
      table_of (pos 0) (length output) (direct_at l map kernel) _ (length-finished 0 (engine.total l) output)
      (λ p h. get_d_finished_in 0 (engine.total l) output p h (omega arith) (lawful.covers l plan p (omega (arith, size))))
