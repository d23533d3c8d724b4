-- All rows of a window are the window. It rests on the law of what a row shows (ShowsLaws).
use mathlib.Core.Path.{◌≡◌, ap, ◌∙◌}
use mathlib.Core.List.{List}
use Prim.Native.Nat.{ℕ, ◌+◌, ◌*◌, ◌-◌, ◌/◌, ◌%◌, ◌<◌, ◌≤◌}
use native.Mathlib.Nat.{zero-add}
use native.Mathlib.Omega.{arith}
use lib.Arith.{digits_lt, digits_div, digits_mod}
use lib.IntN.{ℤ}
use lib.ListN.{length, get_or, drop, length-drop}
use lib.Seq.{length-take-le}
use borrow.Rule.Slice.PartMut.{mid_of, put_mid}
use Rattle.algebra.specs.Places.{Run}
use Rattle.fermat.specs.Field.{modulus, transform_length}
use Rattle.spectrum.specs.Value.{Word}
use Rattle.layer.specs.declared.shape.Layer.{Layer}
use Rattle.window.specs.declared.shown.Shown.{Shown}
use Rattle.window.specs.Window.{window_at}
use Rattle.window.specs.Loaded.{Loaded, HoldsWindow}
use Rattle.window.specs.Shows.{Shows, line_at}
use Rattle.window.specs.ShowsLaws.{line_window}
use Rattle.window.proofs.Loads.{loaded_as, loaded_runs, loaded_part}

-- the value at the flat place p of a window
abbrev pub window_of : Layer → List ℤ → (channel row column p : ℕ) → ℤ
window_of l map channel row column p = window_at l map channel row column (p / transform_length l.field) (p % transform_length l.field)

module _ (l : Layer) (map : List ℤ) (channel row column : ℕ) where
  -- what is shown for the grid row `row + u` is the window's row u
  window_row : (s : Shown) (u p : ℕ) → Shows l (transform_length l.field) column s
      → Run (u * transform_length l.field) (transform_length l.field) p
      → line_at l s map channel (row + u) 0 (p - u * transform_length l.field) ≡ window_of l map channel row column p
  window_row s u p shows (low, high) = go (p - u * transform_length l.field) (omega arith) (omega arith)
    where
      go : (v : ℕ) → p ≡ u * transform_length l.field + v → v < transform_length l.field
          → line_at l s map channel (row + u) 0 v ≡ window_of l map channel row column p
      go v e short =
          rw (e, digits_div u short, digits_mod u short)
          (rw (zero-add v) at (line_window l map channel row column (transform_length l.field) s shows 0 u v short))

  -- one row more, that was lent
  pub next_row : {m n : ℕ} {xs ys zs : List ℕ} (s : Shown) (u : ℕ) → Shows l (transform_length l.field) column s
      → n ≡ transform_length l.field → u * n + n ≤ length xs
      → Loaded m (Run 0 (u * transform_length l.field)) (window_of l map channel row column) xs ys
      → Loaded m (Run 0 (length (mid_of (u * n) (u * n + n - u * n) ys))) (λ p. line_at l s map channel (row + u) 0 p)
      (mid_of (u * n) (u * n + n - u * n) ys) zs
      → Loaded m (Run 0 ((u + 1) * transform_length l.field)) (window_of l map channel row column) xs
      (put_mid (u * n) (u * n + n - u * n) ys zs)
  next_row {m} {n} {xs} {ys} {zs} s u shows n_is room before line =
      let e : u * transform_length l.field + transform_length l.field ≡ (u + 1) * transform_length l.field = omega arith in
      rw e at (loaded_runs 0 (u * transform_length l.field) (transform_length l.field) before next)
    where
      same : u * n ≡ u * transform_length l.field
      same = ap (λ (k : ℕ). u * k) n_is

      size : length (mid_of (u * n) (u * n + n - u * n) ys) ≡ n
      size =
          length-take-le (u * n + n - u * n) (drop (u * n) ys) (omega (arith, length-drop (u * n) ys, before.same_length, room)) ∙ omega arith

      next : Loaded m (Run (0 + u * transform_length l.field) (transform_length l.field)) (window_of l map channel row column) ys
          (put_mid (u * n) (u * n + n - u * n) ys zs)
      next =
          loaded_as (loaded_part (u * n) (u * n + n - u * n) (omega (arith, before.same_length, room)) line)
          (λ p _ h.
          let run : Run (u * transform_length l.field) (transform_length l.field) p = (omega arith, omega arith) in (
            ((omega (arith, same), omega (arith, same, n_is)), (omega arith, omega (arith, same, n_is, size))),
            ap (λ (k : ℕ). line_at l s map channel (row + u) 0 (p - k)) same ∙ window_row s u p shows run,
          ))
          (λ p h. (omega (arith, same, h.0), omega (arith, same, n_is, h.0)))

  -- all rows
  pub windowed : {xs ys : List ℕ} → length xs ≡ transform_length l.field * transform_length l.field
      → Loaded (modulus l.field) (Run 0 (transform_length l.field * transform_length l.field)) (window_of l map channel row column) xs ys
      → HoldsWindow l map channel row column ys
  windowed {ys = ys} size loaded = record {
    value = λ u v h k. rw (digits_div u k, digits_mod u k) at (each (u * transform_length l.field + v) (digits_lt h k)).value;
    bound = λ p h. (each p (omega (arith, loaded.same_length))).bound;
  }
    where
      each : (p : ℕ) → p < transform_length l.field * transform_length l.field
          → Word (modulus l.field) (window_of l map channel row column p) (get_or ys p 0)
      each p h = loaded.here p (omega arith) (omega arith, omega arith)
