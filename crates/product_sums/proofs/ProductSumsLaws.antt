-- 01, "The two product sums", and 02, E7: the theorem on two whole lists of calls, each of an engine of its own, for every stride, and 01's
-- demand 3, where the stride divides, as its corollary. It rests on what the lists leave where
-- their budgets reach the total, on the product law, and on the sizes of a CONV layer and of the TCONV layer that leads back.
use Rattle.std.specs.Prelude.{◌≡◌, refl, List, ℕ, ◌+◌, ◌*◌, ◌<◌, ℤ, pos, ◌*ℤ◌, length}
use Rattle.std.proofs.Common.{sym, ap₂, ◌∙◌, arith, eq-eqb, ne_eqb}
use Rattle.std.proofs.Math.Arith.{digits_lt}
use Rattle.algebra.specs.Planes.{cell}
use Rattle.algebra.specs.PlanesLaws.{stacked_at_lem}
use Rattle.algebra.specs.PlacesLaws.{get_d_table}
use Rattle.algebra.specs.TripleSums.{sum3_cong}
use Rattle.layer.specs.PlannedLaws.{conv_room}
use Rattle.layer.specs.Planned.{Outputs, Planned}
use Rattle.layer.specs.declared.shape.Layer.{Layer}
use Rattle.layer.specs.Shape.{full_size, full_height, full_width}
use Rattle.layer.specs.ShapeLaws.{same_shape}
use Rattle.layer.specs.Direct.{conv, tconv, full_at, direct_at, product_sum}
use Rattle.layer.specs.FullLaws.{full_conv, full_tconv}
use Rattle.layer.proofs.ProductLaws.{product_law}
use Rattle.checks.specs.declared.method.Method.{Method}
use Rattle.checks.specs.Engine.{Engine, engine_of, Lawful}
use Rattle.checks.specs.EngineLaws.{lawful}
use Rattle.engine.specs.Calls.{JobCalls, output_of, Reaches}
use Rattle.engine.proofs.CallsLaws.{calls_callable, reached}
use Rattle.product_sums.specs.ProductSums.{NotCropped, Matched, remainder, Paired, EvenlyPaired, SumsAgree}

-- ---- the output of a layer that is not cropped

-- the direct sum at row i, column j of channel m of what the crop keeps
direct_cell : (l : Layer) (map kernel : List ℤ) (m i j : ℕ) → i < l.rows → j < l.columns
    → direct_at l map kernel ((m * l.rows + i) * l.columns + j) ≡ full_at l map kernel m (l.top + i) (l.left + j)
unfolding direct_at
direct_cell l map kernel m i j row column =
    stacked_at_lem l.rows l.columns (λ k r c. full_at l map kernel k (l.top + r) (l.left + c)) m i j row column

-- the values in the buffer after a list are the full output
full_cell : {engine : Engine} → Lawful engine → {l : Layer} {map kernel : List ℤ} (list : JobCalls engine l map kernel) → Reaches list → NotCropped l
    → (m i j : ℕ) → m < l.outputs → i < full_height l → j < full_width l
    → cell (full_height l) (full_width l) (output_of list) m i j ≡ full_at l map kernel m i j
full_cell lawful {l} {map} {kernel} list reaches whole m i j channel row column =
    let size = (calls_callable list lawful reaches.some).callable.output_length in
    let down : i < l.rows = omega (arith, whole.rows) in
    let across : j < l.columns = omega (arith, whole.columns) in
    let place : (m * l.rows + i) * l.columns + j < l.outputs * l.rows * l.columns = digits_lt (digits_lt channel down) across in
    rw (← whole.rows, ← whole.columns, reached list lawful reaches)
    (get_d_table (pos 0) (length list.first) (direct_at l map kernel) _ (omega (arith, size))
    ∙ direct_cell l map kernel m i j down across
    ∙ ap₂ (full_at l map kernel m) (omega (arith, whole.top)) (omega (arith, whole.left)))

-- ---- two layers that are paired: `forward` is CONV, `backward` is TCONV

module _ {forward backward : Layer} (pair : Paired forward backward) where
  abbrev paired : Matched forward backward
  paired = pair.matched

  -- along one side, TCONV leads back to the size of CONV's map
  size_back : (size added : ℕ) → Outputs forward size added → full_size backward (full_size forward size added) (remainder forward size) ≡ size
  size_back size added outputs =
      let room = conv_room forward size added outputs paired.conv_kind in
      rw (eq-eqb forward.kind 0 paired.conv_kind, ne_eqb backward.kind 0 (λ z. omega (arith, paired.tconv_kind)))
      (rw (paired.side, paired.stride, paired.padding) (same_shape size forward.side forward.stride forward.padding room))

  height_back : Planned forward → full_height backward ≡ forward.height
  height_back plan = ap₂ (full_size backward) paired.height pair.rows_added ∙ size_back forward.height forward.below plan.height_output

  width_back : Planned forward → full_width backward ≡ forward.width
  width_back plan = ap₂ (full_size backward) paired.width pair.columns_added ∙ size_back forward.width forward.beside plan.width_output

  -- u [m][e][f]
  conv-cell : {engine : Engine} → Lawful engine → {x kernel : List ℤ} (us : JobCalls engine forward x kernel) → Reaches us
      → (m e f : ℕ) → m < forward.outputs → e < full_height forward → f < full_width forward
      → cell (full_height forward) (full_width forward) (output_of us) m e f
      ≡ conv forward.inputs forward.height forward.width forward.side forward.stride forward.padding x kernel m e f
  conv-cell lawful {x} {kernel} us reaches m e f channel row column =
      full_cell lawful us reaches paired.conv_whole m e f channel row column ∙ full_conv forward x kernel m e f paired.conv_kind

  -- v [c][i][j], in the figures of CONV
  tconv-cell : {engine : Engine} → Lawful engine → {y kernel : List ℤ} (vs : JobCalls engine backward y kernel) → Reaches vs → Planned forward
      → (c i j : ℕ) → c < forward.inputs → i < forward.height → j < forward.width
      → cell forward.height forward.width (output_of vs) c i j
      ≡ tconv forward.outputs forward.inputs (full_height forward) (full_width forward)
      forward.side forward.stride forward.padding y kernel c i j
  tconv-cell lawful {y} {kernel} vs reaches plan c i j channel row column =
      let height : full_height backward ≡ forward.height = height_back plan in
      let width : full_width backward ≡ forward.width = width_back plan in
      rw (← height, ← width)
      (full_cell lawful vs reaches paired.tconv_whole c i j (omega (arith, paired.outputs)) (omega arith) (omega arith))
      ∙ full_tconv backward y kernel c i j paired.tconv_kind
      ∙ rw (paired.inputs, paired.outputs, paired.height, paired.width, paired.side, paired.stride, paired.padding)

-- ---- the theorem

-- sums of products whose factors agree
product_cong : (A B D : ℕ) (u u' v v' : ℕ → ℕ → ℕ → ℤ) → ((a b d : ℕ) → a < A → b < B → d < D → u a b d ≡ u' a b d)
    → ((a b d : ℕ) → a < A → b < B → d < D → v a b d ≡ v' a b d) → product_sum A B D u v ≡ product_sum A B D u' v'
unfolding product_sum
product_cong A B D u u' v v' f g = sum3_cong A B D _ _ (λ a b d i j k. ap₂ ◌*ℤ◌ (f a b d i j k) (g a b d i j k))

-- for any two lists of calls that reach their totals, of two layers that are paired, with one kernel; each list has an engine
pub product_sums : {one other : Engine} → Lawful one → Lawful other → {conv tconv : Layer} {x y kernel : List ℤ} → Paired conv tconv
    → (us : JobCalls one conv x kernel) (vs : JobCalls other tconv y kernel) → Reaches us → Reaches vs
    → SumsAgree conv x y (output_of us) (output_of vs)
product_sums one-lawful other-lawful {conv = l} {x = x} {y} {kernel} paired us vs u-reaches v-reaches =
    let plan : Planned l = (calls_callable us one-lawful u-reaches.some).callable.plan in
    product_cong l.outputs (full_height l) (full_width l) _ _ _ _ (conv-cell paired one-lawful us u-reaches) (λ m e f _ _ _. refl)
    ∙ product_law l.inputs l.outputs l.height l.width (full_height l) (full_width l) l.side l.stride l.padding x y kernel
    ∙ product_cong l.inputs l.height l.width _ _ _ _ (λ c i j _ _ _. refl)
    (λ c i j k h w. sym (tconv-cell paired other-lawful vs v-reaches plan c i j k h w))

-- where S divides, it leaves nothing, and nothing is added
pub evenly_paired : {conv tconv : Layer} → EvenlyPaired conv tconv → Paired conv tconv
evenly_paired even = record {
  matched = even.matched;
  rows_added = even.no_rows_added ∙ sym even.rows_divided;
  columns_added = even.no_columns_added ∙ sym even.columns_divided;
}

-- 01's demand 3, in its own words: the stride divides, and no rows or columns are added
pub product_sums_evenly : {one other : Engine} → Lawful one → Lawful other → {conv tconv : Layer} {x y kernel : List ℤ} → EvenlyPaired conv tconv
    → (us : JobCalls one conv x kernel) (vs : JobCalls other tconv y kernel) → Reaches us → Reaches vs
    → SumsAgree conv x y (output_of us) (output_of vs)
product_sums_evenly one-lawful other-lawful even = product_sums one-lawful other-lawful (evenly_paired even)

-- 02, E5: each list is kept to one method, either one, in either field that it has
pub product_sums_by : (one other : Method) {conv tconv : Layer} {x y kernel : List ℤ} → Paired conv tconv
    → (us : JobCalls (engine_of one) conv x kernel) (vs : JobCalls (engine_of other) tconv y kernel) → Reaches us → Reaches vs
    → SumsAgree conv x y (output_of us) (output_of vs)
product_sums_by one other = product_sums (lawful one) (lawful other)
