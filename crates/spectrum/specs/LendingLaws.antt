-- Three parts of A words in scratch: the sum of products, the kernel, the window. The kernel's part and the window's are lent one after the
-- other, and what comes back stands in scratch. It rests on the laws of parts.
use Rattle.std.specs.Prelude.{◌≡◌, List, ℕ, ◌+◌, ◌*◌, ◌-◌, ◌≤◌, ◌<◌, length, get_or}
use Rattle.std.proofs.Common.{sym, ap, ◌∙◌, arith}
use Rattle.std.proofs.Math.Decide.{dec_lt}
use borrow.Rule.Slice.PartMut.{put_mid}
use Rattle.algebra.specs.Places.{Changed}
use Rattle.algebra.specs.PlacesLaws.{get_d_put_mid, changed_part, changed_again}

-- from place a₁ on k₁ words are lent and come back as ks, then from a₂ on k₂ words, which come back as ws
pub record Lending (A a₁ k₁ a₂ k₂ : ℕ) (xs ks ws : List ℕ) : Type 0 where
  pub kernel_at_lem : a₁ ≡ A
  pub kernel_count_lem : k₁ ≡ A
  pub window_at_lem : a₂ ≡ 2 * A
  pub window_count : k₂ ≡ A
  pub room : 3 * A ≤ length xs
  pub kernel_length : length ks ≡ A
  pub window_length : length ws ≡ A

module _ {A a₁ k₁ a₂ k₂ : ℕ} {xs ks ws : List ℕ} (p : Lending A a₁ k₁ a₂ k₂ xs ks ws) where
  -- scratch after the first part came back, and after the second
  abbrev one : List ℕ
  one = put_mid a₁ k₁ xs ks

  abbrev both : List ℕ
  both = put_mid a₂ k₂ one ws

  first_room : a₁ + k₁ ≤ length xs
  first_room = omega (arith, p.kernel_at_lem, p.kernel_count_lem, p.room)

  first_length : length ks ≡ k₁
  first_length = p.kernel_length ∙ sym p.kernel_count_lem

  first : Changed 0 a₁ (a₁ + k₁) xs one
  first = changed_part xs ks a₁ k₁ first_room first_length

  second_room : a₂ + k₂ ≤ length one
  second_room = omega (arith, first.same_length, p.window_at_lem, p.window_count, p.room)

  second_length : length ws ≡ k₂
  second_length = p.window_length ∙ sym p.window_count

  second : Changed 0 a₂ (a₂ + k₂) one both
  second = changed_part one ws a₂ k₂ second_room second_length

  pub lent_changed : Changed 0 A (3 * A) xs both
  lent_changed =
      changed_again A (3 * A) (omega (arith, p.kernel_at_lem)) (omega (arith, p.window_at_lem))
      (omega (arith, p.kernel_at_lem, p.kernel_count_lem)) (omega (arith, p.window_at_lem, p.window_count)) first second

  -- the kernel's part and the window's are apart
  pub kernel_word : (i : ℕ) → i < A → get_or both (A + i) 0 ≡ get_or ks i 0
  kernel_word i h =
      let e : A + i ≡ a₁ + i = omega (arith, p.kernel_at_lem) in
      second.before (A + i) (omega (arith, p.window_at_lem)) ∙ ap (λ (j : ℕ). get_or one j 0) e
      ∙ get_d_put_mid 0 xs ks a₁ k₁ first_room first_length i (omega (arith, p.kernel_count_lem))

  pub window_word : (i : ℕ) → i < A → get_or both (A + A + i) 0 ≡ get_or ws i 0
  window_word i h =
      let e : A + A + i ≡ a₂ + i = omega (arith, p.window_at_lem) in
      ap (λ (j : ℕ). get_or both j 0) e ∙ get_d_put_mid 0 one ws a₂ k₂ second_room second_length i (omega (arith, p.window_count))

  -- a bound of both transforms
  pub lent_most : {most : ℕ} → ((i : ℕ) → i < A → get_or ks i 0 ≤ most) → ((i : ℕ) → i < A → get_or ws i 0 ≤ most)
      → (i : ℕ) → A ≤ i → i < 3 * A → get_or both i 0 ≤ most
  lent_most {most} kernel window i low high = go (dec_lt i (2 * A))
    where
      go : Dec (i < 2 * A) → get_or both i 0 ≤ most
      go (yes h) =
          let e : i ≡ A + (i - A) = omega arith in
          rw (ap (λ (j : ℕ). get_or both j 0) e ∙ kernel_word (i - A) (omega arith)) (kernel (i - A) (omega arith))
      go (no h) =
          let e : i ≡ A + A + (i - 2 * A) = omega arith in
          rw (ap (λ (j : ℕ). get_or both j 0) e ∙ window_word (i - 2 * A) (omega arith)) (window (i - 2 * A) (omega arith))
