-- Pieces of n beats have what `Splitting` says: beat j is beat j % n of piece j / n, whose first byte is that of the beat.
use Prim.Native.Nat.{ℕ, zero, suc, ◌+◌, ◌*◌, ◌-◌, ◌/◌, ◌%◌, ◌≤◌, ◌<◌, min}
use mathlib.Core.Bool.{false, not}
use mathlib.Core.Path.{◌≡◌, refl, sym, ◌∙◌, ap}
use native.Mathlib.Decide.{dec_lt, ℕ_discrete}
use native.Mathlib.Nat.{add-mul, one-mul, zero-mul, mul-le-mul_right, le-mul_of_pos_right, le-div_iff_mul-le, lt-div-mul-add, le_trans}
use native.Mathlib.Nat.{div-mul-le_self, div-add-mod', mod-lt, mul-div_cancel, mul-add-div_right, mul-add-mod_self_right, div-eq_of_lt, mod-eq_of_lt}
use native.Mathlib.Omega.{arith}
use lib.Dec.{eqb}
use borrow.Author.Tests.{eqb-true, eq-eqb, ne_eqb, not-false}
use Rattle.folds.specs.Fold.{sum}
use Rattle.folds.proofs.Folds.{picked, passed}
use Rattle.burst.specs.declared.Burst.{Burst}
use Rattle.burst.specs.Burst.{low_of, last_byte, page_of, crosses_page, pieces_of, beats_of, start_of, piece_of}
use Rattle.burst.specs.Splitting.{beat_first, beat_last, Falls, Splitting}

-- multiples of z at most another's
over : (x y z : ℕ) → 1 ≤ z → x * z ≡ y * z → x ≡ y
over x y z h e = sym (mul-div_cancel x h) ∙ ap (λ n. n / z) e ∙ mul-div_cancel y h

page_up : (x y : ℕ) → x ≤ y → page_of x ≤ page_of y
page_up x y h = (le-div_iff_mul-le {k = 4096} {x = x / 4096} {y = y} (omega arith)).1 (le_trans (div-mul-le_self x 4096) h)

module _ (n : ℕ) (N : 1 ≤ n) (b : Burst) (B : 1 ≤ b.beats) (Z : 1 ≤ b.size) where
  times : (x y : ℕ) → x ≤ y → x * b.size ≤ y * b.size
  times x y h = mul-le-mul_right b.size h

  -- piece i is there exactly if beats are left for it
  pub left : (i : ℕ) → i < pieces_of n b → i * n < b.beats
  left i l = omega (arith, (le-div_iff_mul-le {x = i + 1} {y = b.beats + (n - 1)} N).0 (omega arith), add-mul i 1 n, one-mul n)

  left_is : (i : ℕ) → i * n < b.beats → i < pieces_of n b
  left_is i l = omega (arith, (le-div_iff_mul-le {x = i + 1} {y = b.beats + (n - 1)} N).1 (omega (arith, add-mul i 1 n, one-mul n)))

  all_in : b.beats ≤ pieces_of n b * n
  all_in = omega (arith, lt-div-mul-add {a = b.beats + (n - 1)} N)

  totals : (k : ℕ) → sum k (beats_of n b) ≡ min (k * n) b.beats
  unfolding sum
  totals zero = omega (arith, zero-mul n)
  totals (suc k) = omega (arith, totals k, add-mul k 1 n, one-mul n, ap (λ x. x * n) {x = suc k} {y = k + 1} (omega arith))

  low_piece : (i : ℕ) → low_of (piece_of n b i) ≡ low_of b + i * n * b.size
  low_piece i = elim (ℕ_discrete i 0) [
    | yes e ↦ ap (λ x. x / b.size * b.size) (picked _ _ _ (eq-eqb i 0 e))
        ∙ omega (arith, ap (λ x. x * n * b.size) e, ap (λ x. x * b.size) (zero-mul n), zero-mul b.size)
    | no d ↦
        ap (λ x. x / b.size * b.size) (passed _ _ _ (ne_eqb i 0 d) ∙ sym (add-mul (b.start / b.size) (i * n) b.size))
        ∙ ap (λ x. x * b.size) (mul-div_cancel (b.start / b.size + i * n) Z)
        ∙ add-mul (b.start / b.size) (i * n) b.size
  ]

  positive : (i : ℕ) → (i ≡ 0 → ⊥) → 1 ≤ i * n
  positive i d = omega (arith, le-mul_of_pos_right i N)

  first_piece : (i m : ℕ) → beat_first (piece_of n b i) m ≡ beat_first b (i * n + m)
  first_piece i m = elim (ℕ_discrete m 0) [
    | yes e ↦ elim (ℕ_discrete i 0) [
      | yes f ↦ picked _ _ _ (eq-eqb m 0 e) ∙ picked _ _ _ (eq-eqb i 0 f)
          ∙ sym (picked _ _ _ (eq-eqb (i * n + m) 0 (omega (arith, ap (λ x. x * n) f, zero-mul n))))
      | no g ↦ picked _ _ _ (eq-eqb m 0 e) ∙ passed _ _ _ (ne_eqb i 0 g)
          ∙ ap (λ x. low_of b + x * b.size) {x = i * n} {y = i * n + m} (omega arith)
          ∙ sym (passed _ _ _ (ne_eqb (i * n + m) 0 (λ q. omega (arith, positive i g))))
    ]
    | no d ↦ passed _ _ _ (ne_eqb m 0 d)
        ∙ omega (arith, low_piece i, add-mul (i * n) m b.size)
        ∙ sym (passed (eqb (i * n + m) 0) b.start (low_of b + (i * n + m) * b.size) (ne_eqb (i * n + m) 0 (λ q. omega arith)))
  ]

  last_piece : (i m : ℕ) → beat_last (piece_of n b i) m ≡ beat_last b (i * n + m)
  last_piece i m = omega (arith, low_piece i, add-mul (i * n) (m + 1) b.size, ap (λ x. x * b.size) {x = i * n + (m + 1)} {y = i * n + m + 1} (omega arith))

  -- no two beats begin at one byte
  apart : (x y : ℕ) → beat_first b x ≡ beat_first b y → x ≡ y
  apart x y e = go (ℕ_discrete x 0) (ℕ_discrete y 0)
    where
      near : b.start < low_of b + b.size
      near = lt-div-mul-add Z

      far : (j : ℕ) → (j ≡ 0 → ⊥) → b.size ≤ j * b.size
      far j d = omega (arith, times 1 j (omega arith), one-mul b.size)

      at : (j : ℕ) → (j ≡ 0 → ⊥) → beat_first b j ≡ low_of b + j * b.size
      at j d = passed _ _ _ (ne_eqb j 0 d)

      at_none : (j : ℕ) → j ≡ 0 → beat_first b j ≡ b.start
      at_none j f = picked _ _ _ (eq-eqb j 0 f)

      go : Dec (x ≡ 0) → Dec (y ≡ 0) → x ≡ y
      go (yes f) (yes g) = omega arith
      go (yes f) (no g) = absurd (omega (arith, near, far y g, at y g, at_none x f))
      go (no f) (yes g) = absurd (omega (arith, near, far x f, at x f, at_none y g))
      go (no f) (no g) = over x y b.size Z (omega (arith, at x f, at y g))

  quotient : (i m : ℕ) → m < n → ((i * n + m) / n ≡ i) × ((i * n + m) % n ≡ m)
  quotient i m l = (mul-add-div_right N i m ∙ omega (arith, div-eq_of_lt l), mul-add-mod_self_right i n m ∙ mod-eq_of_lt l)

  falls : (j : ℕ) → j < b.beats → Falls n b j
  falls j l = record {
    piece = j / n;
    beat = j % n;
    there = left_is (j / n) (omega (arith, div-mul-le_self j n));
    inside = omega (arith, mod-lt j N, div-add-mod' j n);
    first = first_piece (j / n) (j % n) ∙ ap (beat_first b) (div-add-mod' j n);
    last = last_piece (j / n) (j % n) ∙ ap (beat_last b) (div-add-mod' j n);
    once = λ i m li lm e.
        let f : i * n + m ≡ j = apart (i * n + m) j (sym (first_piece i m) ∙ e) in
        let q = quotient i m (omega arith) in
        (sym q.0 ∙ ap (λ x. x / n) f, sym q.1 ∙ ap (λ x. x % n) f);
  }

  -- where the bytes of piece i lie among those of the burst
  near : b.start < low_of b + b.size
  near = lt-div-mul-add Z

  low_least : (i : ℕ) → b.start ≤ start_of n b i
  low_least i = elim (ℕ_discrete i 0) [
    | yes f ↦ omega (arith, picked (eqb i 0) b.start (low_of b + i * n * b.size) (eq-eqb i 0 f))
    | no d ↦ omega (
      arith,
      passed (eqb i 0) b.start (low_of b + i * n * b.size) (ne_eqb i 0 d),
      near,
      mul-le-mul_right b.size (positive i d),
      one-mul b.size,
    )
  ]

  low_most : (i : ℕ) → start_of n b i < low_of b + i * n * b.size + b.size
  low_most i = elim (ℕ_discrete i 0) [
    | yes f ↦ omega (arith, picked (eqb i 0) b.start (low_of b + i * n * b.size) (eq-eqb i 0 f), near)
    | no d ↦ omega (arith, passed (eqb i 0) b.start (low_of b + i * n * b.size) (ne_eqb i 0 d))
  ]

  begins : (i : ℕ) → i < pieces_of n b → start_of n b i ≤ last_byte (piece_of n b i)
  begins i l = omega (
    arith,
    left i l,
    low_piece i,
    low_most i,
    times 1 (beats_of n b i) (omega (arith, left i l)),
    one-mul b.size,
  )

  ends : (i : ℕ) → i < pieces_of n b → last_byte (piece_of n b i) ≤ last_byte b
  ends i l = omega (
    arith,
    left i l,
    low_piece i,
    add-mul (i * n) (beats_of n b i) b.size,
    times (i * n + beats_of n b i) b.beats (omega (arith, left i l)),
  )

  same_page_lem : crosses_page b ≡ false → page_of b.start ≡ page_of (last_byte b)
  same_page_lem c = eqb-true _ _ (not-false (eqb (page_of b.start) (page_of (last_byte b))) c)

  page : (i : ℕ) → i < pieces_of n b → crosses_page b ≡ false → crosses_page (piece_of n b i) ≡ false
  page i l c =
      let f : page_of (start_of n b i) ≡ page_of (last_byte (piece_of n b i)) = omega (
        arith,
        same_page_lem c,
        page_up _ _ (low_least i),
        page_up _ _ (begins i l),
        page_up _ _ (ends i l),
      ) in
      ap not (eq-eqb _ _ f)

  -- the bytes of a page that begins within 32 bits lie within them
  address : (i : ℕ) → i < pieces_of n b → crosses_page b ≡ false → b.start < 4294967296 → start_of n b i < 4294967296
  address i l c h = omega (
    arith,
    same_page_lem c,
    begins i l,
    ends i l,
    div-mul-le_self b.start 4096,
    lt-div-mul-add {a = last_byte b} {b = 4096} (omega arith),
  )

  -- the pieces before piece i have i × n beats
  later : (i : ℕ) → 1 ≤ i → i < pieces_of n b → start_of n b i ≡ low_of b + sum i (beats_of n b) * b.size
  later i h l =
      passed _ _ _ (ne_eqb i 0 (λ e. omega arith))
      ∙ ap (λ (x : ℕ). low_of b + x * b.size) {x = i * n} {y = sum i (beats_of n b)} (omega (arith, totals i, left i l))

  pub splitting : (limit : ℕ) → b.beats ≤ limit → crosses_page b ≡ false → Splitting limit n b (pieces_of n b)
  splitting limit h c = record {
    full = λ i l. omega (arith, left (i + 1) l, add-mul i 1 n, one-mul n);
    last = λ i e. omega (arith, left i (omega arith));
    first_start = refl;
    later_start = λ i h l. later i h l;
    each_beat = falls;
    total = totals (pieces_of n b) ∙ omega (arith, all_in);
    one_page = λ i l. page i l c;
    addresses = λ i l h. address i l c h;
    count = (refl, left_is 0 (omega (arith, zero-mul n)), few);
  }
    where
      few : pieces_of n b ≤ limit
      few = elim (dec_lt 0 (pieces_of n b)) [
        | yes l ↦ omega (arith, left (pieces_of n b - 1) (omega arith), le-mul_of_pos_right (pieces_of n b - 1) N)
        | no d ↦ omega arith
      ]
