-- The list in the lent buffer, pair by pair.
use Prim.Native.Nat.{ℕ, suc, ◌+◌, ◌-◌, ◌*◌, ◌/◌, ◌≤◌, ◌<◌}
use mathlib.Core.List.{List, [], ◌∷◌, ◌++◌, append_assoc}
use mathlib.Core.Logic.{◌⊎◌, inl, inr}
use mathlib.Core.Path.{◌≡◌, refl, sym, ◌∙◌, ap, ap₂}
use native.Mathlib.Decide.{dec_lt}
use native.Mathlib.Numerals.{add-one}
use native.Mathlib.Omega.{arith}
use lib.ListN.{length, take, drop, get_or, set, length-set, take-append-drop}
use lib.Seq.{take_all, take-suc, take-suc-set, drop-set-lt, drop-drop, drop-append-le, length-take-le, take_at, length-slice, slice_empty, take-add}
use lib.Dec.{eqb}
use Rattle.model.specs.declared.Tree.{Tree}
use Rattle.folds.specs.Fold.{pick}
use Rattle.meeting.specs.Meeting.{meet_of}
use Rattle.waits.specs.Why.{entry, entries, list_over}

entries_append : (t : Tree) (a : ℕ) (xs ys : List ℕ) → entries t a (xs ++ ys) ≡ entries t a xs ++ entries t a ys
unfolding entries
entries_append t a [] ys = refl
entries_append t a (x ∷ xs) ys = ap (λ (l : List ℕ). entry t a x ++ l) (entries_append t a xs ys)

pub entries_length : (t : Tree) (a : ℕ) (xs : List ℕ) → length (entries t a xs) ≡ length xs * 2
unfolding entries
entries_length t a [] = refl
entries_length t a (x ∷ xs) = omega (arith, entries_length t a xs)

entries_one : (t : Tree) (a b : ℕ) → entries t a (b ∷ []) ≡ entry t a b
unfolding entries
entries_one t a b = refl

none : (l : List ℕ) → length l ≡ 0 → l ≡ []
none [] e = refl
none (x ∷ l) e = absurd (omega arith)

module _ (t : Tree) (a : ℕ) (bytes : List ℕ) (from until : ℕ) (fits : until ≤ length bytes) (d₀ : List ℕ) where
  abbrev part : ℕ → List ℕ
  part i = drop from (take i bytes)

  -- after the slots before i the buffer is d, and p bytes of it are written
  pub record Putting (d : List ℕ) (i p : ℕ) : Type 0 where
    pub within : (i ≡ from) ⊎ (i ≤ until)
    pub since : from ≤ i
    pub pairs : p ≡ (i - from) * 2
    pub small : p ≤ length d₀
    pub long : length d ≡ length d₀
    pub front : take p d ≡ entries t a (part i)
    pub back : drop p d ≡ drop p d₀

  pub putting_start : Putting d₀ from 0
  unfolding entries
  putting_start = record {
    within = inl refl;
    since = omega arith;
    pairs = omega arith;
    small = omega arith;
    long = refl;
    front = sym (ap (entries t a) (slice_empty from bytes));
    back = refl;
  }

  module _ (d : List ℕ) (i p : ℕ) (P : Putting d i p) where
    pub putting_turn : i < until → p + 1 < length d → (b m : ℕ) → b ≡ get_or bytes i 0 → m ≡ pick (eqb a b) 255 (meet_of t a b).interconnect
        → Putting (set (set d p b) (p + 1) m) (i + 1) (p + 2)
    putting_turn l h b m e f = record {
      within = inr (omega arith);
      since = omega (arith, P.since);
      pairs = omega (arith, P.pairs, P.since);
      small = omega (arith, P.long);
      long = length-set (set d p b) (p + 1) m ∙ length-set d p b ∙ P.long;
      front =
          ap (λ j. take j (set (set d p b) (p + 1) m)) {x = p + 2} {y = suc (p + 1)} (omega arith)
          ∙ take-suc-set (set d p b) (p + 1) m (omega (arith, length-set d p b))
          ∙ ap (λ (x : List ℕ). x ++ m ∷ []) (ap (λ j. take j (set d p b)) (add-one p) ∙ take-suc-set d p b (omega arith))
          ∙ append_assoc (take p d) (b ∷ []) (m ∷ [])
          ∙ ap₂ (λ (x y : List ℕ). x ++ y) P.front (ap (λ x. b ∷ x ∷ []) f ∙ sym (entries_one t a b))
          ∙ sym (entries_append t a (part i) (b ∷ []))
          ∙ ap (entries t a) (sym more);
      back =
          drop-set-lt (p + 2) (set d p b) (p + 1) m (omega arith) ∙ drop-set-lt (p + 2) d p b (omega arith)
          ∙ sym (drop-drop 2 p d) ∙ ap (drop 2) P.back ∙ drop-drop 2 p d₀;
    }
      where
        more : part (i + 1) ≡ part i ++ b ∷ []
        more = ap (λ j. drop from (take j bytes)) (add-one i)
            ∙ ap (drop from) (take-suc bytes i 0 (omega (arith, fits)) ∙ ap (λ x. take i bytes ++ x ∷ []) (sym e))
            ∙ drop-append-le from (take i bytes) (b ∷ []) (omega (arith, P.since, fits, length-take-le i bytes (omega (arith, fits))))

    written : length (entries t a (part i)) ≡ p
    written = sym (ap length P.front) ∙ length-take-le p d (omega (arith, P.small, P.long))

    whole : d ≡ entries t a (part i) ++ drop p d₀
    whole = sym (take-append-drop p d) ∙ ap₂ (λ (x y : List ℕ). x ++ y) P.front P.back

    -- what fits of the list is what is written
    fitted : (l : List ℕ) → take (length d₀ / 2 * 2) l ≡ entries t a (part i) → d ≡ list_over l d₀
    fitted l e = whole ∙ ap₂ (λ (x : List ℕ) (n : ℕ). x ++ drop n d₀) (sym e) (sym (ap length e ∙ written))

    pub putting_ended : (i < until → length d ≤ p + 1) → d ≡ list_over (entries t a (part until)) d₀
    putting_ended h = elim (dec_lt i until) [
      | yes l ↦
          let q : length d₀ / 2 * 2 ≡ p = even (length d₀) p (i - from) P.pairs P.small (omega (arith, h l, P.long)) in
          let u : take until bytes ≡ take i bytes ++ take (until - i) (drop i bytes) =
          ap (λ j. take j bytes) {x = until} {y = i + (until - i)} (omega arith) ∙ take-add i (until - i) bytes in
          let v : part until ≡ part i ++ take (until - i) (drop i bytes) =
          ap (drop from) u ∙ drop-append-le from (take i bytes) _ (omega (arith, P.since, fits, length-take-le i bytes (omega (arith, fits)))) in
          fitted (entries t a (part until))
          (ap (take (length d₀ / 2 * 2)) (ap (entries t a) v ∙ entries_append t a (part i) _)
          ∙ take_at (entries t a (part i)) _ (length d₀ / 2 * 2) (written ∙ sym q))
      | no n ↦
          let q : p ≤ length d₀ / 2 * 2 = below (length d₀) p (i - from) P.pairs P.small in
          fitted (entries t a (part until))
          (ap (λ (x : List ℕ). take (length d₀ / 2 * 2) (entries t a x)) (last n P.within)
          ∙ take_all (length d₀ / 2 * 2) (entries t a (part i)) (omega (arith, written)))
    ]
      where
        even : (n q c : ℕ) → q ≡ c * 2 → q ≤ n → n ≤ q + 1 → n / 2 * 2 ≡ q
        even n q c e l m = omega arith

        below : (n q c : ℕ) → q ≡ c * 2 → q ≤ n → q ≤ n / 2 * 2
        below n q c e l = omega arith

        last : (i < until → ⊥) → (i ≡ from) ⊎ (i ≤ until) → part until ≡ part i
        last f (inl e) = none (part until) (length-slice from until bytes fits ∙ omega arith) ∙ sym (ap part e ∙ slice_empty from bytes)
        last f (inr l) = ap part {x = until} {y = i} (omega arith)
