-- A text that a loop writes piece by piece: what is still to be written completes it. By the laws of `Puts`, and by the clauses of the
-- definitions at the byte where the loop stands.
use Prim.Native.Nat.{ℕ, ◌+◌, ◌≤◌, ◌<◌, min}
use mathlib.Core.List.{List, [], ◌∷◌, ◌++◌, map}
use mathlib.Core.Path.{◌≡◌, sym, ap, ◌∙◌}
use native.Mathlib.Decide.{dec_lt}
use native.Mathlib.Numerals.{add-one}
use native.Mathlib.Omega.{arith}
use lib.Dec.{eqb}
use lib.ListN.{length, take, drop, get_or, length-take, drop_of_length-le}
use lib.Seq.{drop-cons, take_all}
use Rattle.folds.specs.Fold.{pick}
use Rattle.put.specs.declared.Text.{Text}
use Rattle.put.specs.Texts.{Puts}
use Rattle.put.proofs.Texts.{puts_none, puts_then, puts_most, puts_as}
use Rattle.reasons.specs.Words.{marked, filled, printable}

-- the text a became b, and `rest`, put after it, would complete the part `xs`
abbrev pub Rests : ℕ → Text → List ℕ → Text → List ℕ → Type 0
Rests k a xs b rest = (n : ℕ) (c : Text) → Puts n b rest c → Puts (k + n) a xs c

module _ (k : ℕ) {a b : Text} {xs rest : List ℕ} (r : Rests k a xs b rest) where
  pub rests_turn : {j : ℕ} {now then : List ℕ} {b' : Text} (m : ℕ) → k + j ≤ m → rest ≡ now ++ then → Puts j b now b' → Rests m a xs b' then
  rests_turn m h q p n c z = puts_most (omega arith) (r _ c (puts_as (sym q) (puts_then p z)))

  pub rests_done : rest ≡ [] → Puts k a xs b
  rests_done q = puts_most (omega arith) (r 0 b (puts_as (sym q) (puts_none _)))

module _ (s : List ℕ) (i : ℕ) where
  pub filled_next : (x y : ℕ) → i < length s → filled (drop i s) x y ≡ marked (get_or s i 0) x ++ filled (drop (i + 1) s) (pick (eqb (get_or s i 0) 35) y x) y
  unfolding filled
  filled_next x y h = ap (λ (l : List ℕ). filled l x y) (drop-cons s i 0 h ∙ ap (λ (n : ℕ). get_or s i 0 ∷ drop n s) (sym (add-one i)))

  pub filled_end : (x y : ℕ) → length s ≤ i → filled (drop i s) x y ≡ []
  unfolding filled
  filled_end x y h = ap (λ (l : List ℕ). filled l x y) (drop_of_length-le s h)

  pub printed_next : i < length s → map printable (drop i s) ≡ (printable (get_or s i 0) ∷ []) ++ map printable (drop (i + 1) s)
  printed_next h = ap (map printable) (drop-cons s i 0 h ∙ ap (λ (n : ℕ). get_or s i 0 ∷ drop n s) (sym (add-one i)))

  pub printed_end : length s ≤ i → map printable (drop i s) ≡ []
  printed_end h = ap (map printable) (drop_of_length-le s h)

-- the first 20 bytes, or all where there are no more
pub first_taken : (s : List ℕ) (n : ℕ) → n ≡ min (length s) 20 → (take n s ≡ take 20 s) × (length (take n s) ≤ 20)
first_taken s n e = elim (dec_lt (length s) 20) [
  | no h ↦ (let t : n ≡ 20 = omega arith in ap (λ (m : ℕ). take m s) t, simp length-take (omega arith))
  | yes h ↦ (take_all n s (omega arith) ∙ sym (take_all 20 s (omega arith)), simp length-take (omega arith))
]
