-- Slot by slot: what was written so far, with what the definition writes from here, is what it writes from the start. By the
-- clauses of the definitions.
use Prim.Native.Nat.{ℕ, zero, suc, ◌+◌, ◌-◌, ◌≤◌, ◌<◌}
use mathlib.Core.Bool.{Bool, true, false}
use mathlib.Core.List.{List, [], ◌∷◌, ◌++◌, append-nil, append_assoc}
use mathlib.Core.Path.{◌≡◌, refl, sym, ◌∙◌, ap}
use native.Mathlib.Numerals.{add-one}
use native.Mathlib.Omega.{arith}
use lib.ListN.{length, take, drop, set, length-set, take-append-drop}
use lib.Seq.{length-take-le, take-suc-set, drop-set-lt, drop-drop}
use Rattle.model.specs.declared.Tree.{Tree}
use Rattle.folds.proofs.Folds.{picked, passed}
use Rattle.runner.specs.Run.{Run, last_byte, next, is_done, Trail, ended, written, trail, end_after, end_of, over}

-- done is tested before each slot
pub trail_done : (k : ℕ) (t : Tree) (r : Run) → is_done r ≡ true → trail k t r ≡ ended true
unfolding trail
trail_done zero t r e = ap ended e
trail_done (suc k) t r e = picked _ _ _ e

pub trail_none : (t : Tree) (r : Run) → trail 0 t r ≡ ended (is_done r)
unfolding trail
trail_none t r = refl

pub trail_slot : (k : ℕ) (t : Tree) (r : Run) → is_done r ≡ false → trail (suc k) t r ≡ written (last_byte t r) (trail k t (next t r))
unfolding trail
trail_slot k t r e = passed _ _ _ e

-- bytes written before a trail
abbrev pub following : List ℕ → Trail → Trail
following bs x = record { bytes = bs ++ x.bytes; done = x.done }

-- after n slots a run stands at r: d is the buffer, which was d₀, and x the trail of the whole run
pub record Running (t : Tree) (x : Trail) (d₀ d : List ℕ) (n : ℕ) (r : Run) : Type 0 where
  pub small : n ≤ length d₀
  pub long : length d ≡ length d₀
  pub rest : drop n d ≡ drop n d₀
  pub trails : following (take n d) (trail (length d₀ - n) t r) ≡ x

pub running_start : (t : Tree) (d : List ℕ) (r : Run) → Running t (trail (length d) t r) d d 0 r
running_start t d r = record { small = omega arith; long = refl; rest = refl; trails = ap (λ (m : ℕ). trail m t r) (omega arith) }

module _ (t : Tree) (x : Trail) (d₀ d : List ℕ) (n : ℕ) (r : Run) (R : Running t x d₀ d n r) where
  fits : n ≤ length d
  fits = omega (arith, R.small, R.long)

  -- the run ends here
  ends : (b : Bool) → trail (length d₀ - n) t r ≡ ended b → (end_after b n ≡ end_of x) × (d ≡ over x d₀)
  ends b e =
      let all : record { bytes = take n d; done = b } ≡ x =
      ap (λ (y : List ℕ). record { bytes = y; done = b }) (sym (append-nil (take n d)))
      ∙ ap (following (take n d)) (sym e) ∙ R.trails in
      let l : length (take n d) ≡ n = length-take-le n d fits in (
        ap (end_after b) (sym l) ∙ ap end_of all,
        sym (take-append-drop n d) ∙ ap (λ (y : List ℕ). take n d ++ y) R.rest
            ∙ ap (λ (m : ℕ). take n d ++ drop m d₀) (sym l) ∙ ap (λ (y : Trail). over y d₀) all,
      )

  -- the run is over: nothing is left, or the buffer is full
  pub running_ended : (b : Bool) → (b ≡ false → length d ≤ n) → is_done r ≡ b → (end_after b n ≡ end_of x) × (d ≡ over x d₀)
  running_ended true l e = ends true (trail_done (length d₀ - n) t r e)
  running_ended false l e =
      let z : length d₀ - n ≡ 0 = omega (arith, l refl, R.long) in
      ends false (ap (λ (m : ℕ). trail m t r) z ∙ trail_none t r ∙ ap ended e)

  pub running_turn : n < length d → is_done r ≡ false → (b : ℕ) → b ≡ last_byte t r → Running t x d₀ (set d n b) (n + 1) (next t r)
  running_turn l e b q =
      let m : length d₀ - n ≡ suc (length d₀ - (n + 1)) = omega (arith, R.long) in
      record {
        small = omega (arith, R.long);
        long = length-set d n b ∙ R.long;
        rest = drop-set-lt (n + 1) d n b (omega arith) ∙ sym (drop-drop 1 n d) ∙ ap (drop 1) R.rest ∙ drop-drop 1 n d₀;
        trails =
            ap (λ (bs : List ℕ). following bs (trail (length d₀ - (n + 1)) t (next t r)))
            (ap (λ (i : ℕ). take i (set d n b)) (add-one n) ∙ take-suc-set d n b l)
            ∙ ap (λ (bs : List ℕ). record { bytes = bs; done = (trail (length d₀ - (n + 1)) t (next t r)).done })
            (append_assoc (take n d) (b ∷ []) (trail (length d₀ - (n + 1)) t (next t r)).bytes)
            ∙ ap (λ (b : ℕ). following (take n d) (written b (trail (length d₀ - (n + 1)) t (next t r)))) q
            ∙ ap (following (take n d)) (sym (ap (λ (i : ℕ). trail i t r) m ∙ trail_slot (length d₀ - (n + 1)) t r e))
            ∙ R.trails;
      }
