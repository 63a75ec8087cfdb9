-- Who comes home: the bits of the returns of an accelerator are the bytes of the slots before, so that bit r, which a slot's end sends
-- home, is the byte of the slot r + 1 slots before the next one.
use Prim.Native.Nat.{ℕ, zero, suc, ◌+◌, ◌-◌, ◌%◌, ◌^◌, ◌≤◌, ◌<◌}
use mathlib.Core.Bool.{true}
use mathlib.Core.List.{List, [], ◌∷◌, ◌++◌}
use mathlib.Core.Path.{◌≡◌, sym, ◌∙◌, ap, subst}
use native.Mathlib.Decide.{dec_lt, ℕ_discrete}
use native.Mathlib.Nat.{add-zero}
use native.Mathlib.Omega.{arith}
use lib.Count.{ones}
use lib.ListN.{get_or, length, length-append, get_or-append, get_or-eq_default}
use lib.Seq.{get_or-append-add}
use borrow.Author.Tests.{lt-ltb, le-ltb}
use Rattle.folds.proofs.Folds.{picked, passed}
use Rattle.model.specs.declared.Tree.{Tree}
use Rattle.model.specs.declared.State.{State}
use Rattle.model.specs.Tree.{delay_of, bit, returns_of, returning_of, outstanding_of}
use Rattle.rules.specs.Rules.{keeps}
use Rattle.rules.proofs.Sound.{sound_of, way_of}
use Rattle.rules.proofs.Returns.{double}
use Rattle.rules.proofs.Beneath.{only, only_same, only_other}
use Rattle.machine.specs.Machine.{older, tick}
use Rattle.machine.proofs.Returns.{older_at, one_more}
use Rattle.machine.proofs.Home.{bit_older, bit_now, bit_past, home}
use Rattle.runner.specs.Arrays.{ago_in, home_in}
use Rattle.runner.proofs.Service.{served_from, byte_from, served_waiting, served_returns}

-- the bytes of the slots before, one more written
module _ (bs : List ℕ) (b : ℕ) where
  abbrev more : List ℕ
  more = bs ++ b ∷ []

  long : length more ≡ length bs + 1
  long = length-append bs (b ∷ []) ∙ omega arith

  -- the byte just written is that of one slot before
  pub ago_now : ago_in 1 more ≡ b
  ago_now =
      let i : length more - 1 ≡ length bs + 0 = omega (arith, long) in
      passed _ _ _ (le-ltb (length more) 1 (omega (arith, long))) ∙ ap (λ n. get_or more n 255) i ∙ get_or-append-add bs (b ∷ []) 0 255

  -- each other was written one slot earlier
  pub ago_past : (d : ℕ) → 1 ≤ d → ago_in (d + 1) more ≡ ago_in d bs
  ago_past d h = elim (dec_lt (length bs) d) [
    | yes l ↦ picked _ _ _ (lt-ltb (length more) (d + 1) (omega (arith, long))) ∙ sym (picked _ _ _ (lt-ltb _ _ l))
    | no n ↦
        let i : length more - (d + 1) ≡ length bs - d = omega (arith, long) in
        passed _ _ _ (le-ltb (length more) (d + 1) (omega (arith, long))) ∙ ap (λ n. get_or more n 255) i
        ∙ get_or-append bs (b ∷ []) 255 (length bs - d) (omega arith)
        ∙ sym (passed _ _ _ (le-ltb (length bs) d (omega arith)))
  ]

-- bs are the bytes of the slots before state s: each is an accelerator of the tree or 255, and the returns are those of the last r
pub record Past (t : Tree) (s : State) (bs : List ℕ) : Type 0 where
  pub known : (d : ℕ) → (ago_in d bs ≡ 255 → ⊥) → ago_in d bs < t.accs
  pub returns : (a d : ℕ) → a < t.accs → 1 ≤ d → d ≤ delay_of t → bit d (returns_of s a) ≡ only (ago_in d bs) a

-- before the first slot there is none
pub ago_none : (d : ℕ) → ago_in d [] ≡ 255
ago_none d = elim (dec_lt 0 d) [ yes l ↦ picked _ _ _ (lt-ltb 0 d l) | no n ↦ passed _ _ _ (le-ltb 0 d (omega arith)) ]

pub past_none : (t : Tree) (s : State) → ((a d : ℕ) → bit d (returns_of s a) ≡ 0) → t.accs ≤ 255 → Past t s []
past_none t s h l = record {
  known = λ d f. absurd (f (ago_none d));
  returns = λ a d la i j. h a d ∙ sym (ap (λ x. only x a) (ago_none d) ∙ only_other 255 a (λ e. omega (arith, e)));
}

-- an offer leaves the returns
pub past_same : (t : Tree) (s r : State) (bs : List ℕ) → r.returning ≡ s.returning → Past t s bs → Past t r bs
past_same t s r bs e P = record {
  known = P.known;
  returns = λ a d l i j. ap (λ (x : List ℕ). bit d (get_or x a 0)) e ∙ P.returns a d l i j;
}

-- one slot on
module _ (t : Tree) (s : State) (k : keeps t s ≡ true) (bs : List ℕ) (P : Past t s bs) (b : ℕ) (e : b ≡ byte_from t s)
    (known : (b ≡ 255 → ⊥) → b < t.accs) where
  abbrev then : State
  then = tick t (served_from t s)

  few : (x a : ℕ) → only x a ≤ 1
  few x a = elim (ℕ_discrete x a) [ yes q ↦ omega (arith, only_same x a q) | no d ↦ omega (arith, only_other x a d) ]

  module _ (a : ℕ) (l : a < t.accs) where
    away : 255 ≡ a → ⊥
    away q = omega (arith, q, (sound_of t s k).most_accs)

    even : returns_of s a % 2 ≡ 0
    even = (way_of t s k).even a l

    abbrev now : ℕ
    now = returns_of s a + only b a

    served_now : returns_of (served_from t s) a ≡ now
    served_now = served_returns t s k a away ∙ ap (λ x. returns_of s a + only x a) (sym e)

    -- with this slot's service the bits 0 to r are the bytes of the slots from this one back
    bits_now : (d : ℕ) → d ≤ delay_of t → bit d now ≡ only (ago_in (d + 1) (bs ++ b ∷ [])) a
    bits_now zero h = bit_now (returns_of s a) (only b a) even (few b a) ∙ ap (λ x. only x a) (sym (ago_now bs b))
    bits_now (suc d) h =
        bit_past (returns_of s a) (only b a) even (few b a) d ∙ P.returns a (suc d) l (omega arith) h
        ∙ ap (λ x. only x a) (sym (ago_past bs b (suc d) (omega arith)))

    then_returns : returns_of then a ≡ older (delay_of t) now
    unfolding tick
    then_returns = older_at (delay_of t) (served_from t s).returning a ∙ ap (older (delay_of t)) served_now

    recent : now < 2 ^ (delay_of t + 1)
    recent = omega (arith, (way_of t s k).recent a l, double (delay_of t), even, few b a)

    ones_now : ones now ≡ returning_of s a + only b a
    ones_now = elim (ℕ_discrete b a) [
      | yes q ↦ rw (only_same b a q) (one_more (returns_of s a) even)
      | no d ↦ rw (only_other b a d) (rw (add-zero (returns_of s a)) (omega arith))
    ]

    -- a slot sends one home: of the accelerator served r slots before it, or in it where r is 0
    pub home_one : outstanding_of s a ≡ outstanding_of then a + only (home_in (delay_of t) (bs ++ b ∷ [])) a
    unfolding tick
    home_one =
        omega (
          arith,
          served_waiting t s k a away,
          ap (λ x. only x a) e,
          ones_now,
          home (delay_of t) now recent,
          bits_now (delay_of t) (omega arith),
          ap ones then_returns,
        )

  known_then : (d : ℕ) → (ago_in d (bs ++ b ∷ []) ≡ 255 → ⊥) → ago_in d (bs ++ b ∷ []) < t.accs
  known_then zero f =
      absurd (f (passed _ _ _ (le-ltb (length (bs ++ b ∷ [])) 0 (omega arith)) ∙ get_or-eq_default (bs ++ b ∷ []) 255 (omega arith)))
  known_then (suc zero) f = subst (λ x. x < t.accs) (sym (ago_now bs b)) (known (λ q. f (ago_now bs b ∙ q)))
  known_then (suc (suc d)) f =
      let i : suc (suc d) ≡ suc d + 1 = omega arith in
      let q = ap (λ n. ago_in n (bs ++ b ∷ [])) i ∙ ago_past bs b (suc d) (omega arith) in
      subst (λ x. x < t.accs) (sym q) (P.known (suc d) (λ z. f (q ∙ z)))

  pub past_next : Past t then (bs ++ b ∷ [])
  past_next = record {
    known = known_then;
    returns = λ a d l i j.
        let n : d ≡ (d - 1) + 1 = omega arith in
        ap (bit d) (then_returns a l) ∙ ap (λ i. bit i (older (delay_of t) (now a l))) n ∙ bit_older (delay_of t) (d - 1) (now a l) (omega arith)
        ∙ bits_now a l (d - 1) (omega arith) ∙ ap (λ i. only (ago_in i (bs ++ b ∷ [])) a) (sym n);
  }
