-- What each step of the code of a turn does, said over variables: a store past the end changes nothing, a test picks the
-- case of the definition. By the laws of `set`, `pick` and bits.
use mathlib.Core.Path.{◌≡◌, refl, ap, ap₂, sym, subst, ◌∙◌}
use mathlib.Core.Bool.{Bool, true, false}
use Prim.Native.Nat.{ℕ, zero, suc, ◌+◌, ◌-◌, ◌*◌, ◌^◌, ◌%◌, ◌≤◌, ◌<◌, min}
use native.Mathlib.Nat.{one-mul, zero-mul}
use native.Mathlib.Numerals.{add-one, sub-one}
use native.Mathlib.Omega.{arith}
use lib.ListN.{length}
use lib.Bits.{bit_or, or_shifted_r}
use lib.Pow.{shl_exact}
use lib.Dec.{lit<}
use lib.Seq.{set_out}
use mir.Val.{bool_byte}
use borrow.Author.Tests.{le-ltb, lt-ltb}
use Rattle.model.specs.declared.Tree.{Tree}
use Rattle.model.specs.declared.State.{State}
use Rattle.model.specs.declared.Port.{Port}
use Rattle.model.specs.declared.Port.TheVariants.{Empty, Acc, Int}
use Rattle.folds.specs.Fold.{pick}
use Rattle.model.specs.Tree.{last_of, allowance_of, granularity_of, port_of}
use Rattle.model.specs.Builders.{with_turns}
use Rattle.model.specs.Beneath.{waits_under}
use Rattle.folds.proofs.Folds.{picked, passed}
use Rattle.turns.specs.Turns.{with_turn, bits_below, live_set, next_port, turn_port, turn_allowance, nobody, reached, who, turned, after}
use Rattle.turns.proofs.Next.{bits_bound}

pub turn_far : (s : State) (j port allowance : ℕ) → length s.last ≡ 15 → length s.allowance ≡ 15 → 15 ≤ j → s ≡ with_turn s j port allowance
turn_far s j port allowance l o h =
    ap₂ (with_turns s)
    (sym (set_out s.last j port (omega arith))) (sym (set_out s.allowance j allowance (omega arith)))

-- one more port of the live set: its bit is above all that stand there
-- a test as a number
pub test_bit : (c : Bool) → bool_byte c ≡ pick {A = ℕ} c 1 0
test_bit true = refl
test_bit false = refl

bit_small : (c : Bool) → pick {A = ℕ} c 1 0 < 2 ^ 1
bit_small true = lit< tt
bit_small false = lit< tt

bit_weight : (c : Bool) (p : ℕ) → pick c 1 0 * 2 ^ p ≡ pick c (2 ^ p) 0
bit_weight true p = one-mul (2 ^ p)
bit_weight false p = zero-mul (2 ^ p)

bits_more : (p : ℕ) (f : ℕ → Bool) → bits_below (p + 1) f ≡ bits_below p f + pick (f p) (2 ^ p) 0
unfolding bits_below
bits_more p f = rw add-one

pub live_turn : (p b x : ℕ) (f : ℕ → Bool) → p < 8 → x ≡ bits_below p f → b ≡ pick (f p) 1 0 → bit_or x (b * 2 ^ p % 2 ^ 8) ≡ bits_below (p + 1) f
live_turn p b x f h e d =
    let small : b < 2 ^ 1 = subst (λ (n : ℕ). n < 2 ^ 1) (sym d) (bit_small (f p)) in
    let below : x < 2 ^ p = subst (λ (n : ℕ). n < 2 ^ p) (sym e) (bits_bound p f) in
    ap (bit_or x) (shl_exact 1 p 8 small (omega arith)) ∙ or_shifted_r b p x below
    ∙ omega (arith, bits_more p f, ap (λ (n : ℕ). n * 2 ^ p) d, bit_weight (f p) p)

pub live_none : (f : ℕ → Bool) → 0 ≡ bits_below 0 f
unfolding bits_below
live_none f = refl

-- the turn at an interconnect
module _ (t : Tree) (s : State) (j : ℕ) where
  module _ (h : 0 < allowance_of s j) where
    pub goes_port : last_of s j ≡ turn_port t s j
    unfolding turn_port
    goes_port = sym (picked _ _ _ (lt-ltb _ _ h))

    pub goes_allowance : allowance_of s j ≡ turn_allowance t s j
    unfolding turn_allowance
    goes_allowance = sym (picked _ _ _ (lt-ltb _ _ h))

  module _ (h : allowance_of s j ≤ 0) where
    pub passes_port : next_port (live_set t s j) (last_of s j) ≡ turn_port t s j
    unfolding turn_port
    passes_port = sym (passed _ _ _ (le-ltb _ _ h))

    pub passes_allowance : min (granularity_of t j) (waits_under t s j (turn_port t s j)) ≡ turn_allowance t s j
    unfolding turn_allowance
    passes_allowance = sym (passed _ _ _ (le-ltb _ _ h))

-- the choice at an interconnect: nothing over no levels, else the turn's port over one level less
module _ (n : ℕ) (t : Tree) (s : State) (j : ℕ) where
  pub who_none : n ≡ 0 → nobody ≡ who n t s j
  unfolding who
  who_none e = rw e

  pub after_none : n ≡ 0 → s ≡ after n t s j
  unfolding after
  after_none e = rw e

pub who_step : (n : ℕ) (t : Tree) (s : State) (j : ℕ) → (n ≡ 0 → ⊥) → reached (who (n - 1) t s) (port_of t j (turn_port t s j)) ≡ who n t s j
unfolding who
who_step zero t s j h = absurd (h refl)
who_step (suc n) t s j h = rw sub-one

pub after_step : (n : ℕ) (t : Tree) (s : State) (j : ℕ) → (n ≡ 0 → ⊥) → with_turn (turned s (after (n - 1) t s) (port_of t j (turn_port t s j))) j (turn_port t s j) (turn_allowance t s j - 1) ≡ after n t s j
unfolding after
after_step zero t s j h = absurd (h refl)
after_step (suc n) t s j h = rw sub-one

module _ (n : ℕ) (t : Tree) (s : State) (j port : ℕ) (P : Port) (h : n ≡ 0 → ⊥) (e : port ≡ turn_port t s j) (d : P ≡ port_of t j port) where
  pub who_turn : (a : ℕ) → a ≡ reached (who (n - 1) t s) P → a ≡ who n t s j
  who_turn a r = r ∙ ap (reached (who (n - 1) t s)) (d ∙ ap (port_of t j) e) ∙ who_step n t s j h

  pub after_turn : (r : State) (o : ℕ) → r ≡ turned s (after (n - 1) t s) P → o ≡ turn_allowance t s j - 1 → with_turn r j port o ≡ after n t s j
  after_turn r o q w =
      ap (λ (x : State). with_turn x j port o) (q ∙ ap (turned s (after (n - 1) t s)) (d ∙ ap (port_of t j) e))
      ∙ ap₂ (λ (p a : ℕ). with_turn (turned s (after (n - 1) t s) (port_of t j (turn_port t s j))) j p a) e w
      ∙ after_step n t s j h

-- the choice leaves whatever a turn leaves
module _ {A : Type 0} (f : State → A) (same : (s : State) (j port allowance : ℕ) → f (with_turn s j port allowance) ≡ f s) where
  turned_same : (s : State) (v : ℕ → State) → ((k : ℕ) → f (v k) ≡ f s) → (P : Port) → f (turned s v P) ≡ f s
  turned_same s v h Empty = refl
  turned_same s v h (Acc a) = refl
  turned_same s v h (Int k) = h k

  pub choice_same : (n : ℕ) (t : Tree) (s : State) (j : ℕ) → f (after n t s j) ≡ f s
  unfolding after
  choice_same zero t s j = refl
  choice_same (suc n) t s j =
      same _ j _ _ ∙ turned_same s (after n t s) (choice_same n t s) (port_of t j (turn_port t s j))
