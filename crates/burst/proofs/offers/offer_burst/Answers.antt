-- `offer_burst` meets its contract: what the splitter answers says how many pieces are offered.
use mathlib.Core.Path.{◌≡◌, sym, ◌∙◌, ap, ap₂}
use mathlib.Core.Bool.{Bool}
use Prim.Native.Nat.{ℕ}
use native.Mathlib.Omega.{arith}
use Rattle.std.specs.Prelude.{Result}
use Rattle.model.specs.declared.Tree.{Tree}
use Rattle.model.specs.declared.Refusal.{Refusal}
use Rattle.model.specs.declared.State.{State}
use Rattle.model.specs.Tree.{beat_limit}
use Rattle.rules.specs.Rules.{keeps}
use Rattle.rules.proofs.Sound.{sound_of}
use Rattle.burst.specs.declared.Burst.{Burst}
use Rattle.burst.specs.Burst.{Split, split_of}
use Rattle.burst.specs.Offers.{by_split, burst_offer}
use Rattle.burst.specs.Answers.{split_means}
use Rattle.burst.proofs.offers.offer_burst.Goals as goal

-- the burst offered, from what the splitter answered
module _ (t : Tree) (s : State) (a : ℕ) (b : Burst) (from n : ℕ) (length : n ≡ t.bus.burst) (limit : ℕ)
    (most : limit ≡ beat_limit t.bus) (ok : Bool) (kept : ok ≡ keeps t s) where
  by_answer : (x y : Result ℕ Refusal) → split_means x ≡ split_of limit ok n b → x ≡ y
      → burst_offer t s a b from ≡ by_split (split_means y) t s a from
  by_answer x y e g =
      ap (λ (z : Split). by_split z t s a from)
      (sym (e ∙ ap₂ (λ (o : Bool) (m : ℕ). split_of limit o m b) kept length ∙ ap (λ (l : ℕ). split_of l (keeps t s) t.bus.burst b) most)
      ∙ ap split_means g)

pub split_answer-answer-requires : goal.split_answer-answer-requires
split_answer-answer-requires c =
    let a = c.args in
    let length = c.burst_length-n.ensures in
    ((λ e. omega (arith, length.0, (sound_of a.t a.s (sym c.both_keep.ensures ∙ e)).burst)), length.1, c.beat_limit-limit.ensures.1)
