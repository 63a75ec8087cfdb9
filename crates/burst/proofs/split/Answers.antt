-- `split` meets its contract: what the splitter answers says what both arrays get.
use mathlib.Core.Path.{◌≡◌, sym, ◌∙◌, ap, ap₂}
use mathlib.Core.Bool.{Bool, true}
use Prim.Native.Nat.{ℕ, ◌≤◌}
use native.Mathlib.Omega.{arith}
use Rattle.std.specs.Prelude.{Result, Ok}
use Rattle.model.specs.declared.Tree.{Tree}
use Rattle.model.specs.declared.Refusal.{Refusal}
use Rattle.model.specs.Tree.{beat_limit}
use Rattle.rules.specs.Rules.{tree_keeps}
use Rattle.rules.proofs.Sound.{sound}
use Rattle.burst.specs.declared.Burst.{Burst}
use Rattle.burst.specs.Burst.{pieces, most_beats, split_of, split_by}
use Rattle.burst.specs.Answers.{split_means}
use Rattle.burst.proofs.Cut.{cut, taken_as}
use Rattle.burst.proofs.split.Goals as goal

-- what the splitter answers on the tree, from what was answered
module _ (t : Tree) (b : Burst) (n : ℕ) (length : (n ≡ t.bus.burst) × (n ≤ 65535)) (limit : ℕ)
    (most : (limit ≡ beat_limit t.bus) × (limit ≤ most_beats)) (ok : Bool) (keeps : ok ≡ tree_keeps t) where
  by-tree : (x y : Result ℕ Refusal) → split_means x ≡ split_of limit ok n b → x ≡ y → split_by t b ≡ split_means y
  by-tree x y e g =
      sym (e ∙ ap₂ (λ (o : Bool) (m : ℕ). split_of limit o m b) keeps length.0 ∙ ap (λ (l : ℕ). split_of l (tree_keeps t) t.bus.burst b) most.0)
      ∙ ap split_means g

  some : ok ≡ true → 1 ≤ n
  some e = omega (arith, length.0, (sound t (sym keeps ∙ e)).burst)

  lengths : (x : Result ℕ Refusal) (k : ℕ) → split_means x ≡ split_of limit ok n b → x ≡ Ok k
      → (1 ≤ n) × (n ≤ 65535) × (split_of most_beats true n b ≡ pieces k)
  lengths x k e g =
      let f = sym e ∙ ap split_means g in
      (some (cut limit ok n b k f).keeps, length.1, taken_as limit ok n b k most.1 f)

pub split_answer-requires : goal.split_answer-requires
split_answer-requires c =
    let a = c.args in
    let length = c.burst_length-n.ensures in
    let most = c.beat_limit-limit.ensures in
    (some a.t a.b _ length _ most _ c.tree_keeps.ensures, length.1, most.1)

pub lists_of-lists-requires : goal.lists_of-lists-requires
lists_of-lists-requires c =
    let a = c.args in
    lengths a.t a.b _ c.burst_length-n.ensures _ c.beat_limit-limit.ensures _ c.tree_keeps.ensures _ _
    c.split_answer.ensures
    c.in_ok-k.was
