-- `bound` meets its contract: the tests come in the order of the definition, an accepted tree keeps every figure in its
-- limits, and no more than three crossings lie above the first.
use mathlib.Core.Bool.{true}
use mathlib.Core.Path.{◌≡◌, refl, ap, sym, ◌∙◌, subst₂}
use Prim.Native.Nat.{ℕ, ◌<◌}
use Rattle.model.specs.declared.Tree.{Tree}
use Rattle.model.specs.declared.Accelerator.{Accelerator}
use Rattle.model.specs.declared.Channel.TheVariants.{Read, Write}
use Rattle.model.specs.Tree.{accelerator_of, home_of, level_of}
use Rattle.rules.specs.Rules.{tree_keeps}
use Rattle.rules.proofs.Sound.{sound}
use Rattle.shares.specs.Shares.{share_of, share_within}
use Rattle.shares.proofs.Shares.{share_within_lem}
use Rattle.bounds.specs.Bounds.{analysis_from, analysis_of, analysed}
use Rattle.bounds.specs.Limited.{Limited, Share}
use Rattle.bounds.proofs.Fits.{limited, shared}
use Rattle.bounds.proofs.Answers.{bound_broken, bound_unknown, bound_analysed}
use Rattle.bounds.proofs.bound.Goals as goal

-- what holds of the figures that the definition reads holds of those that the callees give
module _ (t : Tree) (k : tree_keeps t ≡ true) (a : ℕ) (b : a < t.accs) (x : Accelerator) (l sr sw : ℕ) (Q : Accelerator → ℕ → ℕ → ℕ → Type 0) where
  read : x ≡ accelerator_of t a → l ≡ level_of t x.interconnect → sr ≡ share_within 3 t Read a → sw ≡ share_within 3 t Write a
      → Q (accelerator_of t a) (level_of t (home_of t a)) (share_of t Read a) (share_of t Write a) → Q x l sr sw
  read e f g h q =
      subst₂ (λ (i r : ℕ). Q x i r sw) (sym (f ∙ ap (λ (y : Accelerator). level_of t y.interconnect) e)) (sym (g ∙ share_within_lem t (sound t k) Read a b))
      (subst₂ (λ (y : Accelerator) (s : ℕ). Q y (level_of t (home_of t a)) (share_of t Read a) s) (sym e) (sym (h ∙ share_within_lem t (sound t k) Write a b)) q)

pub returns-then-not-tree_keeps : goal.returns-then-not-tree_keeps
returns-then-not-tree_keeps c =
    sym (bound_broken _ _ (sym c.tree_keeps.ensures ∙ c.if-not-tree_keeps.true))

pub returns-then-t-a : goal.returns-then-t-a
returns-then-t-a c =
    sym (bound_unknown _ _ (sym c.tree_keeps.ensures ∙ c.if-not-tree_keeps.false) c.if-t-a.true)

pub figures_from-requires : goal.figures_from-requires
figures_from-requires c =
    let a = c.args in
    let k = sym c.tree_keeps.ensures ∙ c.if-not-tree_keeps.false in
    let b = c.if-t-a.false in
    read a.t k a.a b _ _ _ _ (λ x l r w. Limited a.t.bus x l × Share r × Share w) c.accelerator_at-x.ensures
    c.level_of-level.ensures c.share_of-reads.ensures c.share_of-writes.ensures
    (limited a.t k a.a b, shared a.t k a.a b Read, shared a.t k a.a b Write)

pub returns : goal.returns
returns c =
    let a = c.args in
    let k = sym c.tree_keeps.ensures ∙ c.if-not-tree_keeps.false in
    let b = c.if-t-a.false in
    c.figures_from.ensures
    ∙ read a.t k a.a b _ _ _ _ (λ x l r w. analysed (analysis_from a.t.bus x l r w) ≡ analysed (analysis_of a.t a.a))
    c.accelerator_at-x.ensures c.level_of-level.ensures c.share_of-reads.ensures
    c.share_of-writes.ensures refl
    ∙ sym (bound_analysed a.t a.a k b)
