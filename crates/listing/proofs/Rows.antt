-- The report, row by row: the bounds of an accelerator of a configuration that keeps its rules are never refused, and
-- after the last row comes the line that sums up. By the definitions' own order of tests.
use Prim.Native.Nat.{ℕ, ◌*◌, ◌<◌}
use mathlib.Core.Bool.{Bool, true, false}
use mathlib.Core.List.{[], ◌++◌}
use mathlib.Core.Path.{◌≡◌, ap, ap₂, sym, ◌∙◌}
use native.Mathlib.Omega.{arith}
use Rattle.std.specs.Prelude.{Result, Ok, Err}
use Rattle.model.specs.declared.Tree.{Tree}
use Rattle.model.specs.declared.Refusal.{Refusal}
use Rattle.folds.specs.Fold.{all}
use Rattle.rules.specs.Rules.{tree_keeps}
use Rattle.folds.proofs.Folds.{picked, passed, clash}
use Rattle.rules.proofs.Sound.{sound}
use Rattle.bounds.specs.declared.Figures.{Figures}
use Rattle.bounds.specs.Bounds.{Analysis, analysed, analysis_of, figures_mean, meaning_of, bound_of}
use Rattle.bounds.proofs.Answers.{bound_analysed}
use Rattle.listing.specs.Listing.{head_line, row_text, all_line, report_text}
use Rattle.put.specs.Page.{joined}
use Rattle.put.specs.declared.Text.{Text}
use Rattle.put.specs.Texts.{Puts}
use Rattle.put.proofs.Texts.{puts_then, puts_as, puts_most}

analysed_same : (x y : Analysis) → analysed x ≡ analysed y → x ≡ y
analysed_same x y e = cc

module _ (t : Tree) (a : ℕ) (r : Result Figures Refusal) (k : tree_keeps t ≡ true) (l : a < t.accs) (e : meaning_of r ≡ bound_of t a) where
  pub row_made : (f : Figures) → r ≡ Ok f → figures_mean f ≡ analysis_of t a
  row_made f q = analysed_same _ _ (ap meaning_of (sym q) ∙ e ∙ bound_analysed t a k l)

  pub never_refused : (n : Refusal) → r ≡ Err n → ⊥
  never_refused n q =
      let h = ap meaning_of (sym q) ∙ e ∙ bound_analysed t a k l in
      clash cc

pub report_end : {w x y z : Text} (t : Tree) (b : Bool) (a : ℕ) → tree_keeps t ≡ true → a ≡ t.accs → b ≡ all a (λ i. (analysis_of t i).meets)
    → Puts 42 w head_line x → Puts (174 * a) x (joined a (λ i. row_text i (analysis_of t i))) y → Puts 10 y (all_line b) z → Puts 5620 w (report_text t) z
unfolding report_text
report_end t b a k h m p q r =
    let v = m ∙ ap (λ (n : ℕ). all n (λ i. (analysis_of t i).meets)) h in
    puts_most (omega (arith, (sound t k).most_accs))
    (puts_as
    (ap₂ (λ (n : ℕ) (c : Bool). head_line ++ joined n (λ i. row_text i (analysis_of t i)) ++ all_line c) h v
    ∙ sym (picked (tree_keeps t) _ _ k))
    (puts_then (puts_then p q) r))

pub report_broken : (t : Tree) → tree_keeps t ≡ false → report_text t ≡ []
unfolding report_text
report_broken t k = passed (tree_keeps t) _ _ k
