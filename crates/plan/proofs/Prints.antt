-- A text that fits the reading's answer is the report of the file: the reading equals its definition, by `read_tree`'s contract.
use Prim.Native.Nat.{ℕ}
use mathlib.Core.List.{List, []}
use mathlib.Core.Path.{◌≡◌, refl, ap, sym, subst, ◌∙◌}
use Rattle.placing.specs.Placing.{TreeRead}
use Rattle.put.specs.Page.{Written}
use Rattle.put.proofs.Puts.{written_none}
use Rattle.lines.specs.Answer.{FileAnswer, answer_number, answer_line}
use Rattle.plan.specs.Plan.{printed, Printing}
use Rattle.plan.specs.Rewrite.{Printed, refused_by}

pub prints : (R Q : TreeRead) → R ≡ Q → (x : FileAnswer) → R.answer ≡ x → {d e : List ℕ} {n : ℕ} (k l : ℕ)
    → Written (printed x R.tree) d e n → k ≡ answer_number x → l ≡ answer_line x → Printing Q d e n k l
prints R Q h x a {d} {e} {n} k l w p q =
    let same : printed x R.tree ≡ printed Q.answer Q.tree =
    ap (λ (y : FileAnswer). printed y R.tree) (sym a) ∙ ap (λ (r : TreeRead). printed r.answer r.tree) h in
    let answer : x ≡ Q.answer = sym a ∙ ap (λ (r : TreeRead). r.answer) h in
    record {
      text = subst (λ (t : List ℕ). Written t d e n) same w;
      number = p ∙ ap answer_number answer;
      line = q ∙ ap answer_line answer;
    }

-- an answer that puts nothing
pub prints_none : (R Q : TreeRead) → R ≡ Q → (x : FileAnswer) → R.answer ≡ x → printed x R.tree ≡ [] → (d : List ℕ) (p : Printed)
    → p ≡ refused_by (answer_number x) (answer_line x) → Printing Q d d p.bytes p.number p.line
prints_none R Q h x a z d p e =
    subst (λ (y : Printed). Printing Q d d y.bytes y.number y.line) (sym e) (prints R Q h x a _ _ (written_none z) refl refl)
