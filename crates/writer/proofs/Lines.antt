-- Which text a line has, by the tests that the code makes.
use Prim.Native.Nat.{ℕ}
use mathlib.Core.Bool.{Bool}
use mathlib.Core.List.{List, [], ◌∷◌, map}
use mathlib.Core.Path.{◌≡◌, refl, ap, sym, ◌∙◌}
use borrow.Author.Tests.{eq-eqb, ne_eqb}
use Rattle.folds.proofs.Folds.{picked, passed}
use Rattle.model.specs.declared.Tree.{Tree}
use Rattle.model.specs.declared.Bus.{Bus}
use Rattle.model.specs.declared.Interconnect.{Interconnect}
use Rattle.model.specs.declared.Accelerator.{Accelerator}
use Rattle.model.specs.declared.Port.{Port}
use Rattle.model.specs.declared.Port.TheVariants.{Acc}
use Rattle.model.specs.Tree.{interconnect_of, accelerator_of}
use Rattle.text.specs.Write.{decimal_text, digits, numbers, fields_text, line_text, file_text}
use Rattle.lines.specs.Lines.{bus_kind, name_of}
use Rattle.put.specs.Page.{bytes, ended}
use Rattle.writer.specs.Lines.{bus_front, bus_values, bus_as, bus_written, root_written, child_written, acc_written, int_text, acc_text}
use Rattle.writer.specs.Writer.{carried_by}
use Rattle.writer.proofs.Texts.{file_none, file_one}

pub bus_whole_lem : (name : List ℕ) (b : Bus) → (b.delay ≡ 0 → ⊥) → line_text name (numbers (bus_values b)) ≡ bus_as name b
bus_whole_lem name b d = sym (passed _ _ _ (ne_eqb _ _ d))

-- the root's number and its two "-" are always the same bytes
root_bytes : (g : ℕ) → line_text (bytes "int\t0\t-\t-") (numbers (g ∷ [])) ≡ root_written g
unfolding fields_text numbers decimal_text digits
root_bytes g = refl

module _ (t : Tree) (j : ℕ) (x : Interconnect) (e : x ≡ interconnect_of t j) where
  pub root_line : j ≡ 0 → line_text (bytes "int\t0\t-\t-") (numbers (x.granularity ∷ [])) ≡ int_text t j
  root_line z = root_bytes x.granularity ∙ ap (λ (y : Interconnect). root_written y.granularity) e ∙ sym (picked _ _ _ (eq-eqb _ _ z))

-- the line of a port that carries an accelerator
pub acc_line_lem : (t : Tree) (a : ℕ) (x : Accelerator) (y : Port) → x ≡ accelerator_of t a → y ≡ Acc a
    → ended (acc_written a x) ≡ file_text (map (acc_text t) (carried_by y))
acc_line_lem t a x y e h =
    ap (λ (z : Accelerator). ended (acc_written a z)) e ∙ file_one (acc_text t a)
    ∙ ap (λ (z : Port). file_text (map (acc_text t) (carried_by z))) (sym h)

-- a port that carries none has no line
pub no_acc : (t : Tree) (x y : Port) → carried_by x ≡ [] → y ≡ x → [] ≡ file_text (map (acc_text t) (carried_by y))
no_acc t x y e h = file_none ∙ ap (λ (l : List ℕ). file_text (map (acc_text t) l)) (sym e ∙ ap carried_by (sym h))
