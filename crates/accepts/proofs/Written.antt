-- The lines that a configuration's text has are read as its fields. By the laws of written lines.
use Prim.Native.Nat.{ℕ, zero, suc, ◌<◌}
use mathlib.Core.Bool.{true, false}
use mathlib.Core.List.{List, [], ◌∷◌, ◌++◌}
use mathlib.Core.Path.{◌≡◌, refl, sym, ◌∙◌, ap}
use native.Mathlib.Omega.{arith}
use lib.Dec.{lit<}
use lib.ListN.{get_or}
use borrow.Author.Tests.{ne_eqb, lt-ltb}
use Rattle.text.specs.declared.Field.TheVariants.{Dash, Number}
use Rattle.text.specs.Write.{decimal_text, dash}
use Rattle.text.proofs.Written.{AllClean}
use Rattle.model.specs.declared.Tree.{Tree}
use Rattle.model.specs.declared.Bus.{Bus}
use Rattle.model.specs.Tree.{granularity_of, parent_of, parent_port_of, accelerator_of}
use Rattle.folds.proofs.Folds.{passed}
use Rattle.lines.specs.declared.Kind.TheVariants.{IntLine, AccLine}
use Rattle.lines.specs.declared.Line.{Line}
use Rattle.lines.specs.Lines.{bus_kind, form_of, pushed, line_of, no_dashes}
use Rattle.lines.proofs.Written.{Plain, Below, below_none, below_more, texts_clean, line_read, numbers_read}
use Rattle.writer.specs.Lines.{bus_front, bus_values, acc_values, bus_whole, bus_short, int_text, acc_text}

-- the lines as they are read
abbrev pub bus_entry : ℕ → Bus → Line
bus_entry n b = record { kind = bus_kind b.axi3; count = n; malformed = false; dashes = no_dashes; values = bus_values b }

abbrev pub root_entry : Tree → Line
root_entry t =
    record {
      kind = IntLine;
      count = 4;
      malformed = false;
      dashes = false ∷ true ∷ true ∷ false ∷ false ∷ false ∷ false ∷ false ∷ false ∷ false ∷ false ∷ [];
      values = 0 ∷ 0 ∷ 0 ∷ granularity_of t 0 ∷ 0 ∷ 0 ∷ 0 ∷ 0 ∷ 0 ∷ 0 ∷ 0 ∷ [];
    }

abbrev pub child_entry : Tree → ℕ → Line
child_entry t j =
    record {
      kind = IntLine;
      count = 4;
      malformed = false;
      dashes = no_dashes;
      values = j ∷ parent_of t j ∷ parent_port_of t j ∷ granularity_of t j ∷ 0 ∷ 0 ∷ 0 ∷ 0 ∷ 0 ∷ 0 ∷ 0 ∷ [];
    }

abbrev pub acc_entry : Tree → ℕ → Line
acc_entry t a =
    record { kind = AccLine; count = 9; malformed = false; dashes = no_dashes; values = acc_values a (accelerator_of t a) ++ (0 ∷ 0 ∷ []) }

pub below_front : (xs ys : List ℕ) → Below (xs ++ ys) → Below xs
below_front [] ys B = below_none
below_front (x ∷ xs) ys (below_more h B) = below_more h (below_front xs ys B)

pub whole_read : (b : Bus) → Below (bus_values b) → line_of (bus_whole b) ≡ bus_entry 11 b
unfolding pushed
whole_read b B = numbers_read (bus_kind b.axi3) B

-- a return delay that is absent is held as 0
pub short_read : (b : Bus) → b.delay ≡ 0 → Below (bus_values b) → line_of (bus_short b) ≡ bus_entry 10 b
unfolding pushed
short_read b z B =
    numbers_read (bus_kind b.axi3) (below_front (bus_front b) (b.delay ∷ []) B)
    ∙ ap (λ (d : ℕ). record { kind = bus_kind b.axi3; count = 10; malformed = false; dashes = no_dashes; values = bus_front b ++ (d ∷ []) })
    (sym z)

pub acc_read : (t : Tree) (a : ℕ) → Below (acc_values a (accelerator_of t a)) → line_of (acc_text t a) ≡ acc_entry t a
unfolding pushed
acc_read t a B = numbers_read AccLine B

pub root_clean : (sep : ℕ) → sep < 45 → (t : Tree) → AllClean sep (decimal_text 0 ∷ dash ∷ dash ∷ decimal_text (granularity_of t 0) ∷ [])
root_clean sep s t = texts_clean sep s (Number 0 ∷ Dash ∷ Dash ∷ Number (granularity_of t 0) ∷ [])

root_plain : (g : ℕ) → g < 10000000000 → Plain (λ i. get_or (form_of IntLine).dashes i false) (Number 0 ∷ Dash ∷ Dash ∷ Number g ∷ [])
root_plain g h zero l = lt-ltb 0 10000000000 (lit< tt)
root_plain g h (suc zero) l = refl
root_plain g h (suc (suc zero)) l = refl
root_plain g h (suc (suc (suc zero))) l = lt-ltb g 10000000000 h
root_plain g h (suc (suc (suc (suc i)))) l = absurd (omega arith)

pub root_read : (t : Tree) → granularity_of t 0 < 10000000000 → line_of (int_text t 0) ≡ root_entry t
unfolding pushed
root_read t h =
    let g = granularity_of t 0 in
    line_read IntLine (λ i. get_or (form_of IntLine).dashes i false) (Number 0 ∷ Dash ∷ Dash ∷ Number g ∷ []) (root_plain g h)

pub child_read : (t : Tree) (j : ℕ) → (j ≡ 0 → ⊥) → Below (j ∷ parent_of t j ∷ parent_port_of t j ∷ granularity_of t j ∷ [])
    → line_of (int_text t j) ≡ child_entry t j
unfolding pushed
child_read t j d B = ap line_of (passed _ _ _ (ne_eqb j 0 d)) ∙ numbers_read IntLine B
