-- Laws of a tree file, read at a position: the answer for the whole is the answer for what is left. By the laws of lines at
-- a position and the clauses of the definition.
use Prim.Native.Nat.{ℕ, ◌+◌, ◌-◌, ◌≤◌, ◌<◌}
use mathlib.Core.List.{List}
use mathlib.Core.Path.{◌≡◌, sym, ◌∙◌, ap, ap₂}
use native.Mathlib.Omega.{arith}
use lib.ListN.{length, take, drop}
use borrow.Author.Tests.{lt-ltb, le-ltb, ne_eqb}
use Rattle.text.specs.Text.{part_length, lines, unended}
use Rattle.text.proofs.Parts.{lines_none, lines_unended, lines_next, part_fits}
use Rattle.model.specs.declared.Tree.{Tree}
use Rattle.model.specs.declared.Refusal.TheVariants.{Shape, Limit}
use Rattle.folds.proofs.Folds.{picked, passed}
use Rattle.lines.specs.declared.FileError.{FileError}
use Rattle.lines.specs.declared.FileError.TheVariants.{Refused as refused, Broken as broken}
use Rattle.lines.specs.Answer.{FileAnswer, file_error, file_answer}
use Rattle.std.specs.Prelude.{Result, Ok, Err}
use Rattle.placing.specs.declared.TreeReply.{TreeReply}
use Rattle.lines.specs.Lines.{line_of}
use Rattle.lines.proofs.Limits.{nonempty}
use Rattle.records.specs.Records.{empty_tree}
use Rattle.placing.specs.Placing.{TreeRead, tree_read, refused_at, finish, tree_line}
use Rattle.reader.specs.TreeFile.{onward, read_lines, read_tree}

pub tree_size : (s : List ℕ) → 65536 < length s → read_tree s ≡ refused_at Limit 0
unfolding read_tree
tree_size s h = picked _ _ _ (lt-ltb _ _ h)

-- what is left of a file from a position on
abbrev pub tree_from : ℕ → Tree → List ℕ → ℕ → TreeRead
tree_from n t s at = read_lines n t (lines (drop at s)) (unended (drop at s))

pub tree_start : (s : List ℕ) → length s ≤ 65536 → read_tree s ≡ tree_from 1 empty_tree s 0
unfolding read_tree
tree_start s h = passed _ _ _ (le-ltb _ _ h)

pub tree_end : (n : ℕ) (t : Tree) (s : List ℕ) (at : ℕ) → length s ≤ at → tree_from n t s at ≡ finish n t
unfolding read_lines
tree_end n t s at h = ap₂ (read_lines n t) (lines_none s at h).0 (lines_none s at h).1

module _ (n : ℕ) (t : Tree) (s : List ℕ) (at e : ℕ) (h : at < length s) (q : e ≡ at + part_length 10 (drop at s)) where
  pub tree_unended : e ≡ length s → tree_from n t s at ≡ refused_at Shape n
  unfolding read_lines
  tree_unended l =
      let r = lines_unended s at e (omega arith) q (omega arith) in
      ap₂ (read_lines n t) r.0 r.1 ∙ passed _ _ _ (ne_eqb _ _ (nonempty s at e (omega arith) (omega arith)))

  -- one line, and what is left after it
  pub tree_line_lem : (e ≡ length s → ⊥) → tree_from n t s at ≡ onward (tree_line n t (line_of (take (e - at) (drop at s)))).answer (tree_line n t (line_of (take (e - at) (drop at s)))) (tree_from (n + 1) (tree_line n t (line_of (take (e - at) (drop at s)))).tree s (e + 1))
  unfolding read_lines
  tree_line_lem l =
      let f = part_fits 10 s at (omega arith) in
      let r = lines_next s at e (omega arith) q (omega arith) in
      ap₂ (read_lines n t) r.0 r.1

-- after an accepted line reading goes on
pub goes_on : (y : TreeReply) (r next : TreeRead) → tree_read y ≡ r → (u : Unit {0}) → y.answer ≡ Ok u → onward r.answer r next ≡ next
goes_on y r next e u a =
    ap (λ (k : FileAnswer). onward k r next) (sym (ap (λ (z : TreeRead). z.answer) e) ∙ ap (λ (z : Result (Unit {0}) FileError). file_answer z) a)

-- after a refused line it ends
pub ends : (y : TreeReply) (r next : TreeRead) → tree_read y ≡ r → (x : FileError) → y.answer ≡ Err x → onward r.answer r next ≡ tree_read y
ends y r next e x a = go x (sym (ap (λ (z : TreeRead). z.answer) e) ∙ ap (λ (z : Result (Unit {0}) FileError). file_answer z) a)
  where
    go : (x : FileError) → r.answer ≡ file_error x → onward r.answer r next ≡ tree_read y
    go (refused z m) f = ap (λ (k : FileAnswer). onward k r next) f ∙ sym e
    go broken f = ap (λ (k : FileAnswer). onward k r next) f ∙ sym e
