-- A refused tree file hands back the empty tree: reading ends with the first line that is refused, or with the file's end, and of both that
-- is the law of `placing`.
use Prim.Native.Nat.{ℕ, ◌+◌}
use mathlib.Core.List.{List, [], ◌∷◌}
use mathlib.Core.Path.{◌≡◌}
use lib.Dec.{ltb, eqb}
use lib.ListN.{length}
use Rattle.std.specs.Prelude.{Err}
use Rattle.model.specs.declared.Tree.{Tree}
use Rattle.model.specs.declared.Refusal.TheVariants.{Shape, Limit}
use Rattle.text.specs.Text.{lines, unended}
use Rattle.lines.specs.declared.FileError.{FileError}
use Rattle.lines.specs.Answer.{FileAnswer, Accepted, Refused, Broken}
use Rattle.lines.specs.Lines.{line_of}
use Rattle.records.specs.Records.{empty_tree}
use Rattle.placing.specs.declared.TreeReply.{TreeReply}
use Rattle.placing.specs.Placing.{TreeRead, tree_read, refused_at, finish, tree_line}
use Rattle.placing.proofs.Emptied.{EmptyIfRefused, refused_empty, pick_empty, test_empty, line_empty, finish_empty, reply_empty}
use Rattle.reader.specs.TreeFile.{onward, read_lines, read_tree}

onward_empty : (x : FileAnswer) (r next : TreeRead) → EmptyIfRefused r → EmptyIfRefused next → EmptyIfRefused (onward x r next)
onward_empty Accepted r next f g = g
onward_empty (Refused z m) r next f g = f
onward_empty Broken r next f g = f

lines_empty : (n : ℕ) (t : Tree) (ls : List (List ℕ)) (u : List ℕ) → EmptyIfRefused (read_lines n t ls u)
unfolding read_lines
lines_empty n t [] u = pick_empty (eqb (length u) 0) (finish n t) (refused_at Shape n) (finish_empty n t) (refused_empty Shape n)
lines_empty n t (l ∷ ls) u =
    let r : TreeRead = tree_line n t (line_of l) in
    onward_empty r.answer r (read_lines (n + 1) r.tree ls u) (line_empty n t (line_of l)) (lines_empty (n + 1) r.tree ls u)

pub file_empty : (s : List ℕ) → EmptyIfRefused (read_tree s)
unfolding read_tree
file_empty s = test_empty (ltb 65536 (length s)) Limit 0 _ (lines_empty 1 empty_tree (lines s) (unended s))

-- the reply of `read_tree`: its error comes with the empty tree
pub read_empty : (r : TreeReply) (s : List ℕ) → tree_read r ≡ read_tree s → (e : FileError) → r.answer ≡ Err e → r.tree ≡ empty_tree
read_empty r s q = reply_empty r (read_tree s) q (file_empty s)
