-- A tree file (document 01, "The tree on paper" and "What is refused"). Its lines are placed by `tree_line` of `placing`.
--
-- onward x r next      what a line's answer x lets the reading do: it ends with r, or goes on with next
-- read_lines n t ls u   the lines ls from line n on, and u after the last LF ("missing last LF" is 1)
-- read_tree s           "File size comes first, then lines in order"
use Rattle.std.specs.Prelude.{ℕ, ◌+◌, List, [], ◌∷◌, length, ltb, eqb}
use Rattle.model.specs.declared.Tree.{Tree}
use Rattle.model.specs.declared.Refusal.TheVariants.{Shape, Limit}
use Rattle.folds.specs.Fold.{pick}
use Rattle.text.specs.Text.{lines, unended}
use Rattle.lines.specs.Answer.{FileAnswer, Accepted, Refused, Broken}
use Rattle.lines.specs.Lines.{line_of}
use Rattle.placing.specs.Placing.{TreeRead, refused_at, finish, tree_line}
use Rattle.records.specs.Records.{empty_tree}

-- after a line that is accepted reading goes on with `next`; after a refusal it ends
abbrev pub onward : FileAnswer → TreeRead → TreeRead → TreeRead
onward Accepted r next = next
onward (Refused x n) r next = r
onward Broken r next = r

unfoldable pub read_lines : ℕ → Tree → List (List ℕ) → List ℕ → TreeRead
read_lines n t [] u = pick (eqb (length u) 0) (finish n t) (refused_at Shape n)
read_lines n t (l ∷ ls) u =
    onward (tree_line n t (line_of l)).answer (tree_line n t (line_of l)) (read_lines (n + 1) (tree_line n t (line_of l)).tree ls u)

unfoldable pub read_tree : List ℕ → TreeRead
read_tree s = pick (ltb 65536 (length s)) (refused_at Limit 0) (read_lines 1 empty_tree (lines s) (unended s))
