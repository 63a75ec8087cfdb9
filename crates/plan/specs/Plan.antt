-- What `report` answers of a tree file (document 01, the end of "Figures to check by" and "What is refused").
--
-- printed x t         the text put for a reading's answer x, with the tree t beside it: the report of an accepted tree, and
--                      nothing on a refusal ("Left as it was: every buffer")
-- Printing q d e n k l  from the reading q the page d became e, with the text of n bytes laid on it; k and l are the
--                      number and the line of a refusal
use Rattle.std.specs.Prelude.{ℕ, List, [], ◌≡◌}
use Rattle.model.specs.declared.Tree.{Tree}
use Rattle.lines.specs.Answer.{FileAnswer, Accepted, Refused, Broken, answer_number, answer_line}
use Rattle.placing.specs.Placing.{TreeRead}
use Rattle.put.specs.Page.{Written}
use Rattle.listing.specs.Listing.{report_text}

abbrev pub printed : FileAnswer → Tree → List ℕ
printed Accepted t = report_text t
printed (Refused r n) t = []
printed Broken t = []

pub record Printing (q : TreeRead) (d e : List ℕ) (n k l : ℕ) : Type 0 where
  pub text : Written (printed q.answer q.tree) d e n
  pub number : k ≡ answer_number q.answer
  pub line : l ≡ answer_line q.answer
