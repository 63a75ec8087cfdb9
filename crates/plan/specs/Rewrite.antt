-- What writing a tree file back answers (document 02, item 4, and document 01, "What is refused").
--
-- Printed              how many bytes were put, and a refusal's number and line; number 0 says that the file is accepted
-- refused_by n l       refused by number n at line l; no byte is put
-- wrote_as x           what the writer answers, as numbers: 11 and 13 have no line, which is said as 0
-- answered_by x p      the answer p where the reading answers x by accepting, else its refusal; left_by x d e: the buffer e alike, else d
-- rewrite_of q n       the answer for the reading q of a tree file and a buffer of n bytes: the reading's refusal, or what the writer
--                      answers of its tree
-- rewrite_buffer q d   the buffer d then
-- refusal_of e, prints x   the error e of `report` and `rewrite`, and what they answer, in numbers
-- ReportRefused q e    e is the refusal of the file whose reading is q
-- RewriteRefused q n e   so it is, or the file is accepted, and e is what the writer answers of its tree for a buffer of n bytes
use Rattle.std.specs.Prelude.{ℕ, List, Result, Ok, Err, ◌≡◌}
use Rattle.lines.specs.Answer.{FileAnswer, Accepted, Refused, Broken, file_error, answer_number, answer_line}
use Rattle.placing.specs.Placing.{TreeRead}
use Rattle.writer.specs.Writer.{Wrote, refused_at, denied, wrote, write_of, write_buffer}
use Rattle.writer.specs.Answers.{write_means}
use Rattle.plan.specs.declared.PlanError.{PlanError}
use Rattle.plan.specs.declared.PlanError.TheVariants.{File, Write}

pub record Printed : Type 0 where
  pub bytes : ℕ
  pub number : ℕ
  pub line : ℕ

abbrev pub refused_by : ℕ → ℕ → Printed
refused_by n l = record { bytes = 0; number = n; line = l }

abbrev pub wrote_as : Wrote → Printed
wrote_as (refused_at n l) = refused_by n l
wrote_as (denied n) = refused_by n 0
wrote_as (wrote n) = record { bytes = n; number = 0; line = 0 }

abbrev pub answered_by : FileAnswer → Printed → Printed
answered_by Accepted x = x
answered_by (Refused r n) x = refused_by (answer_number (Refused r n)) (answer_line (Refused r n))
answered_by Broken x = refused_by (answer_number Broken) (answer_line Broken)

abbrev pub left_by : FileAnswer → List ℕ → List ℕ → List ℕ
left_by Accepted d e = e
left_by (Refused r n) d e = d
left_by Broken d e = d

abbrev pub rewrite_of : TreeRead → ℕ → Printed
rewrite_of q n = answered_by q.answer (wrote_as (write_of q.tree n))

abbrev pub rewrite_buffer : TreeRead → List ℕ → List ℕ
rewrite_buffer q d = left_by q.answer d (write_buffer q.tree d)

abbrev pub refusal_of : PlanError → Printed
refusal_of (File e) = refused_by (answer_number (file_error e)) (answer_line (file_error e))
refusal_of (Write e) = wrote_as (write_means (Err e))

abbrev pub prints : Result ℕ PlanError → Printed
prints (Ok n) = record { bytes = n; number = 0; line = 0 }
prints (Err e) = refusal_of e

abbrev pub ReportRefused : TreeRead → PlanError → Type 0
ReportRefused q (File e) = file_error e ≡ q.answer
ReportRefused q (Write e) = ⊥

abbrev pub RewriteRefused : TreeRead → ℕ → PlanError → Type 0
RewriteRefused q n (File e) = file_error e ≡ q.answer
RewriteRefused q n (Write e) = (q.answer ≡ Accepted) × (write_means (Err e) ≡ write_of q.tree n)
