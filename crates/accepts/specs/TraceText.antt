-- The text of a trace, and what a file writes, said by writing and not by reading (document 01, "The tree on paper").
--
-- request_text r       the o line of request r: slot, accelerator, count
-- trace_text rs        the file of the requests rs, one line each, in order
-- TraceKeeps a rs      the requests rs are in their limits for a tree of a accelerators, "Slots do not fall", "One accelerator's
--                      counts total at most 65,535"
-- WritesTrace a s rs   "a file as exactly the .. trace that it writes": the bytes s, "at most 65,536", write the requests rs, which keep
--                      these rules
use Rattle.std.specs.Prelude.{ℕ, ◌≤◌, true, List, [], ◌∷◌, map, ◌≡◌, length}
use Rattle.text.specs.Write.{numbers, line_text, file_text}
use Rattle.lines.specs.declared.Kind.TheVariants.{OfferLine}
use Rattle.lines.specs.Lines.{name_of}
use Rattle.trace.specs.declared.Request.{Request}
use Rattle.trace.specs.TraceFile.{rising, all_in_range, total_for}

abbrev pub request_text : Request → List ℕ
request_text r = line_text (name_of OfferLine) (numbers (r.slot ∷ r.accelerator ∷ r.count ∷ []))

abbrev pub trace_text : List Request → List ℕ
trace_text rs = file_text (map request_text rs)

pub record TraceKeeps (accs : ℕ) (rs : List Request) : Type 0 where
  pub range : all_in_range accs rs ≡ true
  pub order : rising 0 rs ≡ true
  pub total : (a : ℕ) → total_for a rs ≤ 65535

pub record WritesTrace (accs : ℕ) (s : List ℕ) (rs : List Request) : Type 0 where
  pub text : s ≡ trace_text rs
  pub size : length s ≤ 65536
  pub keeps : TraceKeeps accs rs
