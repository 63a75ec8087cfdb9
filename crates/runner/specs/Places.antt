-- Where the code stands in a trace, for the contracts of the inner functions.
--
-- left_at s at          the requests of trace s from a place of its bytes on
-- Accepts s at          the trace s is accepted from the place `at` on, so that its lines can be walked from there
use Rattle.std.specs.Prelude.{ℕ, ◌≤◌, List, ◌≡◌, length, drop}
use Rattle.text.specs.Text.{lines, unended}
use Rattle.trace.specs.declared.Request.{Request}
use Rattle.lines.specs.Answer.{Accepted}
use Rattle.trace.specs.TraceFile.{read_offers, requests}

abbrev pub left_at : List ℕ → ℕ → List Request
left_at s at = requests (lines (drop at s))

pub record Accepts (s : List ℕ) (at : ℕ) : Type 0 where
  pub line : ℕ
  pub accs : ℕ
  pub last : ℕ
  pub totals : List ℕ
  pub most : accs ≤ 32
  pub inside : at ≤ length s
  pub short : length s ≤ 65536
  pub accepted : read_offers line accs last totals (lines (drop at s)) (unended (drop at s)) ≡ Accepted
