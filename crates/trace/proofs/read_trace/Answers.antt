-- `read_trace` meets its contract: once the rules are checked, a trace is read as `read_requests` reads it.
use mathlib.Core.Path.{sym, ◌∙◌}
use Rattle.trace.proofs.Traces.{trace_broken, reads_kept}
use Rattle.trace.proofs.read_trace.Goals as goal

pub returns-then-tree_keeps : goal.returns-then-tree_keeps
returns-then-tree_keeps c = c.read_requests.ensures ∙ reads_kept _ _ (sym c.tree_keeps.ensures ∙ c.if-tree_keeps.true)

pub returns : goal.returns
returns c = sym (trace_broken _ _ (sym c.tree_keeps.ensures ∙ c.if-tree_keeps.false))
