-- `ports_empty` meets its contract: the loop has tested each number below the next one.
use mathlib.Core.Path.{◌≡◌, ap, sym, ◌∙◌}
use borrow.Author.Rules.{rules}
use Rattle.model.specs.Tree.{port_of}
use Rattle.rules.specs.Rules.{is_empty}
use Rattle.model.proofs.Sums.{all_none, all_turn}
use Rattle.rules.proofs.ports_empty.Goals as goal

pub loop-p-init : goal.loop-p-init
loop-p-init c = sym (all_none _)

pub loop-p-preserved : goal.loop-p-preserved
loop-p-preserved c =
    let same : c.eq-ok.result ≡ is_empty c.port_at.result = search rules in
    all_turn _ (λ q. is_empty (port_of c.args.t c.args.j q)) _ _ c.loop-p.invariant (same ∙ ap is_empty c.port_at.ensures)
