-- `put_pieces` meets its contract: before each turn the first i lines are put.
use Prim.Native.Nat.{◌*◌}
use lib.ListN.{get_or}
use Rattle.put.specs.Page.{joined}
use Rattle.put.specs.Texts.{Puts}
use Rattle.splitting.specs.Lines.{piece_text}
use Rattle.splitting.proofs.put_pieces.Given as goal

abbrev pub invariant-loop-i : goal.invariant-loop-i
invariant-loop-i l = Puts (42 * l.i) l.initial.text (joined l.i (λ j. piece_text (get_or l.starts j 0) (get_or l.beats j 0))) l.text
