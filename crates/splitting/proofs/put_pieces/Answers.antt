-- `put_pieces` meets its contract: before each turn the first i lines are put.
use mathlib.Core.Path.{◌≡◌, ap}
use Prim.Native.Nat.{ℕ, min}
use native.Mathlib.Omega.{arith}
use lib.ListN.{get_or}
use Rattle.put.specs.Page.{joined}
use Rattle.put.proofs.Texts.{puts_as, puts_most}
use Rattle.put.proofs.Lines.{lines_none, lines_turn}
use Rattle.splitting.specs.Lines.{piece_text, pieces_text}
use Rattle.splitting.proofs.put_pieces.Goals as goal

pub loop-i-init : goal.loop-i-init
loop-i-init c = lines_none 42 _ _

pub loop-i-preserved : goal.loop-i-preserved
loop-i-preserved c =
    lines_turn 42 (λ j. piece_text (get_or c.args.starts.now j 0) (get_or c.args.beats.now j 0)) _ c.loop-i.invariant c.put_piece.ensures

pub returns : goal.returns
unfolding pieces_text
returns c =
    let e : c.loop-i.i ≡ min c.args.count 256 = omega (arith, c.min-listed.ensures) in
    puts_most (omega arith)
    (puts_as (ap (λ (k : ℕ). joined k (λ j. piece_text (get_or c.args.starts.now j 0) (get_or c.args.beats.now j 0))) e) c.loop-i.invariant)
