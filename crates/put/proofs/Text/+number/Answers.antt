-- `number` meets its contract: one digit is written as it is, and else the digits of n / 10 come before the last.
use mathlib.Core.Path.{◌≡◌, subst}
use Prim.Native.Nat.{◌+◌, ◌%◌}
use mathlib.Core.List.{[], ◌∷◌}
use Rattle.put.specs.declared.Text.{Text}
use Rattle.put.specs.Texts.{Puts}
use Rattle.put.proofs.Texts.{puts_digit, puts_digits}
use Rattle.put.proofs.Text.+number.Goals.{then-n-ge10, else-n-ge10}
use Rattle.put.proofs.Text.+number.Goals as goal

pub returns : goal.returns
returns t c =
    let last = λ (a : Text) (e : c.if-n-ge10.self ≡ a). subst (λ (s : Text). Puts 1 s ((48 + c.args.n % 10) ∷ []) c.byte.new.self) e c.byte.ensures in
    elim c.if-n-ge10.branch [
      | then-n-ge10 w ↦ puts_digits _ w.if-n-ge10.true c.ranges.n.fits w.number.ensures (last _ w.self-is)
      | else-n-ge10 w ↦ puts_digit _ w.if-n-ge10.false (last _ w.self-is)
    ]
