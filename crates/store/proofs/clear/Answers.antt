-- `clear` meets its contract: the loop has set each number before the next one.
use Rattle.std.proofs.Common.{◌≡◌, ℕ, ◌+◌, List, sym, refl, ap, ◌∙◌, add-one}
use Rattle.store.specs.Store.{cleared, stored}
use Rattle.store.proofs.clear.Goals as goal

one_more : (d : List ℕ) (p n : ℕ) → cleared d p (n + 1) ≡ stored (cleared d p n) p n 0
unfolding cleared
one_more d p n = rw add-one

pub loop-i-init : goal.loop-i-init
unfolding cleared
loop-i-init c = refl

pub loop-i-preserved : goal.loop-i-preserved
loop-i-preserved c =
    let p = c.args.part in
    let l = c.loop-i in
    c.put.ensures ∙ ap (λ (z : List ℕ). stored z p l.i 0) l.invariant ∙ sym (one_more _ _ _)
