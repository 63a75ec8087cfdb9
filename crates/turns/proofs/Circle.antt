-- The next port worked out from the set and the last port is that of the circular rule: one test at each of the 255 sets with
-- a port by 8 last ports, which antt computes. The empty set has no port to find.
use Prim.Native.Nat.{ℕ, suc, ◌+◌, ◌*◌, ◌-◌, ◌/◌, ◌%◌, ◌^◌, ◌≤◌, ◌<◌}
use mathlib.Core.Bool.{Bool, true}
use mathlib.Core.Path.{◌≡◌, refl, sym, ◌∙◌, ap}
use native.Mathlib.Nat.{mod-lt, mod-mod, zero-div}
use native.Mathlib.Omega.{arith}
use lib.Count.{count_trailing_zeros, trailing_le}
use lib.Dec.{eqb, lit<}
use mir.Syntax.{w32}
use mir.Val.{Fits}
use borrow.Author.Tests.{eqb-true}
use Rattle.folds.specs.Fold.{all}
use Rattle.folds.proofs.Folds.{all_at}
use Rattle.turns.specs.Turns.{has_port, seek, next_port}
use Rattle.turns.proofs.Next.{next_none}

-- the port found from the set twice over, moved past last port l
abbrev found : ℕ → ℕ → ℕ
found set l = (count_trailing_zeros 32 (set * 257 / 2 ^ (l + 1)) + (l + 1)) % 8

right : ℕ → ℕ → Bool
right set l = eqb (found (set + 1) l) (next_port (set + 1) l)

test : all 255 (λ set. all 8 (right set)) ≡ true
unfolding all right count_trailing_zeros seek
test = refl

pub none_live : (set last : ℕ) → set ≡ 0 → 8 ≡ next_port set last
none_live set last e = sym (next_none set last (λ p _. ap (λ s. has_port s p) e ∙ ap (λ k. eqb (k % 2) 1) (zero-div (2 ^ p))))

pub some_live : (set last : ℕ) → (set ≡ 0 → ⊥) → set < 256 → found set (last % 8) ≡ next_port set last
unfolding right
some_live set last d h =
    let l = last % 8 in
    let e : set - 1 + 1 ≡ set = omega arith in
    sym (ap (λ s. found s l) e)
    ∙ eqb-true _ _ (all_at 8 (right (set - 1)) (all_at 255 (λ s. all 8 (right s)) test (set - 1) (omega arith)) l (mod-lt last (lit< tt)))
    ∙ ap (λ s. next_port s l) e ∙ ap (λ k. seek 8 set (suc k)) (mod-mod last 8)

-- the zeros below the lowest bit of a number and at most eight more are few
pub few_fit : (x y : ℕ) → y ≤ 8 → Fits w32 (count_trailing_zeros 32 x + y)
few_fit x y h = omega (arith, trailing_le 32 x)
