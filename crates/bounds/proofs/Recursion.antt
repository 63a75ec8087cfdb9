-- Lemma 9's recursion gives N × (share - 1): at each crossing N and Y together grow by the factor 1 + D. By induction on
-- the crossings.
use Prim.Native.Nat.{ℕ, ◌+◌, ◌*◌}
use mathlib.Core.List.{List, [], ◌∷◌}
use mathlib.Core.Path.{◌≡◌, ◌∙◌, ap}
use native.Mathlib.Nat.{mul-add, mul_assoc, mul-sub}
use native.Mathlib.Omega.{arith}
use Rattle.model.specs.declared.Tree.{Tree}
use Rattle.model.specs.declared.Channel.{Channel}
use Rattle.model.specs.Tree.{Crossing, limit_of, home_of, home_port_of, above}
use Rattle.shares.specs.Shares.{others_at, share_along, share_of}
use Rattle.bounds.specs.Bounds.{interference}
use Rattle.bounds.specs.Recursion.{upward, interferers}

upward_grows : (t : Tree) (φ : ℕ → ℕ) (n y : ℕ) (xs : List Crossing) → n + upward t φ n y xs ≡ (n + y) * share_along t φ xs
unfolding upward share_along
upward_grows t φ n y [] = omega arith
upward_grows t φ n y (x ∷ xs) =
    let d = others_at t φ x.interconnect x.port in
    upward_grows t φ n (y + (n + y) * d) xs
    ∙ ap (λ k. k * share_along t φ xs) (omega (arith, mul-add (n + y) 1 d))
    ∙ mul_assoc (n + y) (1 + d) (share_along t φ xs)

pub recursion : (t : Tree) (c : Channel) (n a : ℕ) → interferers t c n a ≡ interference n (share_of t c a)
unfolding share_along
recursion t c n a =
    let d = others_at t (limit_of t c) (home_of t a) (home_port_of t a) in
    let s = share_along t (limit_of t c) (above 15 t (home_of t a)) in
    let e : n + interferers t c n a ≡ n * ((1 + d) * s) =
    upward_grows t (limit_of t c) n (n * d) (above 15 t (home_of t a)) ∙ ap (λ k. k * s) (omega (arith, mul-add n 1 d)) ∙ mul_assoc n (1 + d) s
    in
    omega (arith, mul-sub n ((1 + d) * s) 1)
