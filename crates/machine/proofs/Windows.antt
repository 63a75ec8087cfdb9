-- The next slot is in another window exactly if its number is a multiple of the window: the remainder starts anew.
use Prim.Native.Nat.{ℕ, ◌+◌, ◌*◌, ◌/◌, ◌%◌, ◌≤◌, ◌<◌}
use mathlib.Core.Logic.{◌↔◌}
use mathlib.Core.Path.{◌≡◌, ◌∙◌, ap}
use native.Mathlib.Decide.{ℕ_discrete}
use native.Mathlib.Nat.{div-add-mod', mod-lt, mul-add-div_right, mul-add-mod_self_right, div-eq_of_lt, mod-eq_of_lt, div_self, mod_self}
use native.Mathlib.Omega.{arith}

module _ (w n : ℕ) (h : 1 ≤ w) where
  next_div : (n + 1) / w ≡ n / w + (n % w + 1) / w
  next_div = ap (λ x. x / w) {x = n + 1} {y = n / w * w + (n % w + 1)} (omega (arith, div-add-mod' n w))
      ∙ mul-add-div_right h (n / w) (n % w + 1)

  next_mod : (n + 1) % w ≡ (n % w + 1) % w
  next_mod = ap (λ x. x % w) {x = n + 1} {y = n / w * w + (n % w + 1)} (omega (arith, div-add-mod' n w))
      ∙ mul-add-mod_self_right (n / w) w (n % w + 1)

  -- the remainder of the next slot: 0 after the last of a window, else one more
  pub mod_last : n % w + 1 ≡ w → (n + 1) % w ≡ 0
  mod_last e = next_mod ∙ ap (λ x. x % w) e ∙ mod_self w

  pub mod_next : n % w + 1 < w → (n + 1) % w ≡ n % w + 1
  mod_next l = next_mod ∙ mod-eq_of_lt l

  pub window_opens : ((n + 1) / w ≡ n / w → ⊥) ↔ ((n + 1) % w ≡ 0)
  window_opens = elim (ℕ_discrete (n % w + 1) w) [
    | yes e ↦
        let q : (n % w + 1) / w ≡ 1 = ap (λ x. x / w) e ∙ div_self h in
        (λ _. mod_last e, λ _ f. omega (arith, next_div, q, f))
    | no d ↦
        let l : n % w + 1 < w = omega (arith, mod-lt n h) in (
          λ f. absurd (f (next_div ∙ omega (arith, div-eq_of_lt l))),
          λ f. absurd (omega (arith, mod_next l, f)),
        )
  ]
