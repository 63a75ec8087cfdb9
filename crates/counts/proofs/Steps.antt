-- What each step of the code does to the sets, the counts and the arrays, said over variables. By the laws of `set` and
-- `pick`, and the bits of a set by one test that antt computes.
use mathlib.Core.Path.{◌≡◌, refl, ap, ap₂, sym, ◌∙◌}
use mathlib.Core.Bool.{Bool, true, ◌&&◌}
use mathlib.Core.List.{List, [], ◌∷◌}
use Prim.Native.Nat.{ℕ, zero, suc, ◌+◌, ◌-◌, ◌*◌, ◌/◌, ◌%◌, ◌^◌, ◌≤◌, ◌<◌, min}
use native.Mathlib.Omega.{arith}
use lib.ListN.{get_or, set}
use lib.Bits.{bit_or, bit_and}
use lib.Dec.{eqb}
use borrow.Author.Tests.{eqb-true, eq-eqb, ne_eqb, le-ltb, lt-ltb}
use Rattle.folds.specs.Fold.{all}
use Rattle.folds.proofs.Folds.{both, all_at, picked, passed}
use Rattle.counts.specs.Table.{port_number}
use Rattle.counts.specs.declared.Ports.{Ports}
use Rattle.counts.specs.Choice.{ports, more_at}
use Rattle.counts.specs.Counts.{up, with_port, without_port, raised, opened}

-- the number of a port tells its interconnect and the port
pub number_interconnect : (j p : ℕ) → p < 8 → port_number j p / 8 ≡ j
number_interconnect j p h = omega arith

pub number_port : (j p : ℕ) → p < 8 → port_number j p % 8 ≡ p
number_port j p h = omega arith

-- the bit of port p put into a set and taken out of it, computed at each of the 256 sets and 8 ports
abbrev bit : ℕ → ℕ
bit p = 1 * 2 ^ p % 2 ^ 8

abbrev puts : ℕ → ℕ → Bool
puts v p = eqb (bit_or v (bit p)) (with_port v p)

abbrev takes : ℕ → ℕ → Bool
takes v p = eqb (bit_and v (255 - bit p)) (without_port v p)

test : all 256 (λ v. all 8 (λ p. puts v p && takes v p)) ≡ true
unfolding all
test = refl

tested : (v p : ℕ) → v < 256 → (puts v (p % 8) ≡ true) × (takes v (p % 8) ≡ true)
tested v p h =
    both (puts v (p % 8)) (takes v (p % 8))
    (all_at 8 (λ p. puts v p && takes v p) (all_at 256 (λ v. all 8 (λ p. puts v p && takes v p)) test v h) (p % 8) (omega arith))

pub set_bit : (v p : ℕ) → v < 256 → bit_or v (bit (p % 8)) ≡ with_port v (p % 8)
set_bit v p h = eqb-true _ _ (tested v p h).0

pub clear_bit : (v p : ℕ) → v < 256 → bit_and v (255 - bit (p % 8)) ≡ without_port v (p % 8)
clear_bit v p h = eqb-true _ _ (tested v p h).1

-- a port below 8 is its own remainder
port_again : (c : ℕ) → c % 8 % 8 ≡ c % 8
port_again c = omega arith

-- the ports from c up: none over no levels and from no port, else c and the ports above it
pub up_none : (n : ℕ) (u : List ℕ) (c : ℕ) → n ≤ 0 → up n u c ≡ []
unfolding up
up_none zero u c h = refl
up_none (suc n) u c h = absurd (omega arith)

pub up_out : (n : ℕ) (u : List ℕ) (c : ℕ) → 119 < c → up n u c ≡ []
unfolding up
up_out zero u c h = refl
up_out (suc n) u c h = picked _ _ _ (lt-ltb _ _ h)

pub up_root : (n : ℕ) (u : List ℕ) (c : ℕ) → 0 < n → c ≤ 119 → c / 8 ≡ 0 → up n u c ≡ c ∷ []
unfolding up
up_root zero u c h k e = absurd (omega arith)
up_root (suc n) u c h k e = passed _ _ _ (le-ltb _ _ k) ∙ ap (λ (l : List ℕ). c ∷ l) (picked _ _ _ (eq-eqb _ _ e))

pub up_next : (n m : ℕ) (u : List ℕ) (c x : ℕ) → n ≡ m + 1 → c ≤ 119 → (c / 8 ≡ 0 → ⊥) → x ≡ get_or u (c / 8) 0 → up n u c ≡ c ∷ up m u x
unfolding up
up_next zero m u c x h k d e = absurd (omega arith)
up_next (suc n) m u c x h k d e =
    passed _ _ _ (le-ltb _ _ k)
    ∙ ap (λ (l : List ℕ). c ∷ l) (passed _ _ _ (ne_eqb _ _ d) ∙ ap₂ (λ (i y : ℕ). up i u y) {y = m} (omega arith) (sym e))

-- one more waits under the ports l: under the first of them, and then under the others
pub more_none : {l : List ℕ} (d : Ports) → l ≡ [] → more_at l d ≡ d
unfolding raised opened
more_none d e = ap (λ (k : List ℕ). more_at k d) e

pub more_port : {c a b : ℕ} {l k : List ℕ} (d : Ports) → l ≡ c ∷ k → a ≡ min (get_or d.under c 0 + 1) 65535 → b ≡ with_port (get_or d.live (c / 8) 0) (c % 8 % 8)
    → more_at k (ports (set d.under c a) (set d.live (c / 8) b) d.last d.allowance) ≡ more_at l d
unfolding raised opened
more_port {c} {a} {b} {l} {k} d e f g =
    let n : a ≡ min 65535 (get_or d.under c 0 + 1) = omega (arith, f) in
    ap₂ (λ (x y : ℕ). more_at k (ports (set d.under c x) (set d.live (c / 8) y) d.last d.allowance)) n (g ∙ ap (with_port (get_or d.live (c / 8) 0)) (port_again c))
    ∙ ap (λ (j : List ℕ). more_at j d) (sym e)

-- what is kept is the same by its parts
pub ports_same : (d e : Ports) → d.under ≡ e.under → d.live ≡ e.live → d.last ≡ e.last → d.allowance ≡ e.allowance → d ≡ e
ports_same d e p q r s =
    ap₂ (λ (x y : List ℕ). ports x y d.last d.allowance) p q ∙ ap₂ (λ (x y : List ℕ). ports e.under e.live x y) r s
