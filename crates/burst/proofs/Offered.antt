-- The pieces of a burst one offer after another: what the first answers picks the case of the definition.
use Prim.Native.Nat.{ℕ, suc, ◌+◌, ◌-◌, ◌≤◌, ◌<◌}
use mathlib.Core.Path.{◌≡◌, refl, sym, ◌∙◌, ap}
use native.Mathlib.Omega.{arith}
use Rattle.model.specs.declared.Tree.{Tree}
use Rattle.model.specs.declared.State.{State}
use Rattle.machine.specs.Machine.{Answer, admitted, refused, on_admitted, offered}
use Rattle.burst.specs.Offers.{Offering, offering, one_more, offer_pieces}

pub none_left : (t : Tree) (s : State) (a : ℕ) → offering admitted 0 s ≡ offer_pieces 0 t s a
unfolding offer_pieces
none_left t s a = refl

pub one_admitted : (k : ℕ) (t : Tree) (s : State) (a : ℕ) → (offered t s a).answer ≡ admitted
    → one_more (offer_pieces k t (offered t s a).state a) ≡ offer_pieces (suc k) t s a
unfolding offer_pieces
one_admitted k t s a e =
    sym (ap (λ (x : Answer). on_admitted x (one_more (offer_pieces k t (offered t s a).state a)) (offering (offered t s a).answer 0 (offered t s a).state)) e)

pub one_refused : (k : ℕ) (t : Tree) (s : State) (a m : ℕ) → (offered t s a).answer ≡ refused m
    → offering (refused m) 0 (offered t s a).state ≡ offer_pieces (suc k) t s a
unfolding offer_pieces
one_refused k t s a m e =
    sym (ap (λ (x : Answer). on_admitted x (one_more (offer_pieces k t (offered t s a).state a)) (offering x 0 (offered t s a).state)) e)

-- m pieces more, admitted before
abbrev pub raised : ℕ → Offering → Offering
raised m o = offering o.answer (m + o.admissions) o.state

pub raised_none : (o : Offering) → raised 0 o ≡ o
raised_none o = ap (λ (n : ℕ). offering o.answer n o.state) {x = 0 + o.admissions} {y = o.admissions} (omega arith)

pub raised_one : (m : ℕ) (o : Offering) → raised (m + 1) o ≡ raised m (one_more o)
raised_one m o = ap (λ (n : ℕ). offering o.answer n o.state) {x = m + 1 + o.admissions} {y = m + suc o.admissions} (omega arith)

-- so many of k pieces are admitted, and what comes of all is what comes of the others from the state now on
abbrev pub Sofar : Tree → ℕ → ℕ → State → State → ℕ → Type 0
Sofar t a k first now m = (m ≤ k) × (raised m (offer_pieces (k - m) t now a) ≡ offer_pieces k t first a)

pub sofar_none : (t : Tree) (a k : ℕ) (s : State) → Sofar t a k s s 0
sofar_none t a k s = (
  omega arith,
  raised_none (offer_pieces (k - 0) t s a) ∙ ap (λ (i : ℕ). offer_pieces i t s a) {x = k - 0} {y = k} (omega arith),
)

module _ (t : Tree) (a k : ℕ) (first now : State) (m : ℕ) (l : m < k) (so : Sofar t a k first now m) where
  one_less : k - m ≡ suc (k - (m + 1))
  one_less = omega arith

  pub sofar_admitted : (offered t now a).answer ≡ admitted → Sofar t a k first (offered t now a).state (m + 1)
  sofar_admitted e = (
    omega arith,
    raised_one m _
        ∙ ap (raised m) (one_admitted (k - (m + 1)) t now a e ∙ ap (λ (n : ℕ). offer_pieces n t now a) (sym one_less))
        ∙ so.1,
  )

  pub sofar_refused : (n : ℕ) → (offered t now a).answer ≡ refused n → offering (refused n) m (offered t now a).state ≡ offer_pieces k t first a
  sofar_refused n e =
      ap (λ (i : ℕ). offering (refused n) i (offered t now a).state) {x = m} {y = m + 0} (omega arith)
      ∙ ap (raised m) (one_refused (k - (m + 1)) t now a n e ∙ ap (λ (i : ℕ). offer_pieces i t now a) (sym one_less))
      ∙ so.1

pub sofar_all : (t : Tree) (a k : ℕ) (first now : State) (m : ℕ) → k ≤ m → Sofar t a k first now m
    → offering admitted k now ≡ offer_pieces k t first a
sofar_all t a k first now m l so =
    ap (λ (i : ℕ). offering admitted i now) {x = k} {y = m + 0} (omega (arith, so.0))
    ∙ ap (raised m) (none_left t now a ∙ ap (λ (i : ℕ). offer_pieces i t now a) {x = 0} {y = k - m} (omega arith))
    ∙ so.1
