-- Laws of the offers of a run, each by the clauses of the definitions: offers leave what they do not name, keep the rules of
-- the state, and only take from the held counts.
use Prim.Native.Nat.{ℕ, zero, suc, ◌-◌, ◌≤◌, ◌<◌}
use mathlib.Core.Bool.{true}
use mathlib.Core.List.{List}
use mathlib.Core.Path.{◌≡◌, refl, sym, ◌∙◌, ap, subst, subst₂}
use native.Mathlib.Decide.{dec_lt, ℕ_discrete}
use native.Mathlib.Omega.{arith}
use lib.ListN.{length}
use lib.Seq.{get_or-set_same, get_or-set_other, set_out}
use Rattle.folds.proofs.Folds.{clash}
use Rattle.model.specs.declared.Tree.{Tree}
use Rattle.model.specs.declared.State.{State}
use Rattle.rules.specs.Rules.{keeps}
use Rattle.machine.specs.Machine.{Answer, admitted, served, idle, refused, offered, on_admitted}
use Rattle.machine.proofs.Laws.{offer_keeps}
use Rattle.runner.specs.Offers.{Offering, held_of, release, offering, offer_held, offer_each}

pub release_own : (h : List ℕ) (a : ℕ) → a < length h → held_of (release h a) a ≡ held_of h a - 1
release_own h a l = get_or-set_same h a _ 0 l

-- what holds of either way after an offer, by its answer
pub by_answer : {A : Type 0} (Q : A → Type 0) (x : Answer) (y z : A) → (x ≡ admitted → Q y) → ((x ≡ admitted → ⊥) → Q z)
    → Q (on_admitted x y z)
by_answer Q admitted y z p q = p refl
by_answer Q (served a) y z p q = q (λ e. clash cc)
by_answer Q idle y z p q = q (λ e. clash cc)
by_answer Q (refused n) y z p q = q (λ e. clash cc)

pub either : {A : Type 0} (Q : A → Type 0) (x : Answer) (y z : A) → Q y → Q z → Q (on_admitted x y z)
either Q x y z p q = by_answer Q x y z (λ _. p) (λ _. q)

-- both of two ways after an offer that answers the same
pub alike : {A B : Type 0} (Q : A → B → Type 0) (x y : Answer) (p o : A) (q d : B) → y ≡ x → (y ≡ admitted → Q p q) → Q o d
    → Q (on_admitted x p o) (on_admitted y q d)
alike Q admitted y p o q d e f g = subst (λ (z : Answer). Q p (on_admitted z q d)) (sym e) (f e)
alike Q (served a) y p o q d e f g = subst (λ (z : Answer). Q o (on_admitted z q d)) (sym e) g
alike Q idle y p o q d e f g = subst (λ (z : Answer). Q o (on_admitted z q d)) (sym e) g
alike Q (refused n) y p o q d e f g = subst (λ (z : Answer). Q o (on_admitted z q d)) (sym e) g

-- and after two that are refused
pub unlike : {A B : Type 0} (Q : A → B → Type 0) (x y : Answer) (p o : A) (q d : B) (n m : ℕ) → x ≡ refused n → y ≡ refused m → Q o d
    → Q (on_admitted x p o) (on_admitted y q d)
unlike Q x y p o q d n m e f g = subst₂ (λ (u v : Answer). Q (on_admitted u p o) (on_admitted v q d)) (sym e) (sym f) g

-- offers leave what they do not name
held_same : {A : Type 0} (f : State → A) (t : Tree) → ((s : State) (a : ℕ) → f (offered t s a).state ≡ f s) → (k : ℕ) (o : Offering) (a : ℕ)
    → f (offer_held k t o a).state ≡ f o.state
unfolding offer_held
held_same f t g zero o a = refl
held_same f t g (suc k) o a =
    either (λ (p : Offering). f p.state ≡ f o.state) (offered t o.state a).answer _ o
    (held_same f t g k (offering (offered t o.state a).state (release o.held a)) a ∙ g o.state a) refl

pub each_same : {A : Type 0} (f : State → A) (t : Tree) → ((s : State) (a : ℕ) → f (offered t s a).state ≡ f s) → (n : ℕ) (o : Offering)
    → f (offer_each n t o).state ≡ f o.state
unfolding offer_each
each_same f t g zero o = refl
each_same f t g (suc n) o = held_same f t g (held_of (offer_each n t o).held n) (offer_each n t o) n ∙ each_same f t g n o

-- offers keep the rules of the state
pub held_kept : (k : ℕ) (t : Tree) (o : Offering) (a : ℕ) → keeps t o.state ≡ true
    → keeps t (offer_held k t o a).state ≡ true
unfolding offer_held
held_kept zero t o a e = e
held_kept (suc k) t o a e =
    either (λ (p : Offering). keeps t p.state ≡ true) (offered t o.state a).answer _ o
    (held_kept k t (offering (offered t o.state a).state (release o.held a)) a (offer_keeps t o.state a e)) e

pub each_kept : (n : ℕ) (t : Tree) (o : Offering) → keeps t o.state ≡ true → keeps t (offer_each n t o).state ≡ true
unfolding offer_each
each_kept zero t o e = e
each_kept (suc n) t o e = held_kept (held_of (offer_each n t o).held n) t (offer_each n t o) n (each_kept n t o e)

-- offers only take from the held counts
release_less : (h : List ℕ) (a b : ℕ) → held_of (release h a) b ≤ held_of h b
release_less h a b = elim (ℕ_discrete b a) [
  | yes e ↦ elim (dec_lt a (length h)) [
    | yes l ↦ subst (λ x. held_of (release h a) x ≤ held_of h x) (sym e) (omega (arith, release_own h a l))
    | no d ↦ omega (arith, ap (λ (x : List ℕ). held_of x b) (set_out h a (held_of h a - 1) (omega arith)))
  ]
  | no d ↦ omega (arith, get_or-set_other h a b (held_of h a - 1) 0 d)
]

held_less : (k : ℕ) (t : Tree) (o : Offering) (a b : ℕ) → held_of (offer_held k t o a).held b ≤ held_of o.held b
unfolding offer_held
held_less zero t o a b = omega arith
held_less (suc k) t o a b =
    either (λ (p : Offering). held_of p.held b ≤ held_of o.held b) (offered t o.state a).answer _ o
    (omega (
      arith,
      held_less k t (offering (offered t o.state a).state (release o.held a)) a b,
      release_less o.held a b,
    ))
    (omega arith)

pub each_less : (n : ℕ) (t : Tree) (o : Offering) (b : ℕ) → held_of (offer_each n t o).held b ≤ held_of o.held b
unfolding offer_each
each_less zero t o b = omega arith
each_less (suc n) t o b =
    omega (arith, held_less (held_of (offer_each n t o).held n) t (offer_each n t o) n b, each_less n t o b)
