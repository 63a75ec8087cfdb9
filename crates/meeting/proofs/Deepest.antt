-- The first crossing that both paths have is the deepest: each step up a path comes to a smaller level, and the root is on both.
-- By induction from the root on the interconnect at which a path begins.
use Prim.Native.Nat.{ℕ, ◌≤◌, ◌<◌}
use mathlib.Core.Bool.{Bool, true, false, ◌||◌, or-true}
use mathlib.Core.List.{List, [], ◌∷◌}
use mathlib.Core.Path.{◌≡◌, refl, sym, ◌∙◌, ap, subst}
use native.Mathlib.Decide.{dec_lt, ℕ_discrete}
use native.Mathlib.Omega.{arith}
use lib.Dec.{eqb}
use borrow.Author.Tests.{eq-eqb, ne_eqb}
use Rattle.model.specs.declared.Tree.{Tree}
use Rattle.model.specs.Tree.{Crossing, parent_of, parent_port_of, home_of, home_port_of, above, path, level_of}
use Rattle.rules.specs.Rules.{tree_keeps}
use Rattle.rules.proofs.Sound.{Sound, sound, above_root, above_step}
use Rattle.rules.proofs.Beneath.{On, here, there, lane, no_crossing, rising, child_level, path_root}
use Rattle.meeting.specs.Meeting.{crosses, meeting, meet_of, Deepest}
use Rattle.meeting.proofs.Crossings.{meeting_here, meeting_above}

pub crosses_true : (i : ℕ) (xs : List Crossing) → crosses i xs ≡ true → (p : ℕ) × On i p xs
unfolding crosses
crosses_true i [] e = let z : ◌≡◌ {A = ℕ} 0 1 = cc in absurd (omega arith)
crosses_true i (x ∷ xs) e = elim (ℕ_discrete i x.interconnect) [
  | yes q ↦ (x.port, here (sym q) refl)
  | no d ↦ let h = crosses_true i xs (sym (ap (λ c. c || crosses i xs) (ne_eqb i x.interconnect d)) ∙ e) in (h.0, there h.1)
]

pub on_crosses : (i p : ℕ) (xs : List Crossing) → On i p xs → crosses i xs ≡ true
unfolding crosses
on_crosses i p [] o = elim o [ ]
on_crosses i p (x ∷ xs) (here e f) = ap (λ c. c || crosses i xs) (eq-eqb i x.interconnect (sym e))
on_crosses i p (x ∷ xs) (there o) = ap (λ c. eqb i x.interconnect || c) (on_crosses i p xs o) ∙ or-true (eqb i x.interconnect)

module _ (t : Tree) (S : Sound t) where
  -- what is above interconnect k is on the lane of its parent
  up : {i p : ℕ} (k : ℕ) → k < t.ints → On i p (above 15 t k) → (0 < k) × On i p (lane t (parent_of t k) (parent_port_of t k))
  up k l o = elim (dec_lt 0 k) [
    | yes z ↦ (z, subst (On _ _) (above_step t S k z l) o)
    | no d ↦ let e : k ≡ 0 = omega arith in absurd (no_crossing (above 15 t k) (ap (above 15 t) e ∙ above_root t S) o)
  ]

  -- no crossing of a lane is deeper than its first
  shallower : (k q : ℕ) → k < t.ints → (i p : ℕ) → On i p (lane t k q) → level_of t i ≤ level_of t k
  shallower = rising t S Up go
    where
      Up : ℕ → ℕ → Type 0
      Up k q = (i p : ℕ) → On i p (lane t k q) → level_of t i ≤ level_of t k

      go : (k q : ℕ) → k < t.ints → (0 < k → Up (parent_of t k) (parent_port_of t k)) → Up k q
      go k q l ih i p (here e f) = subst (λ j. level_of t j ≤ level_of t k) e (omega arith)
      go k q l ih i p (there o) =
          let u = up k l o in
          omega (arith, ih u.0 i p u.1, child_level t S k (parent_of t k) u.0 l refl)

  module _ (ys : List Crossing) (r : ℕ) (root : On 0 r ys) where
    record Met (xs : List Crossing) (i : ℕ) : Type 0 where
      port : ℕ
      first : On i port xs
      second : crosses i ys ≡ true
      deepest : (j p : ℕ) → On j p xs → crosses j ys ≡ true → level_of t j ≤ level_of t i

    met : (k q : ℕ) → k < t.ints → Met (lane t k q) (meeting (lane t k q) ys).interconnect
    met = rising t S (λ k q. Met (lane t k q) (meeting (lane t k q) ys).interconnect) (λ k q l ih. go k q l ih (crosses k ys) refl)
      where
        go : (k q : ℕ) → k < t.ints
            → (0 < k → Met (lane t (parent_of t k) (parent_port_of t k)) (meeting (lane t (parent_of t k) (parent_port_of t k)) ys).interconnect)
            → (c : Bool) → crosses k ys ≡ c → Met (lane t k q) (meeting (lane t k q) ys).interconnect
        go k q l ih true e =
            subst (Met (lane t k q)) (sym (ap (λ (x : Crossing). x.interconnect) (meeting_here (record { interconnect = k; port = q }) (above 15 t k) ys e)))
            (record { port = q; first = here refl refl; second = e; deepest = λ j p o _. shallower k q l j p o })
        go k q l ih false e = elim (dec_lt 0 k) [
          | yes z ↦
              let h = ih z in
              let same : meeting (lane t k q) ys ≡ meeting (lane t (parent_of t k) (parent_port_of t k)) ys =
              meeting_above (record { interconnect = k; port = q }) (above 15 t k) ys e ∙ ap (λ (xs : List Crossing). meeting xs ys) (above_step t S k z l) in
              subst (Met (lane t k q)) (sym (ap (λ (x : Crossing). x.interconnect) same))
              (record {
                port = h.port;
                first = there (subst (On _ _) (sym (above_step t S k z l)) h.first);
                second = h.second;
                deepest = λ j p o c. below _ h.deepest j p o c;
              })
          | no d ↦
              let y : crosses k ys ≡ true = ap (λ j. crosses j ys) {x = k} {y = 0} (omega arith) ∙ on_crosses 0 r ys root in
              let w : true ≡ false = sym y ∙ e in
              let z : ◌≡◌ {A = ℕ} 0 1 = cc in absurd (omega arith)
        ]
          where
            below : (m : ℕ) → ((j p : ℕ) → On j p (lane t (parent_of t k) (parent_port_of t k)) → crosses j ys ≡ true → level_of t j ≤ level_of t m)
                → (j p : ℕ) → On j p (lane t k q) → crosses j ys ≡ true → level_of t j ≤ level_of t m
            below m f j p (here g _) c =
                let w : true ≡ false = sym c ∙ ap (λ i. crosses i ys) (sym g) ∙ e in
                let z : ◌≡◌ {A = ℕ} 0 1 = cc in absurd (omega arith)
            below m f j p (there o) c = f j p (up k l o).1 c

-- "the deepest interconnect that both paths cross"
pub meeting_deepest : (t : Tree) → tree_keeps t ≡ true → (a b : ℕ) → a < t.accs → b < t.accs → Deepest t a b (meet_of t a b).interconnect
meeting_deepest t k a b la lb =
    let S = sound t k in
    let r = path_root t S b lb in
    let m = met t S (path t b) r.0 r.1 (home_of t a) (home_port_of t a) (S.home a la) in
    record {
      first = on_crosses _ m.port (path t a) m.first;
      second = m.second;
      deepest = λ j c d. let h = crosses_true j (path t a) c in m.deepest j h.0 h.1 d;
    }
