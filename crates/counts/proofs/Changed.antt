-- The updates of the counts along a list of crossings as one fold: each crossing's entry is updated, and where no two
-- crossings have one place, an entry is as it was or updated once. By induction on the list.
use Prim.Native.Nat.{ℕ, ◌+◌, ◌-◌, ◌<◌, min}
use mathlib.Core.List.{List, [], ◌∷◌, ◌++◌}
use mathlib.Core.Path.{◌≡◌, refl, sym, ◌∙◌, ap, ap₂, subst}
use native.Mathlib.Decide.{ℕ_discrete}
use native.Mathlib.Omega.{arith}
use lib.Dec.{eqb}
use lib.ListN.{get_or, set, length, length-set}
use lib.Seq.{get_or-set_same, get_or-set_other}
use Rattle.folds.specs.Fold.{pick}
use Rattle.model.specs.Tree.{Crossing}
use Rattle.rules.proofs.Beneath.{On, here, there, no_crossing}
use Rattle.counts.specs.Table.{port_number}
use Rattle.counts.specs.Counts.{with_port, without_port, raised, opened, lower, close_port}
use Rattle.counts.proofs.Steps.{number_interconnect, number_port}

-- the port numbers of the crossings of a list
abbrev pub numbers : List Crossing → List ℕ
numbers [] = []
numbers (c ∷ l) = port_number c.interconnect c.port ∷ numbers l

pub numbers_more : (l : List Crossing) (c : Crossing) → numbers (l ++ c ∷ []) ≡ numbers l ++ port_number c.interconnect c.port ∷ []
numbers_more [] c = refl
numbers_more (k ∷ l) c = ap (λ r. port_number k.interconnect k.port ∷ r) (numbers_more l c)

-- the counts u with one less at each port of a list, one after the other, and the sets v without those ports of which the count is 0 then
unfoldable pub lowered : List ℕ → List ℕ → List ℕ
lowered [] u = u
lowered (c ∷ l) u = lowered l (lower c u)

unfoldable pub closed : List ℕ → List ℕ → List ℕ → List ℕ
closed [] u v = v
closed (c ∷ l) u v = closed l (lower c u) (close_port c (get_or u c 0 - 1) v)

-- one more at the end
pub lowered_more : (l : List ℕ) (c : ℕ) (u : List ℕ) → lowered (l ++ c ∷ []) u ≡ lower c (lowered l u)
unfolding lowered
lowered_more [] c u = refl
lowered_more (k ∷ l) c u = lowered_more l c (lower k u)

pub closed_more : (l : List ℕ) (c : ℕ) (u v : List ℕ) → closed (l ++ c ∷ []) u v ≡ close_port c (get_or (lowered l u) c 0 - 1) (closed l u v)
unfolding lowered closed
closed_more [] c u v = refl
closed_more (k ∷ l) c u v = closed_more l c (lower k u) _

-- the entry of each crossing of a list, at its place `at`, updated by g
module _ (at : ℕ → ℕ → ℕ) (g : ℕ → ℕ → ℕ → ℕ) where
  abbrev change : ℕ → ℕ → List ℕ → List ℕ
  change j p v = set v (at j p) (g j p (get_or v (at j p) 0))

  unfoldable pub changed : List Crossing → List ℕ → List ℕ
  changed [] v = v
  changed (c ∷ l) v = changed l (change c.interconnect c.port v)

  pub changed_size : (l : List Crossing) (v : List ℕ) → length (changed l v) ≡ length v
  unfolding changed
  changed_size [] v = refl
  changed_size (c ∷ l) v = changed_size l _ ∙ length-set v _ _

-- no two crossings have one place
abbrev pub Apart : (ℕ → ℕ → ℕ) → List Crossing → Type 0
Apart at [] = Unit {0}
Apart at (c ∷ l) = ((j p : ℕ) → On j p l → at j p ≡ at c.interconnect c.port → ⊥) × Apart at l

-- no crossing has place k
abbrev pub Untouched : (ℕ → ℕ → ℕ) → List Crossing → ℕ → Type 0
Untouched at l k = (j p : ℕ) → On j p l → at j p ≡ k → ⊥

untouched : (at : ℕ → ℕ → ℕ) (c : Crossing) (l : List Crossing) (k : ℕ)
    → (at c.interconnect c.port ≡ k → ⊥) → Untouched at l k → Untouched at (c ∷ l) k
untouched at c l k d f j p (here y z) q = d (ap₂ at y z ∙ q)
untouched at c l k d f j p (there o) q = f j p o q

-- an entry is as it was, or updated once
pub changed_at : (at : ℕ → ℕ → ℕ) (g : ℕ → ℕ → ℕ → ℕ) (l : List Crossing) (v : List ℕ) → Apart at l → (k : ℕ) → k < length v
    → (x : ℕ) → (Untouched at l k → get_or v k 0 ≡ x)
    → ((j p : ℕ) → On j p l → at j p ≡ k → g j p (get_or v k 0) ≡ x) → get_or (changed at g l v) k 0 ≡ x
unfolding changed
changed_at at g [] v A k b x f h = f (λ j p o. absurd (no_crossing [] refl o))
changed_at at g (c ∷ l) v A k b x f h =
    let i : ℕ = at c.interconnect c.port in
    let v' = change at g c.interconnect c.port v in
    let b' : k < length v' = subst (λ n. k < n) (sym (length-set v _ _)) b in
    elim (ℕ_discrete i k) [
      | yes q ↦ changed_at at g l v' A.1 k b' x
          (λ _. subst (λ n. get_or v' n 0 ≡ g c.interconnect c.port (get_or v n 0)) q
          (get_or-set_same v i _ 0 (omega arith)) ∙ h _ _ (here refl refl) q)
          (λ j p o z. absurd (A.0 j p o (z ∙ sym q)))
      | no d ↦ let e : get_or v' k 0 ≡ get_or v k 0 = get_or-set_other v i k _ 0 (λ q. d (sym q)) in
          changed_at at g l v' A.1 k b' x (λ u. e ∙ f (untouched at c l k d u))
          (λ j p o z. ap (g j p) e ∙ h j p (there o) z)
    ]

-- the place of a set
abbrev pub own : ℕ → ℕ → ℕ
own j p = j

-- the set without the port where the count n less one is 0
abbrev pub shuts : (ℕ → ℕ → ℕ) → ℕ → ℕ → ℕ → ℕ
shuts n j p s = pick (eqb (n j p - 1) 0) (without_port s p) s

pub raised_changed : (l : List Crossing) (c : List ℕ) → raised (numbers l) c ≡ changed port_number (λ _ _ x. min 65535 (x + 1)) l c
unfolding raised changed
raised_changed [] c = refl
raised_changed (k ∷ l) c = raised_changed l _

pub lowered_changed : (l : List Crossing) (c : List ℕ) → lowered (numbers l) c ≡ changed port_number (λ _ _ x. x - 1) l c
unfolding lowered changed
lowered_changed [] c = refl
lowered_changed (k ∷ l) c = lowered_changed l _

abbrev pub Ported : List Crossing → Type 0
Ported l = (j p : ℕ) → On j p l → p < 8

pub opened_changed : (l : List Crossing) → Ported l → (v : List ℕ)
    → opened (numbers l) v ≡ changed own (λ _ p s. with_port s p) l v
unfolding opened changed
opened_changed [] P v = refl
opened_changed (k ∷ l) P v =
    let b = P _ _ (here refl refl) in
    ap₂ (λ i q. opened (numbers l) (set v i (with_port (get_or v i 0) q))) (number_interconnect _ _ b) (number_port _ _ b)
    ∙ opened_changed l (λ j p o. P j p (there o)) _

-- each count is read before it is lowered
pub closed_changed : (n : ℕ → ℕ → ℕ) (l : List Crossing) → Ported l → Apart port_number l → (c v : List ℕ)
    → ((j p : ℕ) → On j p l → get_or c (port_number j p) 0 ≡ n j p)
    → closed (numbers l) c v ≡ changed own (shuts n) l v
unfolding closed changed
closed_changed n [] P A c v h = refl
closed_changed n (k ∷ l) P A c v h =
    let m = port_number k.interconnect k.port in
    let b = P _ _ (here refl refl) in
    let rest : ℕ → ℕ → ℕ → List ℕ =
    λ x i q. closed (numbers l) (lower m c) (set v i (shuts (λ _ _. x) i q (get_or v i 0))) in
    ap₂ (rest (get_or c m 0)) (number_interconnect _ _ b) (number_port _ _ b)
    ∙ ap (λ x. rest x k.interconnect k.port) (h _ _ (here refl refl))
    ∙ closed_changed n l (λ j p o. P j p (there o)) A.1 _ _
    (λ j p o. get_or-set_other c m (port_number j p) _ 0 (A.0 j p o) ∙ h j p (there o))
