-- A joiner that keeps its rules has, after any numbers, as many pieces as before and as many answered as were not refused. By cases on one
-- number, and induction on the list.
use Prim.Native.Nat.{ℕ, zero, suc, ◌+◌, ◌≤◌, ◌<◌}
use mathlib.Core.Bool.{Bool, true, false, ◌&&◌}
use mathlib.Core.List.{List, [], ◌∷◌, ◌++◌}
use mathlib.Core.Logic.{◌↔◌, ◌⊎◌, inl, inr}
use mathlib.Core.Path.{◌≡◌, refl, sym, ◌∙◌, ap, ap₂, subst}
use native.Mathlib.Decide.{ℕ_discrete}
use native.Mathlib.Omega.{arith}
use lib.ListN.{length}
use lib.Dec.{leb, eqb}
use borrow.Author.Tests.{leb-true, le-leb, lt-leb, eq-eqb, ne_eqb}
use Rattle.folds.specs.Fold.{within, entries}
use Rattle.folds.proofs.Folds.{clash, both, joined}
use Rattle.burst.specs.declared.joiner.Joiner.{Joiner}
use Rattle.burst.specs.Joiner.{joiner_for, joiner_keeps, taken, done, not_joined, Joined, in_turn, onward, join_of}
use Rattle.burst.proofs.Joins.{join_refused, join_done, join_taken}
use Rattle.burst.specs.Joining.{joiner_after, answer_after, with_taken, taken_of, answered_after, OutOfTurn, InOrder, RefusesAll}

-- entries from the first on
entries_cong : (n : ℕ) (f g : ℕ → ℕ) → ((i : ℕ) → f i ≡ g i) → entries n f ≡ entries n g
unfolding entries
entries_cong zero f g h = refl
entries_cong (suc n) f g h = ap₂ (λ (l : List ℕ) (x : ℕ). l ++ x ∷ []) (entries_cong n f g h) (h n)

entries_first : (n : ℕ) (f : ℕ → ℕ) → entries (suc n) f ≡ f 0 ∷ entries n (λ i. f (suc i))
unfolding entries
entries_first zero f = refl
entries_first (suc n) f = ap (λ (l : List ℕ). l ++ f (suc n) ∷ []) (entries_first n f)

-- the rules of a joiner, as plain facts
record Rules (j : Joiner) : Type 0 where
  least : 1 ≤ j.pieces
  most : j.pieces ≤ 256
  answered : j.answered ≤ j.pieces

rules : (j : Joiner) → joiner_keeps j ≡ true → Rules j
rules j k =
    let p = both (within 1 j.pieces 256) (leb j.answered j.pieces) k in
    let q = both (leb 1 j.pieces) (leb j.pieces 256) p.0 in
    record { least = leb-true _ _ q.0; most = leb-true _ _ q.1; answered = leb-true _ _ p.1 }

kept : (j : Joiner) → Rules j → joiner_keeps j ≡ true
kept j r =
    joined (within 1 j.pieces 256) _ (joined (leb 1 j.pieces) _ (le-leb _ _ r.least) (le-leb _ _ r.most))
    (le-leb _ _ r.answered)

-- what a joiner that keeps its rules does with a number
data Does (j : Joiner) (m : ℕ) : Joined → Type 0 where
  refuses : (m ≡ j.answered + 1 → ⊥) ⊎ (j.answered ≡ j.pieces) → Does j m (record { answer = not_joined 11; joiner = j })
  ends : m ≡ j.answered + 1 → m ≡ j.pieces → Does j m (record { answer = done; joiner = onward j m })
  goes : m ≡ j.answered + 1 → m < j.pieces → Does j m (record { answer = taken; joiner = onward j m })

-- two tests of which one fails
first_fails : (a b : Bool) → a ≡ false → a && b ≡ false
first_fails true b e = clash cc
first_fails false b e = refl

second_fails : (a b : Bool) → b ≡ false → a && b ≡ false
second_fails true b e = e
second_fails false b e = refl

module _ (j : Joiner) (m : ℕ) where
  out_of_turn : in_turn j m ≡ false → (m ≡ j.answered + 1 → ⊥) ⊎ (j.answered ≡ j.pieces) → Does j m (join_of j m)
  out_of_turn e w = subst (Does j m) (join_refused j m (second_fails (joiner_keeps j) _ e)) (refuses w)

  does : Rules j → Does j m (join_of j m)
  does r = elim (ℕ_discrete m (j.answered + 1)) [
    | no d ↦ out_of_turn (first_fails _ _ (ne_eqb _ _ d)) (inl d)
    | yes e ↦ elim (ℕ_discrete j.answered j.pieces) [
      | yes f ↦ out_of_turn (second_fails (eqb m (j.answered + 1)) _ (lt-leb m j.pieces (omega arith))) (inr f)
      | no d ↦
          let next = joined (eqb m (j.answered + 1)) _ (eq-eqb _ _ e) (le-leb m j.pieces (omega (arith, r.answered))) in
          let passes = joined (joiner_keeps j) (in_turn j m) (kept j r) next in
          elim (ℕ_discrete m j.pieces) [
            | yes f ↦ subst (Does j m) (join_done j m passes f) (ends e f)
            | no g ↦ subst (Does j m) (join_taken j m passes g) (goes e (omega (arith, r.answered)))
          ]
    ]
  ]

-- from the joiner j the joiner r comes back, and the numbers l were not refused
record After (j : Joiner) (l : List ℕ) (r : Joiner) : Type 0 where
  rules : Rules r
  pieces : r.pieces ≡ j.pieces
  answered : r.answered ≡ j.answered + length l
  in_order : l ≡ entries (length l) (λ i. j.answered + i + 1)

-- one more before them
one_more : (j : Joiner) (m : ℕ) (l : List ℕ) (r : Joiner) → m ≡ j.answered + 1 → After (onward j m) l r → After j (m ∷ l) r
one_more j m l r e a = record {
  rules = a.rules;
  pieces = a.pieces;
  answered = omega (arith, a.answered);
  in_order =
      let first : m ≡ j.answered + 0 + 1 = omega arith in
      ap₂ (λ (x : ℕ) (k : List ℕ). x ∷ k) first
      (a.in_order ∙ entries_cong (length l) _ (λ i. j.answered + suc i + 1) (λ i. omega arith))
      ∙ sym (entries_first (length l) (λ i. j.answered + i + 1));
}

onward_rules : (j : Joiner) (m : ℕ) → Rules j → m ≤ j.pieces → Rules (onward j m)
onward_rules j m r h = record { least = r.least; most = r.most; answered = h }

after : (j : Joiner) (ms : List ℕ) → Rules j → After j (taken_of j ms) (joiner_after j ms)
unfolding joiner_after taken_of entries
after j [] r = record { rules = r; pieces = refl; answered = omega arith; in_order = refl }
after j (m ∷ ms) r = go (join_of j m) (does j m r) (λ i q. after i ms q)
  where
    go : (o : Joined) → Does j m o → ((i : Joiner) → Rules i → After i (taken_of i ms) (joiner_after i ms))
        → After j (with_taken o.answer m (taken_of o.joiner ms)) (joiner_after o.joiner ms)
    go o (refuses w) h = h j r
    go o (ends e f) h = one_more j m _ _ e (h (onward j m) (onward_rules j m r (omega arith)))
    go o (goes e l) h = one_more j m _ _ e (h (onward j m) (onward_rules j m r (omega arith)))

after_append : (j : Joiner) (ms ns : List ℕ) → joiner_after j (ms ++ ns) ≡ joiner_after (joiner_after j ms) ns
unfolding joiner_after
after_append j [] ns = refl
after_append j (m ∷ ms) ns = after_append (join_of j m).joiner ms ns

one_after : (j : Joiner) (ms : List ℕ) (m : ℕ) → joiner_after j (ms ++ m ∷ []) ≡ (join_of (joiner_after j ms) m).joiner
unfolding joiner_after
one_after j ms m = after_append j ms (m ∷ [])

module _ (j : Joiner) (k : joiner_keeps j ≡ true) (ms : List ℕ) where
  abbrev r : Joiner
  r = joiner_after j ms

  a : After j (taken_of j ms) r
  a = after j ms (rules j k)

  -- a number handed in after them, by its cases
  by_cases : (m : ℕ) (P : Joined → Type 0) → ((o : Joined) → Does r m o → P o) → P (join_of r m)
  by_cases m P f = f (join_of r m) (does r m a.rules)

  done_exactly : (m : ℕ) → (answer_after j ms m ≡ done) ↔ ((m ≡ answered_after j ms + 1) × (m ≡ j.pieces))
  done_exactly m = by_cases m (λ o. (o.answer ≡ done) ↔ ((m ≡ answered_after j ms + 1) × (m ≡ j.pieces))) go
    where
      go : (o : Joined) → Does r m o → (o.answer ≡ done) ↔ ((m ≡ answered_after j ms + 1) × (m ≡ j.pieces))
      go o (refuses (inl d)) = (λ e. clash cc, λ h. absurd (d (omega (arith, h, a.answered))))
      go o (refuses (inr f)) = (λ e. clash cc, λ h. absurd (omega (arith, h, a.answered, a.pieces)))
      go o (ends e f) = (λ h. (omega (arith, a.answered), omega (arith, a.pieces)), λ h. refl)
      go o (goes e l) = (λ h. clash cc, λ h. absurd (omega (arith, h, a.pieces)))

  refused_exactly : (m : ℕ) → (answer_after j ms m ≡ not_joined 11) ↔ OutOfTurn j ms m
  refused_exactly m = by_cases m (λ o. (o.answer ≡ not_joined 11) ↔ OutOfTurn j ms m) go
    where
      in_turn_lem : m ≡ r.answered + 1 → r.answered < r.pieces → OutOfTurn j ms m → ⊥
      in_turn_lem e l (inl d) = d (omega (arith, a.answered))
      in_turn_lem e l (inr f) = omega (arith, a.answered, a.pieces)

      go : (o : Joined) → Does r m o → (o.answer ≡ not_joined 11) ↔ OutOfTurn j ms m
      go o (refuses (inl d)) = (λ e. inl (λ h. d (omega (arith, a.answered))), λ h. refl)
      go o (refuses (inr f)) = (λ e. inr (omega (arith, a.answered, a.pieces)), λ h. refl)
      go o (ends e f) = (λ h. clash cc, λ h. absurd (in_turn_lem e (omega arith) h))
      go o (goes e l) = (λ h. clash cc, λ h. absurd (in_turn_lem e (omega arith) h))

  refused_so : (m n : ℕ) → answer_after j ms m ≡ not_joined n → (n ≡ 11) × ((join_of r m).joiner ≡ r)
  refused_so m n = by_cases m (λ o. o.answer ≡ not_joined n → (n ≡ 11) × (o.joiner ≡ r)) go
    where
      go : (o : Joined) → Does r m o → o.answer ≡ not_joined n → (n ≡ 11) × (o.joiner ≡ r)
      go o (refuses w) e = (cc, refl)
      go o (ends e f) h = clash cc
      go o (goes e l) h = clash cc

  -- where it says done, all pieces are answered
  done_fills : (m : ℕ) → answer_after j ms m ≡ done
      → Rules (join_of r m).joiner × ((join_of r m).joiner.answered ≡ (join_of r m).joiner.pieces)
  done_fills m = by_cases m (λ o. o.answer ≡ done → Rules o.joiner × (o.joiner.answered ≡ o.joiner.pieces)) go
    where
      go : (o : Joined) → Does r m o → o.answer ≡ done → Rules o.joiner × (o.joiner.answered ≡ o.joiner.pieces)
      go o (refuses w) e = clash cc
      go o (ends e f) h = (onward_rules r m a.rules (omega arith), f)
      go o (goes e l) h = clash cc

-- a joiner of which all pieces are answered refuses every number
full : (j : Joiner) → Rules j → j.answered ≡ j.pieces → (ns : List ℕ) (n : ℕ) → answer_after j ns n ≡ not_joined 11
full j r e ns n =
    let b = after j ns r in
    (refused_exactly j (kept j r) ns n).1 (inr (omega (arith, b.answered, b.pieces, b.rules.answered)))

broken_leaves : (j : Joiner) → joiner_keeps j ≡ false → (ms : List ℕ) → joiner_after j ms ≡ j
unfolding joiner_after
broken_leaves j e [] = refl
broken_leaves j e (m ∷ ms) =
    ap (λ (o : Joined). joiner_after o.joiner ms) (sym (join_refused j m (first_fails _ _ e))) ∙ broken_leaves j e ms

pub joins_in_order : (j : Joiner) → joiner_keeps j ≡ true → InOrder j
unfolding joiner_after
joins_in_order j k = record {
  in_order = λ ms. (a j k ms).in_order;
  done_at_last = λ ms m. done_exactly j k ms m;
  refused_11 = λ ms m. refused_exactly j k ms m;
  only_11 = λ ms m n e. (refused_so j k ms m n e).0;
  after_done = λ ms ns m n e.
      let f = done_fills j k ms m e in
      ap (λ i. (join_of i n).answer) (after_append j ms (m ∷ ns)) ∙ full (join_of (joiner_after j ms) m).joiner f.0 f.1 ns n;
  refusal_leaves = λ ms m n e. one_after j ms m ∙ (refused_so j k ms m n e).1;
  every_joiner_keeps = λ ms. kept _ (a j k ms).rules;
}

pub fresh_in_order : (k : ℕ) → 1 ≤ k → k ≤ 256 → InOrder (joiner_for k)
fresh_in_order k l h = joins_in_order (joiner_for k) (kept (joiner_for k) (record { least = l; most = h; answered = omega arith }))

pub broken_refuses : (j : Joiner) → joiner_keeps j ≡ false → RefusesAll j
broken_refuses j e ms m =
    let f = broken_leaves j e ms in
    (ap (λ i. (join_of i m).answer) f ∙ ap (λ (o : Joined). o.answer) (sym (join_refused j m (first_fails _ _ e))), f)

-- computed: of the answers of three pieces, some of them out of turn
pub three_pieces : taken_of (joiner_for 3) (2 ∷ 1 ∷ 1 ∷ 2 ∷ 0 ∷ 3 ∷ 4 ∷ 3 ∷ []) ≡ 1 ∷ 2 ∷ 3 ∷ []
unfolding taken_of join_of
three_pieces = refl
