-- The fresh state, an admission, a service and a tick keep the rules of a state. An admission adds one beneath the path
-- of its accelerator and a service takes one off there, and the service takes one off each allowance of that path too.
use Prim.Native.Nat.{ℕ, ◌+◌, ◌-◌, ◌%◌, ◌^◌, ◌≤◌, ◌<◌}
use mathlib.Core.Bool.{Bool, true, false}
use mathlib.Core.List.{List, map}
use mathlib.Core.Path.{◌≡◌, refl, sym, ◌∙◌, ap, subst, fun_ext}
use native.Mathlib.Decide.{dec_lt, ℕ_discrete}
use native.Mathlib.Nat.{one-le-pow, add-zero}
use native.Mathlib.Omega.{arith}
use lib.Count.{ones}
use lib.Dec.{lit<}
use lib.ListN.{get_or, length, set, replicate, length-set, length-append, length-replicate, length-map, get_or-replicate, get_or-append, get_or-eq_default}
use lib.Seq.{get_or-set_same, get_or-set_other, get_or-append-add}
use Rattle.model.specs.declared.Tree.{Tree}
use Rattle.model.specs.declared.State.{State}
use Rattle.model.specs.declared.Channel.{Channel}
use Rattle.folds.specs.Fold.{pick}
use Rattle.model.specs.Tree.{granularity_of, limit_of, budget_of, path, delay_of, waiting_of, returns_of, returning_of, outstanding_of, admitted_of, last_of, allowance_of, port_of}
use Rattle.model.specs.Builders.{at_slot}
use Rattle.model.specs.Beneath.{weight_under, waits_under}
use Rattle.rules.proofs.Sound.{Sound, Kept, OnWay}
use Rattle.rules.proofs.Beneath.{On, on?, only, only_same, only_other, under_sum, weight_on, weight_off, path_bounds}
use Rattle.turns.specs.Turns.{turn_port}
use Rattle.machine.specs.Machine.{fresh_state, admit, opens, older, tick, take_one}
use Rattle.machine.proofs.Returns.{no_ones, older_at, older_even, older_recent, older_fewer, older_zero, one_more}
use Rattle.turns.proofs.Descent.{Turned, Unturned, Choice}

-- a count stored at place a: what relates it to the count before, by one there and by nothing elsewhere
pub stored : (Q : ℕ → ℕ → ℕ → Type 0) (l : List ℕ) (a x : ℕ) → a < length l → Q x (get_or l a 0) 1 → ((y : ℕ) → Q y y 0)
    → (b : ℕ) → Q (get_or (set l a x) b 0) (get_or l b 0) (only a b)
stored Q l a x h own other b = elim (ℕ_discrete a b) [
  | yes e ↦ subst (λ i. Q (get_or (set l a x) i 0) (get_or l i 0) (only a i)) e
      (rw (get_or-set_same l a x 0 h, only_same a a refl) own)
  | no d ↦ rw (get_or-set_other l a b x 0 (λ e. d (sym e)), only_other a b d) (other (get_or l b 0))
]

pub zeros : (n i : ℕ) → ◌≡◌ {A = ℕ} (get_or (replicate n 0) i 0) 0
zeros n i = elim (dec_lt i n) [
  | yes l ↦ get_or-replicate n i 0 0 l
  | no d ↦ get_or-eq_default (replicate n 0) 0 (omega (arith, length-replicate {A = ℕ} n 0))
]

-- one more is within a limit that was not reached
bump : (f g : ℕ → ℕ) (a b : ℕ) → f a < g a → f b ≤ g b → f b + only a b ≤ g b
bump f g a b h l = elim (ℕ_discrete a b) [
  | yes e ↦ let h' : f b < g b = subst (λ x. f x < g x) e h in omega (arith, only_same a b e)
  | no d ↦ omega (arith, only_other a b d)
]

module _ (t : Tree) (S : Sound t) (c : Channel) where
  fresh_last : (j : ℕ) → j < t.ints → last_of (fresh_state t c) j ≡ 7
  fresh_last j l = get_or-append (replicate t.ints 7) _ 0 j (omega (arith, length-replicate {A = ℕ} t.ints 7))
      ∙ get_or-replicate t.ints j 7 0 l

  fresh_unused : (j : ℕ) → t.ints ≤ j → last_of (fresh_state t c) j ≡ 0
  fresh_unused j l = ap (last_of (fresh_state t c)) past
      ∙ get_or-append-add (replicate t.ints 7) (replicate (15 - t.ints) 0) (j - t.ints) 0
      ∙ zeros (15 - t.ints) (j - t.ints)
    where
      past : j ≡ length (replicate {A = ℕ} t.ints 7) + (j - t.ints)
      past = omega (arith, length-replicate {A = ℕ} t.ints 7)

  pub fresh_kept : Kept t (fresh_state t c)
  fresh_kept = record {
    waiting_size = refl;
    admitted_size = refl;
    last_size = simp (length-append, length-replicate) (omega (arith, S.most_ints));
    allowance_size = refl;
    returning_size = refl;
    outstanding = λ a l. omega (arith, zeros 32 a, no_ones (get_or (replicate 32 0) a 0) (zeros 32 a));
    waiting = λ a l. omega (arith, zeros 32 a);
    admitted = λ a l. omega (arith, zeros 32 a);
    no_waiting = λ a l. zeros 32 a;
    no_admitted = λ a l. zeros 32 a;
    no_returns = λ a l. zeros 32 a;
    last = λ j l. omega (arith, fresh_last j l);
    allowance = λ j l. omega (arith, zeros 15 j);
    allowance_waits = λ j l. omega (arith, zeros 15 j);
    no_last = fresh_unused;
    no_allowance = λ j l. zeros 15 j;
  }

  pub fresh_way : OnWay t (fresh_state t c)
  fresh_way = record {
    even = λ a l. ap (λ x. x % 2) (zeros 32 a);
    recent = λ a l. omega (arith, zeros 32 a, one-le-pow (delay_of t + 1) 2 (lit< tt));
  }

module _ (t : Tree) (S : Sound t) where
  -- what is one slot older was served 1 to r slots ago, whatever it was before
  pub tick_way : (s : State) → OnWay t (tick t s)
  unfolding tick
  tick_way s = record {
    even = λ a l. ap (λ x. x % 2) (older_at (delay_of t) s.returning a) ∙ older_even (delay_of t) (returns_of s a);
    recent = λ a l. subst (λ x. x < 2 ^ (delay_of t + 1)) (sym (older_at (delay_of t) s.returning a))
        (older_recent (delay_of t) (returns_of s a));
  }

  module _ (s : State) (K : Kept t s) where
    abbrev aged : List ℕ
    aged = map (older (delay_of t)) s.returning

    recount : (m : List ℕ) → length m ≡ 32 → ((a : ℕ) → a < t.accs → get_or m a 0 ≤ budget_of t a)
        → ((a : ℕ) → t.accs ≤ a → get_or m a 0 ≡ 0)
        → Kept t (at_slot s aged m (s.slot + 1))
    recount m e h z = record {
      waiting_size = K.waiting_size;
      admitted_size = e;
      last_size = K.last_size;
      allowance_size = K.allowance_size;
      returning_size = length-map s.returning (older (delay_of t)) ∙ K.returning_size;
      outstanding = λ a l. omega (
        arith,
        K.outstanding a l,
        ap ones (older_at (delay_of t) s.returning a),
        older_fewer (delay_of t) (returns_of s a),
      );
      waiting = K.waiting;
      admitted = h;
      no_waiting = K.no_waiting;
      no_admitted = z;
      no_returns = λ a l. older_at (delay_of t) s.returning a ∙ ap (older (delay_of t)) (K.no_returns a l)
          ∙ older_zero (delay_of t);
      last = K.last;
      allowance = K.allowance;
      allowance_waits = K.allowance_waits;
      no_last = K.no_last;
      no_allowance = K.no_allowance;
    }

    pub tick_kept : Kept t (tick t s)
    unfolding tick
    tick_kept = go (opens t s.slot)
      where
        go : (c : Bool) → Kept t (at_slot s aged (pick c (replicate 32 0) s.admitted) (s.slot + 1))
        go true = recount (replicate 32 0) refl (λ a l. omega (arith, zeros 32 a)) (λ a l. zeros 32 a)
        go false = recount s.admitted K.admitted_size K.admitted K.no_admitted

    module _ (a : ℕ) (la : a < t.accs) where
      pub admit_waiting : (b : ℕ) → waiting_of (admit s a) b ≡ waiting_of s b + only a b
      admit_waiting = stored (λ new old n. new ≡ old + n) s.waiting a _
          (omega (arith, S.most_accs, K.waiting_size)) refl (λ y. omega arith)

      pub admit_admitted : (b : ℕ) → admitted_of (admit s a) b ≡ admitted_of s b + only a b
      admit_admitted = stored (λ new old n. new ≡ old + n) s.admitted a _
          (omega (arith, S.most_accs, K.admitted_size)) refl (λ y. omega arith)

      admit_waits : (j p : ℕ) → waits_under t s j p ≤ waits_under t (admit s a) j p
      admit_waits j p = omega (
        arith,
        under_sum 3 t (waiting_of s) (only a) (port_of t j p),
        ap (λ w. weight_under t w j p) (fun_ext admit_waiting),
      )

      pub admit_way : OnWay t s → OnWay t (admit s a)
      admit_way w = record { even = w.even; recent = w.recent }

      pub admit_kept : outstanding_of s a < limit_of t s.channel a → admitted_of s a < budget_of t a → Kept t (admit s a)
      admit_kept h m = record {
        waiting_size = length-set s.waiting _ _ ∙ K.waiting_size;
        admitted_size = length-set s.admitted _ _ ∙ K.admitted_size;
        last_size = K.last_size;
        allowance_size = K.allowance_size;
        returning_size = K.returning_size;
        outstanding = λ b l. omega (arith, admit_waiting b, bump (outstanding_of s) (limit_of t s.channel) a b h (K.outstanding b l));
        waiting = λ b l. omega (arith, admit_waiting b, bump (outstanding_of s) (limit_of t s.channel) a b h (K.outstanding b l));
        admitted = λ b l. omega (arith, admit_admitted b, bump (admitted_of s) (budget_of t) a b m (K.admitted b l));
        no_waiting = λ b l. omega (arith, admit_waiting b, K.no_waiting b l, only_other a b (omega arith));
        no_admitted = λ b l. omega (arith, admit_admitted b, K.no_admitted b l, only_other a b (omega arith));
        no_returns = K.no_returns;
        last = K.last;
        allowance = K.allowance;
        allowance_waits = λ j l. omega (arith, K.allowance_waits j l, admit_waits j (last_of s j));
        no_last = K.no_last;
        no_allowance = K.no_allowance;
      }

    module _ (a : ℕ) (r : State) (C : Choice t s a r) where
      same_returns_lem : (b : ℕ) → returns_of r b ≡ returns_of s b
      same_returns_lem b = ap (λ l. get_or l b 0) C.frame.returning

      same_waiting : (b : ℕ) → waiting_of r b ≡ waiting_of s b
      same_waiting b = ap (λ l. get_or l b 0) C.frame.waiting

      same_admitted : (b : ℕ) → admitted_of r b ≡ admitted_of s b
      same_admitted b = ap (λ l. get_or l b 0) C.frame.admitted

      same_limit : (b : ℕ) → limit_of t r.channel b ≡ limit_of t s.channel b
      same_limit b = ap (λ k. limit_of t k b) C.frame.channel

      pub take_waiting : (b : ℕ) → waiting_of s b ≡ waiting_of (take_one r a) b + only a b
      take_waiting b = sym (same_waiting b)
          ∙ stored (λ new old n. old ≡ new + n) r.waiting a (waiting_of r a - 1)
          (omega (arith, C.acc, S.most_accs, K.waiting_size, ap length C.frame.waiting))
          (omega (arith, C.waits, same_waiting a)) (λ y. omega arith) b

      pub take_returns : (b : ℕ) → returns_of (take_one r a) b ≡ returns_of s b + only a b
      take_returns b = stored (λ new old n. new ≡ old + n) r.returning a (returns_of r a + 1)
          (omega (arith, C.acc, S.most_accs, K.returning_size, ap length C.frame.returning))
          refl (λ y. omega arith) b
          ∙ ap (λ x. x + only a b) (same_returns_lem b)

      -- one more returns where one was served
      pub take_returning : OnWay t s → (b : ℕ) → returning_of (take_one r a) b ≡ returning_of s b + only a b
      take_returning W b = ap ones (take_returns b) ∙ elim (ℕ_discrete a b) [
        | yes e ↦ rw (only_same a b e) (one_more (returns_of s b) (subst (λ i. returns_of s i % 2 ≡ 0) e (W.even a C.acc)))
        | no d ↦ rw (only_other a b d) (rw (add-zero (returns_of s b)) (omega arith))
      ]

      took : (j p : ℕ) → waits_under t s j p ≡ weight_under t (λ b. waiting_of (take_one r a) b + only a b) j p
      took j p = ap (λ w. weight_under t w j p) (fun_ext take_waiting)

      by_turn : (Q : Type 0) (j : ℕ) → (On j (turn_port t s j) (path t a) → Turned t s r j (turn_port t s j) → Q)
          → ((On j (turn_port t s j) (path t a) → ⊥) → Unturned s r j → Q) → Q
      by_turn Q j f g = elim (on? j (turn_port t s j) (path t a)) [ yes o ↦ f o (C.on j _ o) | no d ↦ g d (C.off j d) ]

      outside : (j : ℕ) → t.ints ≤ j → Unturned s r j
      outside j l = C.off j (λ o. omega (arith, path_bounds t S a C.acc j _ o))

      take_allowance_waits : (j : ℕ) → j < t.ints → allowance_of r j ≤ waits_under t (take_one r a) j (last_of r j)
      take_allowance_waits j l = by_turn (allowance_of r j ≤ waits_under t (take_one r a) j (last_of r j)) j
          (λ o u. subst (λ p. allowance_of r j ≤ waits_under t (take_one r a) j p) (sym u.last)
          (omega (
            arith,
            u.allowance,
            u.turn.covered,
            u.turn.some,
            took j (turn_port t s j),
            weight_on t S a C.acc (waiting_of (take_one r a)) j (turn_port t s j) o,
          )))
          (λ d u. subst (λ p. allowance_of r j ≤ waits_under t (take_one r a) j p) (sym u.last)
          (omega (
            arith,
            u.allowance,
            K.allowance_waits j l,
            took j (last_of s j),
            weight_off t S a C.acc (waiting_of (take_one r a)) j (last_of s j) l (K.last j l)
                (λ o. d (subst (λ p. On j p (path t a)) (C.on j (last_of s j) o).port o)),
          )))

      pub take_kept : OnWay t s → Kept t (take_one r a)
      take_kept W = record {
        waiting_size = length-set r.waiting _ _ ∙ ap length C.frame.waiting ∙ K.waiting_size;
        admitted_size = ap length C.frame.admitted ∙ K.admitted_size;
        last_size = C.frame.last_size ∙ K.last_size;
        allowance_size = C.frame.allowance_size ∙ K.allowance_size;
        returning_size = length-set r.returning _ _ ∙ ap length C.frame.returning ∙ K.returning_size;
        outstanding = λ b l. omega (arith, take_waiting b, take_returning W b, K.outstanding b l, same_limit b);
        waiting = λ b l. omega (arith, take_waiting b, K.waiting b l, same_limit b);
        admitted = λ b l. omega (arith, same_admitted b, K.admitted b l);
        no_waiting = λ b l. omega (arith, take_waiting b, K.no_waiting b l);
        no_admitted = λ b l. omega (arith, same_admitted b, K.no_admitted b l);
        no_returns = λ b l. omega (arith, take_returns b, K.no_returns b l, only_other a b (λ e. omega (arith, C.acc, e)));
        last = λ j l. by_turn (last_of r j < 8) j (λ o u. omega (arith, u.last, u.turn.port))
            (λ d u. omega (arith, u.last, K.last j l));
        allowance = λ j l. by_turn (allowance_of r j ≤ granularity_of t j) j
            (λ o u. omega (arith, u.allowance, u.turn.granted))
            (λ d u. omega (arith, u.allowance, K.allowance j l));
        allowance_waits = take_allowance_waits;
        no_last = λ j l. (outside j l).last ∙ K.no_last j l;
        no_allowance = λ j l. (outside j l).allowance ∙ K.no_allowance j l;
      }
