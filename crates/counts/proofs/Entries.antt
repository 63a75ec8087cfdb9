-- The table of a configuration by its parts: entry i of a list of entries is that of i.
use Prim.Native.Nat.{ℕ, ◌+◌, ◌≤◌, ◌<◌, min}
use mathlib.Core.List.{List}
use mathlib.Core.Path.{◌≡◌, sym, ◌∙◌, ap, ap₂, subst}
use native.Mathlib.Omega.{arith}
use lib.ListN.{get_or, set}
use Rattle.folds.specs.Fold.{entries}
use Rattle.folds.proofs.Entries.{Filled, filled_more, entries_at, entries_or}
use Rattle.model.specs.declared.Tree.{Tree}
use Rattle.model.specs.declared.Channel.{Channel}
use Rattle.model.specs.declared.PortCell.{PortCell}
use Rattle.model.specs.Tree.{empty_cell, port_of, granularity_of, parent_of, parent_port_of, home_of, home_port_of, limit_of, budget_of}
use Rattle.counts.specs.declared.Table.{Table}
use Rattle.counts.specs.Table.{port_number, carried_by, carried_at, parent_number, own_number, table_of}
use Rattle.counts.proofs.Steps.{number_interconnect, number_port}

-- w has what each port of t carries, each interconnect's granularity and the parent's port that carries it, the port that
-- carries each accelerator, and its budget
pub record TableOf (t : Tree) (w : Table) : Type 0 where
  pub carried : (j p : ℕ) → j < 15 → p < 8 → carried_at w (port_number j p) ≡ port_of t j p
  pub granularity : (j : ℕ) → j < 15 → get_or w.granularity j 0 ≡ granularity_of t j
  pub parent : (j : ℕ) → j < 15 → get_or w.parent_port j 0 ≡ port_number (parent_of t j) (parent_port_of t j)
  pub own : (a : ℕ) → a < 32 → get_or w.own_port a 0 ≡ port_number (home_of t a) (home_port_of t a)
  pub budget : (a : ℕ) → a < 32 → get_or w.budget a 0 ≡ budget_of t a

-- and the outstanding limits of a channel
abbrev pub LimitsOf : Tree → Channel → Table → Type 0
LimitsOf t c w = (a : ℕ) → a < 32 → get_or w.limit a 0 ≡ limit_of t c a

module _ (t : Tree) (c : Channel) where
  table_parts : TableOf t (table_of t c)
  table_parts = record {
    carried = λ j p h k. ap (λ (x : PortCell). x.port) (entries_or 120 (carried_by t) (port_number j p) empty_cell (omega arith))
        ∙ ap₂ (port_of t) (number_interconnect j p k) (number_port j p k);
    granularity = entries_at 15 (granularity_of t);
    parent = entries_at 15 (parent_number t);
    own = entries_at 32 (own_number t);
    budget = entries_at 32 (budget_of t);
  }

  pub table_is : (w : Table) → w ≡ table_of t c → TableOf t w
  table_is w e = subst (TableOf t) (sym e) table_parts

  pub limits_are : (w : Table) → w ≡ table_of t c → LimitsOf t c w
  limits_are w e = subst (LimitsOf t c) (sym e) (entries_at 32 (limit_of t c))

-- tables are the same by their parts
pub table_same : (v w : Table) → v.carried ≡ w.carried → v.granularity ≡ w.granularity → v.parent_port ≡ w.parent_port → v.own_port ≡ w.own_port
    → v.limit ≡ w.limit → v.budget ≡ w.budget → v ≡ w
table_same v w c g p o l b =
    ap₂ (λ x y. record { carried = x; granularity = y; parent_port = v.parent_port; own_port = v.own_port; limit = v.limit; budget = v.budget }) c g
    ∙ ap₂ (λ x y. record { carried = w.carried; granularity = w.granularity; parent_port = x; own_port = y; limit = v.limit; budget = v.budget }) p o
    ∙ ap₂ (λ x y. record { carried = w.carried; granularity = w.granularity; parent_port = w.parent_port; own_port = w.own_port; limit = x; budget = y }) l b

-- the table w as it is filled for channel c of t: what each port carries, the arrays of fifteen below j or to their end, the others below a
abbrev pub FilledTo : Tree → Channel → Table → ℕ → ℕ → Type 0
FilledTo t c w j a =
    (w.carried ≡ entries 120 (carried_by t))
    × Filled 15 (granularity_of t) w.granularity (min 15 j)
    × Filled 15 (parent_number t) w.parent_port (min 15 j)
    × Filled 32 (own_number t) w.own_port a
    × Filled 32 (limit_of t c) w.limit a
    × Filled 32 (budget_of t) w.budget a

-- an array of fifteen has one entry more where j is below fifteen, and is full past that
pub most_more : (f : ℕ → ℕ) (l : List ℕ) (j x : ℕ) → j < 15 → x ≡ f j → Filled 15 f l (min 15 j) → Filled 15 f (set l j x) (min 15 (j + 1))
most_more f l j x h e d =
    let p : min 15 j ≡ j = omega arith in
    let q : j + 1 ≡ min 15 (j + 1) = omega arith in
    subst (Filled 15 f (set l j x)) q (filled_more 15 f l j x h e (subst (Filled 15 f l) p d))

pub most_past : (f : ℕ → ℕ) (l : List ℕ) (j : ℕ) → 15 ≤ j → Filled 15 f l (min 15 j) → Filled 15 f l (min 15 (j + 1))
most_past f l j h d =
    let p : min 15 j ≡ min 15 (j + 1) = omega arith in
    subst (Filled 15 f l) p d
