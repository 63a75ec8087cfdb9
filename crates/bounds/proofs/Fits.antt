-- No arithmetic of an accepted tree leaves 64 bits: each figure is largest where all that it is made of is, the wait for a new
-- window with budget 1, and the largest response has 61 bits. Products are monotone, a quotient rounded up is at most what is
-- divided, and the rest is linear.
use Prim.Native.Nat.{ℕ, ◌+◌, ◌*◌, ◌-◌, ◌≤◌, ◌<◌, max}
use mathlib.Core.Bool.{true}
use mathlib.Core.Path.{◌≡◌, sym, ◌∙◌}
use native.Mathlib.Nat.{add-le-add, mul-le-mul, add-mul, one-mul, div-lt_iff_lt-mul, le-mul_of_pos_right}
use native.Mathlib.Omega.{arith}
use borrow.Author.Tests.{lt-ltb}
use Rattle.model.specs.declared.Tree.{Tree}
use Rattle.model.specs.declared.Bus.{Bus}
use Rattle.model.specs.declared.Accelerator.{Accelerator}
use Rattle.model.specs.declared.Channel.{Channel}
use Rattle.model.specs.declared.Channel.TheVariants.{Read, Write}
use Rattle.model.specs.Tree.{accelerator_of, home_of, level_of}
use Rattle.rules.specs.Rules.{tree_keeps, bus_keeps, used_accelerator}
use Rattle.folds.specs.Fold.{ceiling}
use Rattle.folds.proofs.Folds.{tests, picked}
use Rattle.rules.proofs.Sound.{sound, beat_most}
use Rattle.shares.specs.Shares.{share_of}
use Rattle.shares.proofs.Shares.{share_bounds}
use Rattle.bounds.specs.Bounds.{interference, held_slots, alone_read, alone_write, slot_read, slot_write, read_time, write_time, response_of}
use Rattle.bounds.specs.Limited.{Limited, Share}

pub record Fitting (b : Bus) (x : Accelerator) (l sr sw : ℕ) : Type 0 where
  pub slot_read_lem : slot_read b ≤ 69630
  pub slot_write_lem : slot_write b ≤ 69885
  pub alone_read_lem : alone_read b l ≤ 71670
  pub alone_write_lem : alone_write b l ≤ 71925
  pub reads : interference x.reads sr ≤ 10685308737600
  pub writes : interference x.writes sw ≤ 10685308737600
  pub held_reads : held_slots x.reads x.budget b.window ≤ 4294836225
  pub held_writes : held_slots x.writes x.budget b.window ≤ 4294836225
  pub read_time_lem : read_time b x l sr ≤ 744317101542328200
  pub write_time_lem : write_time b x l sw ≤ 747042950470365000
  pub response : response_of b x l sr sw ≤ 1491360056307660495

ceiling_most : (n p : ℕ) → 1 ≤ p → ceiling n p ≤ n
ceiling_most n p h =
    omega (arith, (div-lt_iff_lt-mul {x = n + (p - 1)} {y = n + 1} h).1 (omega (arith, add-mul n 1 p, one-mul p, le-mul_of_pos_right n h)))

held_most : (n p w : ℕ) → 1 ≤ p → n ≤ 65535 → w ≤ 65535 → held_slots n p w ≤ 4294836225
held_most n p w h k l = mul-le-mul {n₂ = 65535} {m₂ = 65535} (omega (arith, ceiling_most n p h)) l

module _ (b : Bus) (x : Accelerator) (l : ℕ) (h : Limited b x l) where
  burst_most : b.burst * b.td ≤ 65280
  burst_most = mul-le-mul h.burst h.td

  interference_most : (n s : ℕ) → n ≤ 65535 → Share s → interference n s ≤ 10685308737600
  interference_most n s k m = mul-le-mul {m₂ = 163047360} k (omega (arith, m.most))

  pub fitting : (sr sw : ℕ) → Share sr → Share sw → Fitting b x l sr sw
  fitting sr sw p q =
      let slot_read_lem : slot_read b ≤ 69630 = omega (arith, burst_most, h.ta, h.pr) in
      let slot_write_lem : slot_write b ≤ 69885 = omega (arith, burst_most, h.ta, h.pw, h.tb) in
      let alone_read_lem : alone_read b l ≤ 71670 = omega (arith, burst_most, h.ta, h.pr, mul-le-mul h.level h.da, mul-le-mul h.level h.dd) in
      let larger = mul-le-mul {m₁ = max b.da b.dd} {m₂ = 255} h.level (omega (arith, h.da, h.dd)) in
      let alone_write_lem : alone_write b l ≤ 71925 = omega (arith, burst_most, h.ta, h.pw, h.tb, larger, mul-le-mul h.level h.db) in
      let reads = interference_most x.reads sr h.reads p in
      let writes = interference_most x.writes sw h.writes q in
      let held_reads = held_most x.reads x.budget b.window h.budget h.reads h.window in
      let held_writes = held_most x.writes x.budget b.window h.budget h.writes h.window in
      let read-slots = mul-le-mul (add-le-add reads held_reads) slot_read_lem in
      let write-slots = mul-le-mul (add-le-add writes held_writes) slot_write_lem in
      let read_time_lem : read_time b x l sr ≤ 744317101542328200 = omega (arith, mul-le-mul h.reads alone_read_lem, read-slots) in
      let write_time_lem : write_time b x l sw ≤ 747042950470365000 = omega (arith, mul-le-mul h.writes alone_write_lem, write-slots) in
      record {
        slot_read_lem = slot_read_lem;
        slot_write_lem = slot_write_lem;
        alone_read_lem = alone_read_lem;
        alone_write_lem = alone_write_lem;
        reads = reads;
        writes = writes;
        held_reads = held_reads;
        held_writes = held_writes;
        read_time_lem = read_time_lem;
        write_time_lem = write_time_lem;
        response = omega (arith, h.computing);
      }

module _ (t : Tree) (e : tree_keeps t ≡ true) (a : ℕ) (l : a < t.accs) where
  used : used_accelerator t a ≡ true
  unfolding tree_keeps
  used = let h = simp tests at e in sym (picked _ _ _ (lt-ltb _ _ l)) ∙ h.1 a (omega (arith, (sound t e).most_accs))

  pub limited : Limited t.bus (accelerator_of t a) (level_of t (home_of t a))
  unfolding tree_keeps bus_keeps used_accelerator
  limited =
      let h = simp tests at e in
      let u = simp tests at used in
      let S = sound t e in
      record {
        window = omega arith;
        ta = omega arith;
        da = omega arith;
        dd = omega arith;
        db = omega arith;
        pr = omega arith;
        pw = omega arith;
        td = omega arith;
        tb = omega arith;
        burst = omega (arith, beat_most t.bus);
        budget = omega arith;
        reads = omega arith;
        writes = omega arith;
        computing = omega arith;
        level = S.level (home_of t a) (S.home a l);
      }

  pub shared : (c : Channel) → Share (share_of t c a)
  shared c = record { some = (share_bounds t e c a l).0; most = (share_bounds t e c a l).1 }

  pub fits : Fitting t.bus (accelerator_of t a) (level_of t (home_of t a)) (share_of t Read a) (share_of t Write a)
  fits =
      fitting t.bus (accelerator_of t a) (level_of t (home_of t a)) limited (share_of t Read a) (share_of t Write a) (shared Read) (shared Write)
