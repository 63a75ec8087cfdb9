-- The theorem on jobs that are held by their budget, and that the slots in which one is served are within its response: a read or a write
-- alone takes no less than a slot.
use Prim.Native.Nat.{ℕ, ◌+◌, ◌-◌, ◌*◌, ◌≤◌, ◌<◌}
use mathlib.Core.Bool.{true}
use mathlib.Core.List.{List}
use mathlib.Core.Path.{◌≡◌, refl, ◌∙◌, ap}
use native.Mathlib.Nat.{add-mul, mul-add, mul-one, mul-le-mul_left}
use native.Mathlib.Omega.{arith}
use lib.ListN.{length}
use borrow.Author.Tests.{leb-true}
use Rattle.model.specs.declared.Tree.{Tree}
use Rattle.model.specs.declared.Channel.{Channel}
use Rattle.model.specs.declared.Channel.TheVariants.{Read, Write}
use Rattle.folds.specs.Fold.{ceiling}
use Rattle.model.specs.Tree.{accelerator_of, home_of, level_of, window_of, budget_of, job_of}
use Rattle.rules.specs.Rules.{tree_keeps}
use Rattle.rules.proofs.Sound.{sound}
use Rattle.text.specs.Text.{lines}
use Rattle.trace.specs.TraceFile.{requests}
use Rattle.machine.specs.Machine.{last_slot}
use Rattle.shares.specs.Shares.{share_of}
use Rattle.shares.proofs.Shares.{share_bounds}
use Rattle.bounds.specs.Bounds.{interference, held_slots, alone_read, alone_write, slot_read, slot_write, channel_time}
use Rattle.runner.specs.Run.{ran_of}
use Rattle.runs.specs.Calls.{Reports}
use Rattle.runs.specs.Windows.{HeldByBudget, slot_time, time_of, response_in, job_slots, InResponse}
use Rattle.runs.proofs.Theorem.{reports_within}
use Rattle.runs.proofs.Windows.{first_slot, few_run, by_windows}
use Rattle.runs.proofs.Served.{all_served}

-- a read or a write alone takes no less than a slot
counts_more : (n share h alone slot : ℕ) → 1 ≤ share → slot ≤ alone
    → (n * share + h) * slot ≤ channel_time n alone (interference n share) h slot
counts_more n share h alone slot p l = omega (
  arith,
  mul-le-mul_left n l,
  add-mul (n * (share - 1) + h) n slot,
  ap (λ k. (k + h) * slot) (ap (λ k. n * k) {x = share} {y = share - 1 + 1} (omega arith) ∙ mul-add n (share - 1) 1 ∙ ap (λ k. n * (share - 1) + k) (mul-one n)),
  ap (λ k. k * slot) {x = n * (share - 1) + n + h} {y = n * (share - 1) + h + n} (omega arith),
)

pub in_response : (t : Tree) → tree_keeps t ≡ true → (a : ℕ) → a < t.accs → InResponse t a
in_response t k a la = record {
  counted = each;
  both = refl;
  met = λ e c. omega (arith, leb-true (response_in t a) (accelerator_of t a).period e, each c, one c);
}
  where
    each : (c : Channel) → job_slots t c a * slot_time t c ≤ time_of t c a
    each Read = counts_more (job_of t Read a) (share_of t Read a) (held_slots (job_of t Read a) (budget_of t a) t.bus.window)
        (alone_read t.bus (level_of t (home_of t a))) (slot_read t.bus) (share_bounds t k Read a la).0 (omega arith)
    each Write = counts_more (job_of t Write a) (share_of t Write a) (held_slots (job_of t Write a) (budget_of t a) t.bus.window)
        (alone_write t.bus (level_of t (home_of t a))) (slot_write t.bus) (share_bounds t k Write a la).0 (omega arith)

    one : (c : Channel) → time_of t c a ≤ response_in t a
    one Read = omega arith
    one Write = omega arith

pub held_by_budget : (t : Tree) (c : Channel) (s d : List ℕ) (m : ℕ) → Reports (ran_of t c s (length d)) m
    → HeldByBudget t c (requests (lines s)) m
held_by_budget t c s d m h =
    let rs = requests (lines s) in
    let W = reports_within t c s d m h in
    let k = W.0 in
    let l : m ≤ last_slot = omega (arith, W.1) in
    let P = (sound t k).window in
    record {
      few_windows = λ a i n la u z. few_run t c rs k a i n la z m l u;
      within_windows = λ a i n j la u v J. by_windows t c rs k a i n la J.none_held_lem j (omega arith) u J.due;
      within_response = λ a i n j la v J o b.
          by_windows t c rs k a i n la J.none_held_lem j (omega arith) (omega arith) J.due o
          (omega (arith, first_slot t P i, add-mul (window_of t i) (ceiling n (budget_of t a)) t.bus.window));
      served_within = λ a i n j la job r0 v J w. all_served t c rs k a i n la J.none_held_lem job r0 w J.due j (omega arith);
    }
