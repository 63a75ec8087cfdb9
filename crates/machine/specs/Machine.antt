-- Fresh state, offer and slot of one channel (document 01, "What is refused" and "Turns"; document 02, items 2 and 5). Reads and writes
-- share nothing: each channel has a state of its own, which says of which it is.
--
-- Answer               what an offer or a slot answers: an offer is admitted, a slot serves an accelerator or is idle, and
--                      either is refused by a number of document 01's table
-- Outcome              a call's answer and the state that it returns; outcome a s: the answer a with the state s
-- fresh_state t c       of channel c: "At the start nothing waits, all admitted counts and the slot are 0, every allowance is 0 and the
--                      last port of every interconnect in the tree is 7"
-- Start                what the start answers: started, or refused by a number
-- Beginning            the start's answer and the state that it returns; beginning a s: the answer a with the state s
-- freshened t c        the starting state of channel c, or 11, and then no state but zeros
-- admit s a            "waiting and admitted rise by one"
-- limits_answer l o b n what an offer answers to an accelerator with outstanding limit l and budget b, of which o are
--                      outstanding and n were admitted in this window: 8, 9, or admitted
-- verdict_of t s a      what the offer of one transaction answers once configuration and state have passed: 7, 14, 8, 9, or admitted
--                      (document 02, item 5: "14 for an offer on a channel where the accelerator has 0 transactions, after 7 and
--                      before 8")
-- on_admitted v x y     x where the answer v is admitted, else y
-- offered_within t s a  that answer, and the state: "An offer admits one transaction unless refused above", and a refusal
--                      leaves the state as it was
-- offered t s a        the offer of one transaction: 11, 7, 14, 8, 9 in this order, or admitted
-- none_waits s          nothing waits
-- opens t n            slot n + 1 is in another window than slot n
-- last_slot             the slot count at which a slot is refused
-- older r x            the returns x one slot later, each bit one place higher; what then was served r + 1 slots ago is home (document
--                      02, item 2: "A transaction served in slot s stops being outstanding at the start of slot s + 1 + r")
-- tick t s             "Then the slot count rises by one; where that opens a new window, all admitted counts become 0"; each
--                      return is one slot older
-- chosen t s           the accelerator to serve: "The choice begins at the root"
-- take_one s a          one transaction of accelerator a less waits, and one was served 0 slots ago: bit 0 of its returns, which is 0
--                      before
-- serve t s            the state once the chosen accelerator's oldest transaction is served, before the slot count rises
-- slotted_within t s    one slot once configuration and state have passed: 10, or idle, or the accelerator served
-- slotted t s          one slot: 11, 10 in this order, or idle, or the accelerator served
use Rattle.std.specs.Prelude.{ℕ, ◌+◌, ◌-◌, ◌*◌, ◌%◌, ◌^◌, Bool, not, ◌++◌, map, set, replicate, leb, eqb}
use Rattle.model.specs.declared.Tree.{Tree}
use Rattle.model.specs.declared.State.{State}
use Rattle.model.specs.declared.Channel.{Channel}
use Rattle.folds.specs.Fold.{pick, all}
use Rattle.model.specs.Tree.{job_of, limit_of, budget_of, window_of, delay_of, waiting_of, returns_of, outstanding_of, admitted_of}
use Rattle.model.specs.Builders.{zero_state, with_counts, with_service, with_turns, at_slot}
use Rattle.rules.specs.Rules.{tree_keeps, keeps}
use Rattle.turns.specs.Turns.{who, after}

pub data Answer : Type 0 where
  admitted : Answer
  served : ℕ → Answer
  idle : Answer
  refused : ℕ → Answer

pub record Outcome : Type 0 where
  pub answer : Answer
  pub state : State

abbrev pub outcome : Answer → State → Outcome
outcome a s = record { answer = a; state = s }

abbrev pub fresh_state : Tree → Channel → State
fresh_state t c = with_turns (zero_state c) (replicate t.ints 7 ++ replicate (15 - t.ints) 0) (replicate 15 0)

pub data Start : Type 0 where
  started : Start
  not_started : ℕ → Start

pub record Beginning : Type 0 where
  pub answer : Start
  pub state : State

abbrev pub beginning : Start → State → Beginning
beginning a s = record { answer = a; state = s }

unfoldable pub freshened : Tree → Channel → Beginning
freshened t c = pick (tree_keeps t) (beginning started (fresh_state t c)) (beginning (not_started 11) (zero_state c))

abbrev pub admit : State → ℕ → State
admit s a = with_counts s (set s.waiting a (waiting_of s a + 1)) (set s.admitted a (admitted_of s a + 1))

abbrev pub limits_answer : ℕ → ℕ → ℕ → ℕ → Answer
limits_answer limit outstanding budget count =
    pick (leb limit outstanding) (refused 8) (pick (leb budget count) (refused 9) admitted)

abbrev pub verdict_of : Tree → State → ℕ → Answer
verdict_of t s a =
    pick (leb t.accs a) (refused 7)
    (pick (eqb (job_of t s.channel a) 0) (refused 14)
    (limits_answer (limit_of t s.channel a) (outstanding_of s a) (budget_of t a) (admitted_of s a)))

abbrev pub on_admitted : {A : Type 0} → Answer → A → A → A
on_admitted admitted x y = x
on_admitted (served a) x y = y
on_admitted idle x y = y
on_admitted (refused n) x y = y

abbrev pub offered_within : Tree → State → ℕ → Outcome
offered_within t s a = outcome (verdict_of t s a) (on_admitted (verdict_of t s a) (admit s a) s)

unfoldable pub offered : Tree → State → ℕ → Outcome
offered t s a = pick (not (keeps t s)) (outcome (refused 11) s) (offered_within t s a)

abbrev pub none_waits : State → Bool
none_waits s = all 32 (λ a. eqb (waiting_of s a) 0)

abbrev pub opens : Tree → ℕ → Bool
opens t n = not (eqb (window_of t (n + 1)) (window_of t n))

abbrev pub older : ℕ → ℕ → ℕ
older r x = x * 2 % 2 ^ (r + 1)

unfoldable pub tick : Tree → State → State
tick t s =
    at_slot s (map (older (delay_of t)) s.returning) (pick (opens t s.slot) (replicate 32 0) s.admitted) (s.slot + 1)

abbrev pub last_slot : ℕ
last_slot = 4294967295

abbrev pub chosen : Tree → State → ℕ
chosen t s = who 4 t s 0

abbrev pub take_one : State → ℕ → State
take_one s a = with_service s (set s.waiting a (waiting_of s a - 1)) (set s.returning a (returns_of s a + 1))

abbrev pub serve : Tree → State → State
serve t s = take_one (after 4 t s 0) (chosen t s)

abbrev pub slotted_within : Tree → State → Outcome
slotted_within t s =
    pick (eqb s.slot last_slot) (outcome (refused 10) s)
    (pick (none_waits s) (outcome idle (tick t s))
    (outcome (served (chosen t s)) (tick t (serve t s))))

unfoldable pub slotted : Tree → State → Outcome
slotted t s = pick (not (keeps t s)) (outcome (refused 11) s) (slotted_within t s)
