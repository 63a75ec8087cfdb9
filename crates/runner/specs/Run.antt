-- The run of a trace on one channel (document 01, "Turns", last paragraph; document 02, item 5).
--
-- Run                   where a run stands before a slot: the state, the held counts, the lines left
-- hold h r              "adds the lines due to the held counts": the held counts with request r added
-- is_due n r            line r is due in slot n
-- held_with n h rs      the held counts once the lines of rs that are due in slot n are added
-- left_after n rs       the lines of rs that are not due in slot n
-- with_due r            "Each slot it adds the lines due to the held counts": the state, and the held counts then
-- before_slot t r       the state and the held counts once the offers are made too
-- byte_of x             "one byte a slot, the accelerator's number or 255 for idle"
-- next t r              where the run stands after one more slot; last_byte t r: the byte it wrote
-- none_held h           none is held
-- is_done r             "no line left, none held, none waiting"
-- Trail                 the bytes written, one a slot used, and whether the run ended done; ended d: no byte more; written b x:
--                       the byte b, then x
-- trail k t r           the run from r on, over at most k slots: "Done is tested before each slot"
-- start t c rs          "The runner starts fresh", on channel c: nothing is held, and all lines rs are left
-- run_for t c rs n      the run from the start, over the lines rs and a buffer of n bytes
-- Ending                how a run ends: refused by a number and a line, or by 11, which has no line; or done, or stopped, "and
--                       the number of slots used"
-- end_after d n         done if d, else stopped, after n slots
-- end_of x              done or stopped by the trail x: the slots used are its bytes
-- answered y x          how a run of the trail x ends where the trace's reading answers y; overwritten y x d: the buffer d then
-- over x d              the trail's bytes over those of d
-- ran_of t c s n        how a run of trace s on channel c over a buffer of n bytes ends: "the runner 11, buffer size, trace"
-- buffer_after t c s d  the buffer d after the run: "Bytes past the slots used keep their contents", and a refusal leaves all
use Rattle.std.specs.Prelude.{ℕ, zero, suc, ◌+◌, Bool, true, ◌&&◌, not, List, [], ◌∷◌, ◌++◌, length, set, drop, replicate, leb, ltb, eqb}
use Rattle.model.specs.declared.Tree.{Tree}
use Rattle.model.specs.declared.Channel.{Channel}
use Rattle.model.specs.declared.State.{State}
use Rattle.folds.specs.Fold.{pick, all}
use Rattle.rules.specs.Rules.{tree_keeps}
use Rattle.model.specs.Answer.{number_of}
use Rattle.text.specs.Text.{lines}
use Rattle.trace.specs.declared.Request.{Request}
use Rattle.lines.specs.Answer.{FileAnswer, Accepted, Refused, Broken}
use Rattle.trace.specs.TraceFile.{read_trace, requests}
use Rattle.machine.specs.Machine.{Answer, admitted, served, idle, refused, fresh_state, none_waits, slotted}
use Rattle.runner.specs.Offers.{held_of, Offering, offering, offer_each}

pub record Run : Type 0 where
  pub state : State
  pub held : List ℕ
  pub left : List Request

abbrev pub hold : List ℕ → Request → List ℕ
hold h r = set h r.accelerator (held_of h r.accelerator + r.count)

abbrev pub is_due : ℕ → Request → Bool
is_due n r = leb r.slot n

unfoldable pub held_with : ℕ → List ℕ → List Request → List ℕ
held_with n h [] = h
held_with n h (r ∷ rs) = pick (is_due n r) (held_with n (hold h r) rs) h

unfoldable pub left_after : ℕ → List Request → List Request
left_after n [] = []
left_after n (r ∷ rs) = pick (is_due n r) (left_after n rs) (r ∷ rs)

abbrev pub with_due : Run → Offering
with_due r = offering r.state (held_with r.state.slot r.held r.left)

abbrev pub before_slot : Tree → Run → Offering
before_slot t r = offer_each t.accs t (with_due r)

abbrev pub byte_of : Answer → ℕ
byte_of admitted = 255
byte_of (served a) = a
byte_of idle = 255
byte_of (refused n) = 255

abbrev pub last_byte : Tree → Run → ℕ
last_byte t r = byte_of (slotted t (before_slot t r).state).answer

unfoldable pub next : Tree → Run → Run
next t r =
    record {
      state = (slotted t (before_slot t r).state).state;
      held = (before_slot t r).held;
      left = left_after r.state.slot r.left;
    }

abbrev pub none_held : List ℕ → Bool
none_held h = all 32 (λ a. eqb (held_of h a) 0)

abbrev pub is_done : Run → Bool
is_done r = eqb (length r.left) 0 && none_held r.held && none_waits r.state

pub record Trail : Type 0 where
  pub bytes : List ℕ
  pub done : Bool

abbrev pub ended : Bool → Trail
ended d = record { bytes = []; done = d }

abbrev pub written : ℕ → Trail → Trail
written b x = record { bytes = b ∷ x.bytes; done = x.done }

unfoldable pub trail : ℕ → Tree → Run → Trail
trail zero t r = ended (is_done r)
trail (suc k) t r = pick (is_done r) (ended true) (written (last_byte t r) (trail k t (next t r)))

abbrev pub start : Tree → Channel → List Request → Run
start t c rs = record { state = fresh_state t c; held = replicate 32 0; left = rs }

abbrev pub run_for : Tree → Channel → List Request → ℕ → Trail
run_for t c rs n = trail n t (start t c rs)

pub data Ending : Type 0 where
  refused_at : ℕ → ℕ → Ending
  broken : ℕ → Ending
  done : ℕ → Ending
  stopped : ℕ → Ending

abbrev pub end_after : Bool → ℕ → Ending
end_after d n = pick d (done n) (stopped n)

abbrev pub end_of : Trail → Ending
end_of x = end_after x.done (length x.bytes)

abbrev pub answered : FileAnswer → Trail → Ending
answered Accepted x = end_of x
answered (Refused r n) x = refused_at (number_of r) n
answered Broken x = broken 11

abbrev pub over : Trail → List ℕ → List ℕ
over x d = x.bytes ++ drop (length x.bytes) d

abbrev pub overwritten : FileAnswer → Trail → List ℕ → List ℕ
overwritten Accepted x d = over x d
overwritten (Refused r n) x d = d
overwritten Broken x d = d

unfoldable pub ran_of : Tree → Channel → List ℕ → ℕ → Ending
ran_of t c s n =
    pick (not (tree_keeps t)) (broken 11)
    (pick (ltb 65536 n) (refused_at 2 0)
    (answered (read_trace t s) (run_for t c (requests (lines s)) n)))

unfoldable pub buffer_after : Tree → Channel → List ℕ → List ℕ → List ℕ
buffer_after t c s d =
    pick (not (tree_keeps t)) d
    (pick (ltb 65536 (length d)) d
    (overwritten (read_trace t s) (run_for t c (requests (lines s)) (length d)) d))
