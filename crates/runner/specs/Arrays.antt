-- One slot of a run on the arrays that it holds in place of a state: what the inner functions come to on any arrays.
--
-- arrays_from l         the arrays of a run that begins from the last ports l: nothing waits, is admitted or is held
-- Slot                  a slot's byte and the arrays after it; slot_on b d: these two
-- chosen_on w d         the choice from the root, by the table w of the configuration
-- with_ports p d        the arrays d with what is kept of the ports, p
-- serve_on w d          the slot serves, or is idle; what it serves is outstanding as before
-- open_on b d           the arrays d where a window opens if b: the admitted counts return to 0
-- opens_on m            the next slot begins a window where m slots of this one are left, this slot counted
-- left_on p m           how many slots are left then after this slot, in windows of p slots
-- end_on x b m          how a slot ends: its byte x, whether a window opens then, and the slots m left of the window
-- slot_end_on w p m d   how a slot ends that is run on d, where m slots are left of a window of p, this slot counted
-- after_on w m d        that slot is run: service, and the end of the window
-- ago_in d bs           the byte of the slot d slots before the one that comes after the bytes bs; 255 where there is no such slot
-- home_in r bs          the accelerator whose transaction stops being outstanding at the start of the slot after the bytes bs, where r is
--                       the return delay: the one served in the slot r + 1 slots before (document 02, item 2: "A transaction served in
--                       slot s stops being outstanding at the start of slot s + 1 + r"); 255 for none
-- home_on h d           one transaction of accelerator h stops being outstanding
-- ready_on b k z a      accelerator a, one of the set k, may have a transaction admitted before a slot, which opens a window if b: then any
--                       one may, else those of the set z, whose lines are due
-- with_held h d         the arrays d with the held counts h
-- before_on s n x b k h w d  what comes before slot n, which opens a window if b: a transaction of accelerator h stops being outstanding,
--                       the lines due from the place of x in the trace s are held, and h offers, and then those of the set k that may
-- waiting_on w u a      how many transactions of accelerator a wait: what u, the counts of the ports, has for its own port
use Rattle.std.specs.Prelude.{ℕ, ◌+◌, ◌-◌, ◌%◌, Bool, ◌&&◌, ◌||◌, List, eqb, ltb, get_or, length, set, replicate}
use Rattle.folds.specs.Fold.{pick}
use Rattle.counts.specs.declared.Table.{Table}
use Rattle.counts.specs.declared.Ports.{Ports}
use Rattle.counts.specs.Choice.{ports, Choice, choose_on}
use Rattle.admit.specs.declared.Arrays.{Arrays}
use Rattle.admit.specs.Admitting.{arrays, is_in, offers_before}
use Rattle.runner.specs.declared.NextLine.{NextLine}
use Rattle.runner.specs.declared.SlotEnd.{SlotEnd}
use Rattle.runner.specs.Due.{due_on}

abbrev pub arrays_from : List ℕ → Arrays
arrays_from l =
    arrays (replicate 32 0) (replicate 32 0) (replicate 32 0) (ports (replicate 120 0) (replicate 15 0) l (replicate 15 0))

pub record Slot : Type 0 where
  pub byte : ℕ
  pub arrays : Arrays

abbrev pub slot_on : ℕ → Arrays → Slot
slot_on b d = record { byte = b; arrays = d }

abbrev pub chosen_on : Table → Arrays → Choice
chosen_on w d = choose_on 4 w 0 d.ports

abbrev pub with_ports : Ports → Arrays → Arrays
with_ports p d = arrays d.outstanding d.admitted d.held p

unfoldable pub serve_on : Table → Arrays → Slot
serve_on w d =
    pick (eqb (get_or d.ports.live 0 0) 0) (slot_on 255 d) (slot_on (chosen_on w d).served (with_ports (chosen_on w d).ports d))

abbrev pub open_on : Bool → Arrays → Arrays
open_on b d =
    record {
      outstanding = d.outstanding;
      admitted = pick b (replicate 32 0) d.admitted;
      held = d.held;
      ports = d.ports;
    }

abbrev pub opens_on : ℕ → Bool
opens_on m = eqb m 1

abbrev pub left_on : ℕ → ℕ → ℕ
left_on p m = pick (opens_on m) p (m - 1)

abbrev pub end_on : ℕ → Bool → ℕ → SlotEnd
end_on x b m = record { served = x; opened = b; left = m }

abbrev pub slot_end_on : Table → (p m : ℕ) → Arrays → SlotEnd
slot_end_on w p m d = end_on (serve_on w d).byte (opens_on m) (left_on p m)

abbrev pub after_on : Table → ℕ → Arrays → Arrays
after_on w m d = open_on (opens_on m) (serve_on w d).arrays

abbrev pub ago_in : ℕ → List ℕ → ℕ
ago_in d bs = pick (ltb (length bs) d) 255 (get_or bs (length bs - d) 255)

abbrev pub home_in : ℕ → List ℕ → ℕ
home_in r bs = ago_in (r + 1) bs

abbrev pub home_on : ℕ → Arrays → Arrays
home_on h d =
    record {
      outstanding = set d.outstanding h (get_or d.outstanding h 0 - 1);
      admitted = d.admitted;
      held = d.held;
      ports = d.ports;
    }

abbrev pub ready_on : Bool → (k z : ℕ) → ℕ → Bool
ready_on b k z a = is_in k a && (b || is_in z a)

abbrev pub with_held : List ℕ → Arrays → Arrays
with_held h d =
    record {
      outstanding = d.outstanding;
      admitted = d.admitted;
      held = h;
      ports = d.ports;
    }

abbrev pub before_on : (s : List ℕ) (n : ℕ) → NextLine → Bool → (k h : ℕ) → Table → Arrays → Arrays
before_on s n x b k h w d =
    offers_before w h (ready_on b k (due_on n s x d.held).accelerators) (with_held (due_on n s x d.held).held (home_on h d))

abbrev pub waiting_on : Table → List ℕ → ℕ → ℕ
waiting_on w u a = get_or u (get_or w.own_port (a % 32) 0 % 120) 0
