-- The offers before a slot, on the arrays that a run keeps (document 01, "Turns", last paragraph: "accelerators in rising
-- number offer held transactions until one is refused or none is left").
--
-- arrays w m h p         what a run keeps: what is outstanding, what is admitted and what is held for each accelerator, and what is kept of
--                       the ports
-- answer_on w a d        what an offer of accelerator a answers, by the limits and budgets in the table w: 8, 9, or admitted
-- admit_on w a d         one held transaction of accelerator a admitted: it is counted under each port from its own up to the root
-- offered_on w a d       the arrays after one offer: a refusal leaves them, and the held request first in line
-- offers_for k w a d     accelerator a offers at most k transactions, until one is refused
-- offers_of w a d        the offers of accelerator a, of all that it holds; a number that no accelerator has offers nothing
-- is_in x a              accelerator a is in the set x, of which bit a stands for accelerator a
-- offers_in w f n d      those of the accelerators below n of which f holds, in rising number
-- offers_before w x f d  those of x, and then those of the accelerators of which f holds
use Rattle.std.specs.Prelude.{ℕ, zero, suc, ◌+◌, ◌-◌, Bool, List, eqb, ltb, get_or, set}
use Rattle.folds.specs.Fold.{pick}
use Rattle.model.specs.Tree.{bit}
use Rattle.machine.specs.Machine.{Answer, limits_answer, on_admitted}
use Rattle.counts.specs.declared.Table.{Table}
use Rattle.counts.specs.declared.Ports.{Ports}
use Rattle.counts.specs.Counts.{path_ports}
use Rattle.counts.specs.Choice.{more_at}
use Rattle.admit.specs.declared.Arrays.{Arrays}

abbrev pub arrays : (w m h : List ℕ) → Ports → Arrays
arrays w m h p = record { outstanding = w; admitted = m; held = h; ports = p }

abbrev pub answer_on : Table → ℕ → Arrays → Answer
answer_on w a d =
    limits_answer (get_or w.limit a 0) (get_or d.outstanding a 0) (get_or w.budget a 0) (get_or d.admitted a 0)

abbrev pub admit_on : Table → ℕ → Arrays → Arrays
admit_on w a d =
    record {
      outstanding = set d.outstanding a (get_or d.outstanding a 0 + 1);
      admitted = set d.admitted a (get_or d.admitted a 0 + 1);
      held = set d.held a (get_or d.held a 0 - 1);
      ports = more_at (path_ports w a) d.ports;
    }

abbrev pub offered_on : Table → ℕ → Arrays → Arrays
offered_on w a d = on_admitted (answer_on w a d) (admit_on w a d) d

unfoldable pub offers_for : ℕ → Table → ℕ → Arrays → Arrays
offers_for zero w a d = d
offers_for (suc k) w a d = on_admitted (answer_on w a d) (offers_for k w a (offered_on w a d)) d

abbrev pub offers_of : Table → ℕ → Arrays → Arrays
offers_of w a d = pick (ltb 31 a) d (offers_for (get_or d.held a 0) w a d)

abbrev pub is_in : ℕ → ℕ → Bool
is_in x a = eqb (bit a x) 1

unfoldable pub offers_in : Table → (ℕ → Bool) → ℕ → Arrays → Arrays
offers_in w f zero d = d
offers_in w f (suc n) d = pick (f n) (offers_of w n (offers_in w f n d)) (offers_in w f n d)

abbrev pub offers_before : Table → ℕ → (ℕ → Bool) → Arrays → Arrays
offers_before w x f d = offers_in w f 32 (offers_of w x d)
