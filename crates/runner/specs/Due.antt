-- The lines due before a slot, taken from the bytes of any trace onto any held counts: what the inner function comes to. On an
-- accepted trace these are the lines of the definition (`held_with`, `left_after`).
--
-- line_at at n           the next line is the one at the place `at`, and not due before slot n
-- Taken                  the held counts, the set of the accelerators whose lines are due and the next line, once the lines due are
--                        added; taken h z x: these three
-- hold_on h r            the held counts with request r added, each at most 4,294,967,295
-- join_on z r            the set z with the accelerator of request r in it
-- on_request q x f       x where no request is found, f of the request and the place after it where one is
-- due_from k n s at h z  the lines of trace s that are due in slot n, at most k of them, from the place `at` on, added to h, and their
--                        accelerators put into z; the walk ends where no line of a request begins
-- due_on n s x h         the same from the next line x, which is not looked at before it is due
use Rattle.std.specs.Prelude.{ℕ, zero, suc, ◌+◌, ◌-◌, ◌^◌, min, List, ltb, length, set, Option, Some, None}
use Rattle.std.specs.Int.Bits.{bit_or}
use Rattle.folds.specs.Fold.{pick}
use Rattle.machine.specs.Machine.{last_slot}
use Rattle.trace.specs.declared.Request.{Request}
use Rattle.trace.specs.TraceFile.{request_at}
use Rattle.runner.specs.declared.NextLine.{NextLine}
use Rattle.runner.specs.Offers.{held_of}

abbrev pub line_at : ℕ → ℕ → NextLine
line_at at n = record { at = at; due = n }

pub record Taken : Type 0 where
  pub held : List ℕ
  pub accelerators : ℕ
  pub line : NextLine

abbrev pub taken : List ℕ → ℕ → NextLine → Taken
taken h z x = record { held = h; accelerators = z; line = x }

abbrev pub hold_on : List ℕ → Request → List ℕ
hold_on h r = set h r.accelerator (min 4294967295 (held_of h r.accelerator + r.count))

abbrev pub join_on : ℕ → Request → ℕ
join_on z r = bit_or z (2 ^ r.accelerator)

abbrev pub on_request : Option (Request × ℕ) → Taken → (Request → ℕ → Taken) → Taken
on_request None x f = x
on_request (Some (r, p)) x f = f r p

unfoldable pub due_from : ℕ → ℕ → List ℕ → ℕ → List ℕ → ℕ → Taken
due_from zero n s at h z = taken h z (line_at at last_slot)
due_from (suc k) n s at h z =
    on_request (request_at s at) (taken h z (line_at at last_slot))
    (λ r p. pick (ltb n r.slot) (taken h z (line_at at r.slot)) (due_from k n s p (hold_on h r) (join_on z r)))

unfoldable pub due_on : ℕ → List ℕ → NextLine → List ℕ → Taken
due_on n s x h = pick (ltb n x.due) (taken h 0 x) (due_from (length s - x.at) n s x.at h 0)
