-- The wait of one transaction of a run: the slot of its admission and that of its service (document 02, item 1).
--
-- count_in a bs          how many of the bytes bs are a
-- first n f              the least number below n of which f holds; n if there is none
-- taken_by t r a n       how many transactions of accelerator a are admitted once slot n's offers are made: those served before
--                        slot n, and those that wait then
-- admission_slot t r m a k   the slot, among the first m of the run from r, in which the k-th transaction of accelerator a is admitted
-- service_slot t r m a k     the one that serves it
-- Waits                  these two slots, and the services of accelerator a; waits i o c: these three; no_wait: nothing is told
-- waits_after t r m a k  those of the first m slots of the run from r; nothing of number 0, since numbers count from 1
-- least_of i n b         the least number up to n of which something holds, by i, the least below n or n, and b, whether it holds of n
-- served_in w a b        the services of accelerator a, once b is served, by what was told before, w
-- tell_on w k a n m b    what is told of transaction k of accelerator a after slot n, by what was told before, w: b was served, and then
--                        m of it wait. Those and the ones served are all that were admitted
-- used_by t c rs n       the slots that the run on channel c over the lines rs and a buffer of n bytes uses
-- asked_of t a k         the number asked of accelerator a: 0, none, where the tree has no such accelerator
-- wait_for t c rs a k n  what the run on channel c over the lines rs and a buffer of n bytes tells of transaction k of accelerator a
-- told_read y w          w where the trace's reading answers y by accepting; else nothing is told
-- told_of t c s a k n    what is told by a run of trace s on channel c over a buffer of n bytes: nothing where it is refused
-- greatest n f           the greatest of f 0, f 1, .. f (n - 1); 0 if n is 0
-- served_by t r m a      how many transactions of accelerator a the first m slots of the run from r serve
-- wait_length t r m a i  the wait of the one of these that is served after i others: "in slots from admission to service with the serving
--                        slot counted" (document 02, item 9)
-- longest_wait t r m a   "the longest wait (0 if none was served)" of accelerator a; sum_of_waits t r m a: "the sum of waits"
use Rattle.std.specs.Prelude.{ℕ, zero, suc, ◌+◌, ◌-◌, max, Bool, not, List, [], ◌∷◌, leb, ltb, eqb, length}
use Rattle.model.specs.declared.Tree.{Tree}
use Rattle.model.specs.declared.Channel.{Channel}
use Rattle.folds.specs.Fold.{pick, sum}
use Rattle.model.specs.Tree.{waiting_of}
use Rattle.rules.specs.Rules.{tree_keeps}
use Rattle.text.specs.Text.{lines}
use Rattle.trace.specs.declared.Request.{Request}
use Rattle.lines.specs.Answer.{FileAnswer, Accepted, Refused, Broken}
use Rattle.trace.specs.TraceFile.{read_trace, requests}
use Rattle.runner.specs.Run.{Run, before_slot, start, run_for}
use Rattle.runner.specs.Slots.{standing, bytes_before}

unfoldable pub count_in : ℕ → List ℕ → ℕ
count_in a [] = 0
count_in a (b ∷ bs) = pick (eqb a b) 1 0 + count_in a bs

unfoldable pub first : ℕ → (ℕ → Bool) → ℕ
first zero f = 0
first (suc n) f = pick (ltb (first n f) n) (first n f) (pick (f n) n (suc n))

abbrev pub taken_by : Tree → Run → ℕ → ℕ → ℕ
taken_by t r a n = count_in a (bytes_before n t r) + waiting_of (before_slot t (standing n t r)).state a

abbrev pub admission_slot : Tree → Run → ℕ → ℕ → ℕ → ℕ
admission_slot t r m a k = first m (λ n. leb k (taken_by t r a n))

abbrev pub service_slot : Tree → Run → ℕ → ℕ → ℕ → ℕ
service_slot t r m a k = first m (λ n. leb k (count_in a (bytes_before (suc n) t r)))

pub record Waits : Type 0 where
  pub admission : ℕ
  pub service : ℕ
  pub count : ℕ

abbrev pub waits : ℕ → ℕ → ℕ → Waits
waits i o c = record { admission = i; service = o; count = c }

abbrev pub no_wait : Waits
no_wait = waits 0 0 0

abbrev pub waits_after : Tree → Run → ℕ → ℕ → ℕ → Waits
waits_after t r m a k =
    pick (eqb k 0) no_wait
    (waits (admission_slot t r m a k) (service_slot t r m a k) (count_in a (bytes_before m t r)))

abbrev pub least_of : ℕ → ℕ → Bool → ℕ
least_of i n b = pick (ltb i n) i (pick b n (n + 1))

abbrev pub served_in : Waits → ℕ → ℕ → ℕ
served_in w a b = pick (eqb a b) 1 0 + w.count

abbrev pub tell_on : Waits → ℕ → ℕ → ℕ → ℕ → ℕ → Waits
tell_on w k a n m b =
    pick (eqb k 0) w
    (waits (least_of w.admission n (leb k (served_in w a b + m)))
    (least_of w.service n (leb k (served_in w a b)))
    (served_in w a b))

abbrev pub used_by : Tree → Channel → List Request → ℕ → ℕ
used_by t c rs n = length (run_for t c rs n).bytes

abbrev pub asked_of : Tree → ℕ → ℕ → ℕ
asked_of t a k = pick (ltb a t.accs) k 0

abbrev pub wait_for : Tree → Channel → List Request → ℕ → ℕ → ℕ → Waits
wait_for t c rs a k n = waits_after t (start t c rs) (used_by t c rs n) a (asked_of t a k)

abbrev pub told_read : FileAnswer → Waits → Waits
told_read Accepted w = w
told_read (Refused r n) w = no_wait
told_read Broken w = no_wait

unfoldable pub told_of : Tree → Channel → List ℕ → ℕ → ℕ → ℕ → Waits
told_of t c s a k n =
    pick (not (tree_keeps t)) no_wait
    (pick (ltb 65536 n) no_wait
    (told_read (read_trace t s) (wait_for t c (requests (lines s)) a k n)))

unfoldable pub greatest : ℕ → (ℕ → ℕ) → ℕ
greatest zero f = 0
greatest (suc n) f = max (greatest n f) (f n)

abbrev pub served_by : Tree → Run → ℕ → ℕ → ℕ
served_by t r m a = count_in a (bytes_before m t r)

abbrev pub wait_length : Tree → Run → ℕ → ℕ → ℕ → ℕ
wait_length t r m a i = service_slot t r m a (suc i) + 1 - admission_slot t r m a (suc i)

abbrev pub longest_wait : Tree → Run → ℕ → ℕ → ℕ
longest_wait t r m a = greatest (served_by t r m a) (wait_length t r m a)

abbrev pub sum_of_waits : Tree → Run → ℕ → ℕ → ℕ
sum_of_waits t r m a = sum (served_by t r m a) (wait_length t r m a)
