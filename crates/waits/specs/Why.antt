-- "Why did my burst wait" (document 02, item 1).
--
-- entry t a b            "A slot takes two bytes": the accelerator b that was served, "then the interconnect or 255 for own"
-- entries t a bs         those of the bytes bs, in order
-- wait_bytes t r m a k   "each slot from that of its admission up to the one before its service, oldest first": their bytes
-- Why                    refused with a line, refused without one, or the count of all slots and the slot of admission
-- list_of t c rs a k     the list, of "The run .. that an output buffer of 65,536 bytes would give"
-- why_from t c rs a k    the answer for the lines rs: 7, "then 12 if the number is 0 or the run serves fewer of that accelerator"
-- list_over l d          the list l over the buffer d: "Where the buffer is short the oldest slots fill it, in whole pairs"
-- buffer_from t c rs a k d the buffer d then
-- why_read y x           x if the trace's reading answers y by accepting; buffer_read y x d: the buffer alike
-- why_of t c s a k n     the answer for the trace s and a buffer of n bytes: "after all checks of the runner 7, then 12"
-- why_buffer t c s a k d the buffer d then: "bytes past the list keep their contents", and a refusal leaves all
use Rattle.std.specs.Prelude.{ℕ, ◌*◌, ◌/◌, Bool, not, ◌||◌, List, [], ◌∷◌, ◌++◌, leb, ltb, eqb, length, take, drop}
use Rattle.model.specs.declared.Tree.{Tree}
use Rattle.model.specs.declared.Channel.{Channel}
use Rattle.folds.specs.Fold.{pick}
use Rattle.meeting.specs.Meeting.{meet_of}
use Rattle.model.specs.Answer.{number_of}
use Rattle.rules.specs.Rules.{tree_keeps}
use Rattle.text.specs.Text.{lines}
use Rattle.trace.specs.declared.Request.{Request}
use Rattle.lines.specs.Answer.{FileAnswer, Accepted, Refused, Broken}
use Rattle.trace.specs.TraceFile.{read_trace, requests}
use Rattle.runner.specs.Run.{Run, start}
use Rattle.runner.specs.Slots.{bytes_before}
use Rattle.runner.specs.Wait.{count_in, admission_slot, service_slot, used_by}

abbrev pub entry : Tree → ℕ → ℕ → List ℕ
entry t a b = b ∷ pick (eqb a b) 255 (meet_of t a b).interconnect ∷ []

unfoldable pub entries : Tree → ℕ → List ℕ → List ℕ
entries t a [] = []
entries t a (b ∷ bs) = entry t a b ++ entries t a bs

abbrev pub wait_bytes : Tree → Run → ℕ → ℕ → ℕ → List ℕ
wait_bytes t r m a k = drop (admission_slot t r m a k) (take (service_slot t r m a k) (bytes_before m t r))

pub data Why : Type 0 where
  refused_at : ℕ → ℕ → Why
  denied : ℕ → Why
  waited : ℕ → ℕ → Why

abbrev pub list_of : Tree → Channel → List Request → ℕ → ℕ → List ℕ
list_of t c rs a k = wait_bytes t (start t c rs) (used_by t c rs 65536) a k

abbrev pub fewer : Tree → Channel → List Request → ℕ → ℕ → Bool
fewer t c rs a k = eqb k 0 || ltb (count_in a (bytes_before (used_by t c rs 65536) t (start t c rs))) k

unfoldable pub why_from : Tree → Channel → List Request → ℕ → ℕ → Why
why_from t c rs a k =
    pick (leb t.accs a) (denied 7)
    (pick (fewer t c rs a k) (denied 12)
    (waited (length (list_of t c rs a k)) (admission_slot t (start t c rs) (used_by t c rs 65536) a k)))

abbrev pub list_over : List ℕ → List ℕ → List ℕ
list_over l d = take (length d / 2 * 2) l ++ drop (length (take (length d / 2 * 2) l)) d

unfoldable pub buffer_from : Tree → Channel → List Request → ℕ → ℕ → List ℕ → List ℕ
buffer_from t c rs a k d =
    pick (leb t.accs a) d
    (pick (fewer t c rs a k) d
    (list_over (entries t a (list_of t c rs a k)) d))

abbrev pub why_read : FileAnswer → Why → Why
why_read Accepted x = x
why_read (Refused r n) x = refused_at (number_of r) n
why_read Broken x = denied 11

abbrev pub buffer_read : FileAnswer → List ℕ → List ℕ → List ℕ
buffer_read Accepted x d = x
buffer_read (Refused r n) x d = d
buffer_read Broken x d = d

unfoldable pub why_of : Tree → Channel → List ℕ → ℕ → ℕ → ℕ → Why
why_of t c s a k n =
    pick (not (tree_keeps t)) (denied 11)
    (pick (ltb 65536 n) (refused_at 2 0)
    (why_read (read_trace t s) (why_from t c (requests (lines s)) a k)))

unfoldable pub why_buffer : Tree → Channel → List ℕ → ℕ → ℕ → List ℕ → List ℕ
why_buffer t c s a k d =
    pick (not (tree_keeps t)) d
    (pick (ltb 65536 (length d)) d
    (buffer_read (read_trace t s) (buffer_from t c (requests (lines s)) a k d) d))
