-- The text of a run: its slots and its end (document 01, "Turns", last paragraph).
--
-- served_text b         what a slot's byte says: "the accelerator's number or 255 for idle"
-- slot_text n b         the line of slot n, which the byte b tells
-- page_slots            how many lines are put on a page, which has room for that many whatever they say
-- slots_due n first     the lines of the page from slot `first` on, where n slots were used
-- slots_text bs first   that page: the lines of these slots, whose bytes are bs
-- end_text b n          the last line of a simulation: `done` or `stopped`, and "the number of slots used"
-- run_text bs b         the text of a run whose slots' bytes are bs, done if b: a line for each slot, and the last line
-- pages n              how many pages the run of n slots has
-- page_text bs i b      page i of it, from 0: the lines of its slots, and on the last page the last line
use Rattle.std.specs.Prelude.{ℕ, ◌+◌, ◌-◌, ◌*◌, ◌/◌, min, Bool, List, [], ◌++◌, eqb, length, get_or}
use Rattle.folds.specs.Fold.{pick}
use Rattle.text.specs.Write.{decimal_text}
use Rattle.put.specs.Page.{bytes, field, ended, joined}

abbrev pub served_text : ℕ → List ℕ
served_text b = pick (eqb b 255) (bytes "idle") (decimal_text b)

unfoldable pub slot_text : ℕ → ℕ → List ℕ
slot_text n b = field (decimal_text n) ++ ended (served_text b)

abbrev pub page_slots : ℕ
page_slots = 1024

abbrev pub slots_due : ℕ → ℕ → ℕ
slots_due n first = min page_slots (n - first)

unfoldable pub slots_text : List ℕ → ℕ → List ℕ
slots_text bs first = joined (slots_due (length bs) first) (λ i. slot_text (first + i) (get_or bs (first + i) 0))

unfoldable pub end_text : Bool → ℕ → List ℕ
end_text b n = field (pick b (bytes "done") (bytes "stopped")) ++ ended (decimal_text n)

abbrev pub run_text : List ℕ → Bool → List ℕ
run_text bs b = joined (length bs) (λ i. slot_text i (get_or bs i 0)) ++ end_text b (length bs)

abbrev pub pages : ℕ → ℕ
pages n = n / page_slots + 1

unfoldable pub page_text : List ℕ → ℕ → Bool → List ℕ
page_text bs i b = slots_text bs (page_slots * i) ++ pick (eqb i (length bs / page_slots)) (end_text b (length bs)) []
