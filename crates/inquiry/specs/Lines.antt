-- The text of what `why` answers: a line for each slot listed, oldest first, and the count of all; or a refusal's one line.
--
-- met_text b            what the second byte of a slot says: the interconnect, or `own` for 255
-- line_text n b m       the line of slot n, in which b was served; m is the second byte
-- pair_line from ps i   the line of the slot i after `from`, of the list ps, which has two bytes for each slot
-- page_lines            how many lines are put on a page, which has room for that many whatever they say
-- lines_text from ps i  the lines of page i
-- count_text n          the last line: `waited`, and the count n of all slots
-- wait_text from n ps   the text: the lines of the list ps, and the last line
-- wait_page from n ps i page i of it, from 0: its lines, and on the last page the last line
-- listed n bs           the list of n slots, as far as the buffer bs holds it
-- reply_text r bs       what is printed of the reply r and the buffer bs; pages_of r bs: the pages it is given in; reply_page r bs i:
--                       page i of it, from 0
use Rattle.std.specs.Prelude.{ℕ, Ok, Err, ◌+◌, ◌-◌, ◌*◌, ◌/◌, min, List, [], ◌++◌, eqb, length, get_or, take}
use Rattle.folds.specs.Fold.{pick}
use Rattle.text.specs.Write.{decimal_text}
use Rattle.put.specs.Page.{bytes, field, ended, joined}
use Rattle.listing.specs.Listing.{refusal_text}
use Rattle.inquiry.specs.Inquiry.{Reply}

abbrev pub met_text : ℕ → List ℕ
met_text b = pick (eqb b 255) (bytes "own") (decimal_text b)

unfoldable pub line_text : ℕ → ℕ → ℕ → List ℕ
line_text n b m = field (decimal_text n) ++ (field (decimal_text b) ++ ended (met_text m))

abbrev pub pair_line : ℕ → List ℕ → ℕ → List ℕ
pair_line from ps i = line_text (from + i) (get_or ps (2 * i) 0) (get_or ps (2 * i + 1) 0)

abbrev pub page_lines : ℕ
page_lines = 1024

unfoldable pub lines_text : ℕ → List ℕ → ℕ → List ℕ
lines_text from ps i = joined (min page_lines (length ps / 2 - page_lines * i)) (λ j. pair_line from ps (page_lines * i + j))

unfoldable pub count_text : ℕ → List ℕ
count_text n = field (bytes "waited") ++ ended (decimal_text n)

abbrev pub wait_text : ℕ → ℕ → List ℕ → List ℕ
wait_text from n ps = joined (length ps / 2) (pair_line from ps) ++ count_text n

unfoldable pub wait_page : ℕ → ℕ → List ℕ → ℕ → List ℕ
wait_page from n ps i = lines_text from ps i ++ pick (eqb i (length ps / 2 / page_lines)) (count_text n) []

abbrev pub listed : ℕ → List ℕ → List ℕ
listed n bs = take (2 * n) bs

abbrev pub reply_text : Reply → List ℕ → List ℕ
reply_text (Err e) bs = refusal_text e.number e.line
reply_text (Ok w) bs = wait_text w.admission w.count (listed w.count bs)

abbrev pub pages_of : Reply → List ℕ → ℕ
pages_of (Err e) bs = 1
pages_of (Ok w) bs = length (listed w.count bs) / 2 / page_lines + 1

abbrev pub reply_page : Reply → List ℕ → ℕ → List ℕ
reply_page (Err e) bs i = refusal_text e.number e.line
reply_page (Ok w) bs i = wait_page w.admission w.count (listed w.count bs) i
