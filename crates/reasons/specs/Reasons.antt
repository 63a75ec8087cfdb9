-- A refusal in words: the line, the record and the field by their names in document 01, what was found, and what is wanted. For a
-- wrong shape, what is most likely wrong (the causes of "What is refused"). The limits are those of `form_of`, which the readers
-- test by. Where the bytes do not show the cause, as with a number that does not fit them, it is told in general.
--
-- has b l               the byte b stands in l
-- fits t k              record k may stand in a tree or, if t, in a trace
-- record_fault t r      which sentence tells a wrong shape of the line r, by its record and fields
-- shape_row t n e l     which sentence tells a wrong shape of the bytes l of line n, in a tree or, if t, in a trace; e says that LF
--                       ends the line
-- first_failing i k f   the first number from i on, of k, of which the test f does not hold; i + k if it holds of all
-- field_bytes b i       field i of the line whose bytes are b: the record name stands before field 0
-- readable f b i        field i of the line b is a number, or is "-" where the form f has it
-- unread k b            the first field of the line b of record k that is not readable; the count of its fields if each is
-- not_number f          which sentence tells that the field f may not stand
-- unread_text k i x     field i of record k, whose bytes are x, may not stand
-- malformed_text k b    the line b of record k has a field that may not stand
-- count_text k c        the line of record k has c fields, which is not the count that it may have
-- fault_text j k c b    sentence j of a wrong shape, of the line b, which has record k and c fields
-- outside k v           the first of the fields v of record k that is outside its limits; the count of its fields if none is
-- range_text x low high x and the limits that it breaks
-- limit_text k i x low high   field i of record k is x, outside its limits
-- field_text k v i      field i of the fields v of record k is outside its limits
-- total_text k v        a total over its limit; only an o line has one
-- value_text k v        a refusal by 2 of the line with the fields v of record k: a field outside its limits, or else a total
-- on_port k, is_int k   record k takes a port; record k is an int line
-- order_row k           which sentence tells what is wanted of the order of record k
-- number_row n          which sentence tells a refusal by number n in general: 1 to 12 stand at their numbers, 13 to 16 from 35 on
-- line_says n q k v     a refusal by number n, from 2 on, of the line with the fields v of record k; q is the slot of the line before
-- found_text t n l q e b  a refusal by number n of line l, whose bytes are b, in a tree or, if t, in a trace; e says that LF ends it
-- from_line s n         the file s from line n on, counted from 1
-- slot_before s l       the slot of the line before line l
-- cause_text t s n l    a refusal of the file s by number n at line l
-- place_text l          the line that is refused; nothing for line 0
-- reason_text t s n l   the refusal of the file s by number n at line l, in words for a person
use Rattle.std.specs.Prelude.{ℕ, zero, suc, ◌+◌, ◌-◌, Bool, true, false, ◌&&◌, not, List, [], ◌++◌, ltb, eqb, length, get_or, take}
use Rattle.folds.specs.Fold.{pick, within}
use Rattle.text.specs.declared.Field.{Field}
use Rattle.text.specs.declared.Field.TheVariants.{Malformed, Dash, Number}
use Rattle.text.specs.Text.{part_length, field_of}
use Rattle.text.specs.Write.{decimal_text}
use Rattle.put.specs.Page.{bytes, ended}
use Rattle.lines.specs.declared.Kind.{Kind}
use Rattle.lines.specs.declared.Kind.TheVariants.{NoRecord, BusLine, IntLine, AccLine, OfferLine, Bus3Line}
use Rattle.lines.specs.declared.Line.{Line}
use Rattle.lines.specs.declared.Form.{Form}
use Rattle.lines.specs.Lines.{line_of, form_of, limit_kept, value_at, in_tree, in_trace, is_record}
use Rattle.lines.specs.LineText.{may_stand}
use Rattle.reasons.specs.Words.{from_part, part_at, sentence, field_name, quoted, record_says, field_says}

abbrev pub has : ℕ → List ℕ → Bool
has b l = ltb (part_length b l) (length l)

abbrev pub fits : Bool → Kind → Bool
fits t k = pick t (in_trace k) (in_tree k)

unfoldable pub record_fault : Bool → Line → ℕ
record_fault t r =
    pick (not (is_record r.kind)) 18
    (pick (not (fits t r.kind)) (pick t 20 19)
    (pick (within (form_of r.kind).least r.count (form_of r.kind).count) 22
    21))

-- byte 239 begins a byte order mark
unfoldable pub shape_row : Bool → ℕ → Bool → List ℕ → ℕ
shape_row t n e l =
    pick (eqb n 1 && eqb (get_or l 0 0) 239) 13
    (pick (has 13 l) 14
    (pick (has 32 l) 15
    (pick (not e) 16
    (pick (eqb (length l) 0) 17
    (record_fault t (line_of l))))))

unfoldable pub first_failing : ℕ → ℕ → (ℕ → Bool) → ℕ
first_failing i zero f = i
first_failing i (suc k) f = pick (f i) (first_failing (suc i) k f) i

abbrev pub field_bytes : List ℕ → ℕ → List ℕ
field_bytes b i = part_at 9 (i + 1) b

abbrev pub readable : Form → List ℕ → ℕ → Bool
readable f b i = may_stand (get_or f.dashes i false) (field_of (field_bytes b i))

abbrev pub unread : Kind → List ℕ → ℕ
unread k b = first_failing 0 (form_of k).count (readable (form_of k) b)

abbrev pub not_number : Field → ℕ
not_number Malformed = 22
not_number Dash = 23
not_number (Number x) = 22

abbrev pub unread_text : Kind → ℕ → List ℕ → List ℕ
unread_text k i x = field_name k i ++ quoted x ++ sentence (not_number (field_of x)) 0 0

unfoldable pub malformed_text : Kind → List ℕ → List ℕ
malformed_text k b = pick (ltb (unread k b) (form_of k).count) (unread_text k (unread k b) (field_bytes b (unread k b))) (sentence 1 0 0)

-- a record whose last field may be left out has another sentence
abbrev pub count_text : Kind → ℕ → List ℕ
count_text k c =
    pick (eqb (form_of k).least (form_of k).count) (record_says k 21 (form_of k).count c) (record_says k 34 (form_of k).least c)

-- the name that no record has, both counts, or the field
unfoldable pub fault_text : ℕ → Kind → ℕ → List ℕ → List ℕ
fault_text j k c b =
    pick (eqb j 18) (quoted (part_at 9 0 b) ++ sentence 18 0 0)
    (pick (eqb j 21) (count_text k c)
    (pick (eqb j 22) (malformed_text k b)
    (sentence j 0 0)))

abbrev pub outside : Kind → List ℕ → ℕ
outside k v = first_failing 0 (form_of k).count (limit_kept (form_of k) v)

abbrev pub range_text : ℕ → ℕ → ℕ → List ℕ
range_text x low high = decimal_text x ++ bytes " is not within " ++ decimal_text low ++ bytes " to " ++ decimal_text high

abbrev pub limit_text : Kind → ℕ → ℕ → ℕ → ℕ → List ℕ
limit_text k i x low high = field_name k i ++ range_text x low high

-- test 2 by field, or by total where all fields are in their limits
abbrev pub field_text : Kind → List ℕ → ℕ → List ℕ
field_text k v i = limit_text k i (get_or v i 0) (get_or (form_of k).lows i 0) (get_or (form_of k).highs i 0)

-- o: slot, accelerator, count
abbrev pub total_text : Kind → List ℕ → List ℕ
total_text k v = pick (in_trace k) (field_says k 2 24 (get_or v 1 0) 0) (sentence 2 0 0)

unfoldable pub value_text : Kind → List ℕ → List ℕ
value_text k v = pick (ltb (outside k v) (form_of k).count) (field_text k v (outside k v)) (total_text k v)

abbrev pub on_port : Kind → Bool
on_port NoRecord = false
on_port BusLine = false
on_port IntLine = true
on_port AccLine = true
on_port OfferLine = false
on_port Bus3Line = false

abbrev pub is_int : Kind → Bool
is_int NoRecord = false
is_int BusLine = false
is_int IntLine = true
is_int AccLine = false
is_int OfferLine = false
is_int Bus3Line = false

abbrev pub order_row : Kind → ℕ
order_row NoRecord = 3
order_row BusLine = 29
order_row IntLine = 30
order_row AccLine = 31
order_row OfferLine = 3
order_row Bus3Line = 29

abbrev pub number_row : ℕ → ℕ
number_row n = pick (ltb 16 n) 0 (pick (ltb 12 n) (22 + n) n)

-- int: number, parent, port; acc: number, interconnect, port; o: slot, accelerator
unfoldable pub line_says : ℕ → ℕ → Kind → List ℕ → List ℕ
line_says n q k v =
    pick (eqb n 2) (value_text k v)
    (pick (eqb n 3 && in_tree k) (record_says k (order_row k) (get_or v 0 0) 0)
    (pick (eqb n 4 && on_port k) (field_says k 2 25 (get_or v 2 0) (get_or v 1 0))
    (pick (eqb n 5 && is_int k) (field_says k 1 26 (get_or v 1 0) 0)
    (pick (eqb n 6 && in_trace k) (field_says k 0 27 (get_or v 0 0) q)
    (pick (eqb n 7 && in_trace k) (field_says k 1 28 (get_or v 1 0) 0)
    (sentence (number_row n) 0 0))))))

-- line 0 is no line; where neither a byte nor LF stands, the file has ended before line l
unfoldable pub found_text : Bool → ℕ → ℕ → ℕ → Bool → List ℕ → List ℕ
found_text t n l q e b =
    pick (eqb l 0) (sentence (pick (eqb n 2) 33 (number_row n)) 0 0)
    (pick (eqb n 1) (fault_text (shape_row t l e b) (line_of b).kind (line_of b).count b)
    (pick (eqb n 3 && not e && eqb (length b) 0) (sentence 32 0 0)
    (line_says n q (line_of b).kind (line_of b).values)))

abbrev pub from_line : List ℕ → ℕ → List ℕ
from_line s n = from_part 10 (n - 1) s

abbrev pub slot_before : List ℕ → ℕ → ℕ
slot_before s l = value_at (line_of (part_at 10 (l - 2) s)) 0

abbrev pub cause_text : Bool → List ℕ → ℕ → ℕ → List ℕ
cause_text t s n l = found_text t n l (slot_before s l) (has 10 (from_line s l)) (take (part_length 10 (from_line s l)) (from_line s l))

abbrev pub place_text : ℕ → List ℕ
place_text l = pick (eqb l 0) [] (bytes "line " ++ decimal_text l ++ bytes ": ")

unfoldable pub reason_text : Bool → List ℕ → ℕ → ℕ → List ℕ
reason_text t s n l = place_text l ++ ended (cause_text t s n l)
