-- The words that a refusal is told in: rows of two tables, numbers in a sentence, and bytes in quotes.
--
-- from_part sep k s     the bytes s from part k on, where parts end at sep and are counted from 0
-- part_at sep k s       part k of s: nothing past the last one
-- sentences             a sentence to a row, counted from 0; rows 1 to 12 tell the cause of that number in general, 35 to 38 that of 13 to 16
-- marked b x            the byte b of a sentence, or the number x where b is #
-- filled s x y          the sentence s with x in place of its first # and y in place of each later one
-- sentence j x y        row j of the sentences, with x and y in it
-- names                 the field names of bus, int, acc and o in the order of the paper, and then the record names; bus3 has the fields of bus
-- record_row k          the row of a record's name; first_field k: the row of its first field's name
-- field_row k i         the row of the name of field i of record k; past the eleventh field a row that is empty
-- record_name k         the name of record k
-- field_name k i        the names of record k and of its field i
-- printable b           the byte b, or ? where it is below 32 or above 126
-- quoted s              the first 20 bytes of s in quotes
-- record_says k j x y   sentence j, said of record k
-- field_says k i j x y  sentence j, said of field i of record k
use Rattle.std.specs.Prelude.{ℕ, zero, suc, ◌+◌, List, [], ◌∷◌, ◌++◌, map, ltb, eqb, take}
use Rattle.folds.specs.Fold.{pick, within}
use Rattle.text.specs.Text.{part_length}
use Rattle.text.specs.Write.{decimal_text}
use Rattle.put.specs.Page.{bytes}
use Rattle.lines.specs.declared.Kind.{Kind}
use Rattle.lines.specs.declared.Kind.TheVariants.{NoRecord, BusLine, IntLine, AccLine, OfferLine, Bus3Line}

unfoldable pub from_part : ℕ → ℕ → List ℕ → List ℕ
from_part sep k [] = []
from_part sep zero (b ∷ s) = b ∷ s
from_part sep (suc k) (b ∷ s) = from_part sep (pick (eqb b sep) k (suc k)) s

abbrev pub part_at : ℕ → ℕ → List ℕ → List ℕ
part_at sep k s = take (part_length sep (from_part sep k s)) (from_part sep k s)

abbrev pub sentences : List ℕ
sentences =
    -- 0
    bytes "no refusal has this number\n"
    -- 1 to 12: the cause of that number in general
    ++ bytes "wrong shape: record name, field count, malformed number or missing last LF\n"
    ++ bytes "a value is outside its limits, or a total is over its limit\n"
    ++ bytes "wrong order or numbering, an interconnect that no line before names, \"-\" against the root rule, or a missing record\n"
    ++ bytes "the port is already taken by a line before\n"
    ++ bytes "the level would be 5, and 4 is the highest\n"
    ++ bytes "the slot is smaller than in the line before\n"
    ++ bytes "the tree has no such accelerator\n"
    ++ bytes "phi transactions already outstanding\n"
    ++ bytes "budget of this window used\n"
    ++ bytes "slot count is 4294967295\n"
    ++ bytes "configuration or state breaks its rules\n"
    ++ bytes "0, or above what this run, of at most 65536 slots, serves of the accelerator\n"
    -- 13 to 17: a wrong shape, by the bytes of the line
    ++ bytes "a byte order mark stands before the record name\n"
    ++ bytes "a CR stands in the line, which ends in LF alone\n"
    ++ bytes "a space stands in the line, whose fields are parted by one tab\n"
    ++ bytes "the last line does not end in LF\n"
    ++ bytes "the line is empty\n"
    -- 18 to 23: a wrong shape, by record and fields; what was found stands before 18, 22 and 23, a record name before 21
    ++ bytes " is no record: a tree has bus or bus3, int and acc, a trace has o\n"
    ++ bytes "this is a line of a trace, in place of a tree\n"
    ++ bytes "this is a line of a tree, in place of a trace\n"
    ++ bytes " has # fields, and # were found\n"
    ++ bytes " is no number: decimal, 1 to 10 digits, no sign, no leading zero\n"
    ++ bytes " stands only for parent and port of int 0\n"
    -- 24 to 28: said of a field
    ++ bytes "the counts of accelerator # total more than 65535\n"
    ++ bytes "# of interconnect # is already taken by a line before\n"
    ++ bytes "below interconnect # the level would be 5, and 4 is the highest\n"
    ++ bytes "# is smaller than # in the line before\n"
    ++ bytes "the tree has no accelerator #\n"
    -- 29 to 31: said of a record; 32: of the end of a file
    ++ bytes ": wrong order: one bus or bus3 line comes first, and no other\n"
    ++ bytes " #: wrong order: int lines are 0, 1, 2 and on without a gap, after the bus or bus3 line and before the acc lines; "
    ++ bytes "parent and port are \"-\" on int 0 alone, and a parent is smaller than its child\n"
    ++ bytes " #: wrong order: acc lines come after the int lines, each number once, on an interconnect that an int line names\n"
    ++ bytes "the file ends too early: the bus or bus3 line, int 0, an acc line, or an acc number below the highest is missing\n"
    -- 33: the number 2 without a line
    ++ bytes "above 65536, the limit of a file's bytes and of SLOTS\n"
    -- 34: a wrong count of fields, said of a record whose last field may be left out
    ++ bytes " has # fields, or one more for the return delay, and # were found\n"
    -- 35 to 38: the cause of number 13 to 16 in general
    ++ bytes "the lent buffer is shorter than the text of the tree\n"
    ++ bytes "the accelerator has no transactions on this channel\n"
    ++ bytes "a burst has 1 to 256 beats, 1 to 16 where the tree begins with bus3, and a beat has 1, 2, 4, 8, 16, 32, 64 or 128 bytes\n"
    ++ bytes "the burst crosses a multiple of 4096\n"

-- # is byte 35
abbrev pub marked : ℕ → ℕ → List ℕ
marked b x = pick (eqb b 35) (decimal_text x) (b ∷ [])

unfoldable pub filled : List ℕ → ℕ → ℕ → List ℕ
filled [] x y = []
filled (b ∷ s) x y = marked b x ++ filled s (pick (eqb b 35) y x) y

unfoldable pub sentence : ℕ → ℕ → ℕ → List ℕ
sentence j x y = filled (part_at 10 j sentences) x y

abbrev pub names : List ℕ
names =
    bytes "P\ntA\ndA\ndD\ndB\npR\npW\ntD\ntB\nB\nr\n"
    ++ bytes "number\nparent\nport\ng\n"
    ++ bytes "number\ninterconnect\nport\nphi\nbudget\nNr\nNw\nC\nT\n"
    ++ bytes "slot\naccelerator\ncount\n"
    ++ bytes "bus\nint\nacc\no\nbus3\n"

abbrev pub record_row : Kind → ℕ
record_row NoRecord = 32
record_row BusLine = 27
record_row IntLine = 28
record_row AccLine = 29
record_row OfferLine = 30
record_row Bus3Line = 31

abbrev pub first_field : Kind → ℕ
first_field NoRecord = 32
first_field BusLine = 0
first_field IntLine = 11
first_field AccLine = 15
first_field OfferLine = 24
first_field Bus3Line = 0

abbrev pub field_row : Kind → ℕ → ℕ
field_row k i = pick (ltb i 11) (first_field k + i) 32

abbrev pub record_name : Kind → List ℕ
record_name k = part_at 10 (record_row k) names

abbrev pub field_name : Kind → ℕ → List ℕ
field_name k i = record_name k ++ bytes ", field " ++ part_at 10 (field_row k i) names ++ bytes ": "

-- ? is byte 63
abbrev pub printable : ℕ → ℕ
printable b = pick (within 32 b 126) b 63

abbrev pub quoted : List ℕ → List ℕ
quoted s = bytes "\"" ++ map printable (take 20 s) ++ bytes "\""

abbrev pub record_says : Kind → ℕ → ℕ → ℕ → List ℕ
record_says k j x y = record_name k ++ sentence j x y

abbrev pub field_says : Kind → ℕ → ℕ → ℕ → ℕ → List ℕ
field_says k i j x y = field_name k i ++ sentence j x y
