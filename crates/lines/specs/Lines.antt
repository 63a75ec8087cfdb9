-- A line of a file: its record name, its fields, and the tests 1 and 2 of document 01 ("The tree on paper").
--
-- name_of k             "A line begins with one of the record names bus, int or acc"; in a trace it is o; "bus3 is a record name beside bus"
--                      (document 02, item 7)
-- kind_of name          the record of that name
-- bus_kind a            the record of a bus, bus3 where a is true: "bus3 .. means AXI3"
-- named k              a line of record k before its fields
-- push l f             line l with one field more; past the eleventh, fields are only counted
-- pushed l fs          line l with the fields fs
-- line_with k fs        the line of record k with the fields fs
-- line_from ps          the line of the parts ps, the record name first
-- line_of s             the line that the bytes s write
-- value_at l i          the number in field i of line l, counted from 0; 0 where the field is no number
-- dash_at l i           field i of line l is "-"
-- form_of k             the fields of record k: how many at least and at most, which may be "-" ("in any other field "-" is 1"),
--                      and their limits, in the order of the paper; "The bus line gains an optional last field"
-- no_dashes             no field may be "-"
-- plain_form m n x y    the form of a record that has no "-": m to n fields, with the limits x to y
-- bus_form n            the form of a bus line where B is at most n: 256 on a bus line; bus3 is a record "with its fields and its place",
--                      "there B is at most 16"
-- dash_kept f d i       field i is "-" only where it may be; dashes_kept k d: so are all fields of record k
-- is_record k           k is a record
-- shaped l             test 1: a record's name, as many fields as the record may have, none malformed, "-" only where it may stand
-- limit_kept f v i      field i is in its limits
-- limits_kept k v       test 2: the numbers v are in the limits of record k; a "-" and an absent field, held as 0, are in the
--                      limits of the fields where they may stand
-- in_tree k, in_trace k  record k may stand in a tree file, in a trace file
use Rattle.std.specs.Prelude.{ℕ, ◌+◌, Bool, true, false, ◌&&◌, ◌||◌, not, List, [], ◌∷◌, map, get_or, set, replicate}
use Rattle.text.specs.declared.Field.{Field}
use Rattle.text.specs.declared.Field.TheVariants.{Malformed, Dash, Number}
use Rattle.text.specs.Text.{fields, same, field_of}
use Rattle.folds.specs.Fold.{pick, all, within}
use Rattle.lines.specs.declared.Kind.{Kind}
use Rattle.lines.specs.declared.Kind.TheVariants.{NoRecord, BusLine, IntLine, AccLine, OfferLine, Bus3Line}
use Rattle.lines.specs.declared.Line.{Line}
use Rattle.lines.specs.declared.Form.{Form}

-- "bus", "int", "acc", "o", "bus3"
abbrev pub name_of : Kind → List ℕ
name_of NoRecord = []
name_of BusLine = 98 ∷ 117 ∷ 115 ∷ []
name_of IntLine = 105 ∷ 110 ∷ 116 ∷ []
name_of AccLine = 97 ∷ 99 ∷ 99 ∷ []
name_of OfferLine = 111 ∷ []
name_of Bus3Line = 98 ∷ 117 ∷ 115 ∷ 51 ∷ []

unfoldable pub kind_of : List ℕ → Kind
kind_of name =
    pick (same name (name_of BusLine)) BusLine
    (pick (same name (name_of IntLine)) IntLine
    (pick (same name (name_of AccLine)) AccLine
    (pick (same name (name_of OfferLine)) OfferLine
    (pick (same name (name_of Bus3Line)) Bus3Line
    NoRecord))))

abbrev pub bus_kind : Bool → Kind
bus_kind true = Bus3Line
bus_kind false = BusLine

abbrev pub named : Kind → Line
named k = record { kind = k; count = 0; malformed = false; dashes = replicate 11 false; values = replicate 11 0 }

abbrev pub push : Line → Field → Line
push l Malformed = record { kind = l.kind; count = l.count + 1; malformed = true; dashes = l.dashes; values = l.values }
push l Dash =
    record { kind = l.kind; count = l.count + 1; malformed = l.malformed; dashes = set l.dashes l.count true; values = l.values }
push l (Number x) =
    record { kind = l.kind; count = l.count + 1; malformed = l.malformed; dashes = l.dashes; values = set l.values l.count x }

unfoldable pub pushed : Line → List Field → Line
pushed l [] = l
pushed l (f ∷ fs) = pushed (push l f) fs

abbrev pub line_with : Kind → List Field → Line
line_with k fs = pushed (named k) fs

-- the first part of a line is the record name; a line has always a first part
abbrev pub line_from : List (List ℕ) → Line
line_from [] = named NoRecord
line_from (name ∷ fs) = line_with (kind_of name) (map field_of fs)

unfoldable pub line_of : List ℕ → Line
line_of s = line_from (fields s)

abbrev pub value_at : Line → ℕ → ℕ
value_at l i = get_or l.values i 0

abbrev pub dash_at : Line → ℕ → Bool
dash_at l i = get_or l.dashes i false

abbrev pub no_dashes : List Bool
no_dashes = replicate 11 false

abbrev pub plain_form : ℕ → ℕ → List ℕ → List ℕ → Form
plain_form least count lows highs = record { least = least; count = count; dashes = no_dashes; lows = lows; highs = highs }

-- bus, bus3: P, tA, dA, dD, dB, pR, pW, tD, tB, B, and the return delay r ("0 to 15 slots; absent means 0": it is then held as 0)
abbrev pub bus_form : ℕ → Form
bus_form beats =
    plain_form 10 11
    (1 ∷ 1 ∷ 0 ∷ 0 ∷ 0 ∷ 0 ∷ 0 ∷ 1 ∷ 1 ∷ 1 ∷ 0 ∷ [])
    (65535 ∷ 255 ∷ 255 ∷ 255 ∷ 255 ∷ 4095 ∷ 4095 ∷ 255 ∷ 255 ∷ beats ∷ 15 ∷ [])

-- int: number, parent, port on the parent, granularity g
-- acc: number, interconnect, port, phi, budget, Nr, Nw, C, T
-- o:   slot, accelerator ("no limit of its own": the greatest of ten digits), count
abbrev pub form_of : Kind → Form
form_of NoRecord = plain_form 0 0 (replicate 11 0) (replicate 11 0)
form_of BusLine = bus_form 256
form_of IntLine =
    record {
      least = 4;
      count = 4;
      dashes = false ∷ true ∷ true ∷ false ∷ false ∷ false ∷ false ∷ false ∷ false ∷ false ∷ false ∷ [];
      lows = 0 ∷ 0 ∷ 0 ∷ 1 ∷ 0 ∷ 0 ∷ 0 ∷ 0 ∷ 0 ∷ 0 ∷ 0 ∷ [];
      highs = 14 ∷ 14 ∷ 7 ∷ 16 ∷ 0 ∷ 0 ∷ 0 ∷ 0 ∷ 0 ∷ 0 ∷ 0 ∷ [];
    }
form_of AccLine =
    plain_form 9 9
    (0 ∷ 0 ∷ 0 ∷ 1 ∷ 1 ∷ 0 ∷ 0 ∷ 0 ∷ 1 ∷ 0 ∷ 0 ∷ [])
    (31 ∷ 14 ∷ 7 ∷ 16 ∷ 1024 ∷ 65535 ∷ 65535 ∷ 4294967295 ∷ 4294967295 ∷ 0 ∷ 0 ∷ [])
form_of OfferLine =
    plain_form 3 3
    (0 ∷ 0 ∷ 1 ∷ 0 ∷ 0 ∷ 0 ∷ 0 ∷ 0 ∷ 0 ∷ 0 ∷ 0 ∷ [])
    (4294967294 ∷ 9999999999 ∷ 16 ∷ 0 ∷ 0 ∷ 0 ∷ 0 ∷ 0 ∷ 0 ∷ 0 ∷ 0 ∷ [])
form_of Bus3Line = bus_form 16

abbrev pub dash_kept : Form → List Bool → ℕ → Bool
dash_kept f d i = get_or f.dashes i false || not (get_or d i false)

abbrev pub dashes_kept : Kind → List Bool → Bool
dashes_kept k d = all (form_of k).count (dash_kept (form_of k) d)

abbrev pub is_record : Kind → Bool
is_record NoRecord = false
is_record BusLine = true
is_record IntLine = true
is_record AccLine = true
is_record OfferLine = true
is_record Bus3Line = true

unfoldable pub shaped : Line → Bool
shaped l =
    is_record l.kind && within (form_of l.kind).least l.count (form_of l.kind).count && not l.malformed
    && dashes_kept l.kind l.dashes

abbrev pub limit_kept : Form → List ℕ → ℕ → Bool
limit_kept f v i = within (get_or f.lows i 0) (get_or v i 0) (get_or f.highs i 0)

abbrev pub limits_kept : Kind → List ℕ → Bool
limits_kept k v = all (form_of k).count (limit_kept (form_of k) v)

abbrev pub in_tree : Kind → Bool
in_tree NoRecord = false
in_tree BusLine = true
in_tree IntLine = true
in_tree AccLine = true
in_tree OfferLine = false
in_tree Bus3Line = true

abbrev pub in_trace : Kind → Bool
in_trace NoRecord = false
in_trace BusLine = false
in_trace IntLine = false
in_trace AccLine = false
in_trace OfferLine = true
in_trace Bus3Line = false
