-- A line as it is written: test 1 said by writing and not by reading (document 01, "line of wrong shape: record name, field count,
-- malformed number").
--
-- may_stand d f         a field: a number of "1 to 10 digits"; "-" only where d allows it ("in any other field "-" is 1"); a malformed
--                      field never
-- WritesLine s k fs    "the bytes s write a line of record k with the fields fs": its name, and as many fields as the record may
--                      have, each after a tab, numbers in plain decimal
use Rattle.std.specs.Prelude.{ℕ, ◌≤◌, ◌<◌, Bool, true, false, List, map, ◌≡◌, ltb, length, get_or}
use Rattle.text.specs.declared.Field.{Field}
use Rattle.text.specs.declared.Field.TheVariants.{Malformed, Dash, Number}
use Rattle.text.specs.Write.{field_text, line_text}
use Rattle.lines.specs.declared.Kind.{Kind}
use Rattle.lines.specs.Lines.{name_of, form_of, is_record}

abbrev pub may_stand : Bool → Field → Bool
may_stand d Malformed = false
may_stand d Dash = d
may_stand d (Number x) = ltb x 10000000000

pub record WritesLine (s : List ℕ) (k : Kind) (fs : List Field) : Type 0 where
  pub name : is_record k ≡ true
  pub least : (form_of k).least ≤ length fs
  pub most : length fs ≤ (form_of k).count
  pub plain : (i : ℕ) → i < length fs → may_stand (get_or (form_of k).dashes i false) (get_or fs i Malformed) ≡ true
  pub text : s ≡ line_text (name_of k) (map field_text fs)
