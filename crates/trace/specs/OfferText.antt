-- A line of a trace as the code reads it: field by field in the bytes of the file.
--
-- number_in f next      a field f that says a number, and the place after it
-- number_at s at sep    the number in the field that begins at a place of the bytes and that the byte `sep` ends, and the place
--                      after that byte
-- text_of x y z next    the numbers x, y and z, and the place after the LF
-- shaped_text l next    the numbers of line l, where it is an o line that passes test 1, and the place after its LF
-- offer_text s at       the same of the line that begins at a place, where it has its LF
-- offer_of x y z        the o line of slot x, accelerator y and count z
use Rattle.std.specs.Prelude.{ℕ, Option, Some, None, ◌+◌, false, ◌&&◌, List, [], ◌∷◌, length, get_or, take, drop, leb, eqb}
use Rattle.text.specs.declared.Field.{Field}
use Rattle.text.specs.declared.Field.TheVariants.{Malformed, Dash, Number}
use Rattle.text.specs.Text.{part_length, field_length, line_at, field_of}
use Rattle.folds.specs.Fold.{pick}
use Rattle.lines.specs.declared.Kind.TheVariants.{OfferLine}
use Rattle.lines.specs.declared.Line.{Line}
use Rattle.lines.specs.Lines.{line_of, value_at, shaped, no_dashes, in_trace}
use Rattle.trace.specs.declared.OfferText.{OfferText}

abbrev pub number_in : Field → ℕ → Option (ℕ × ℕ)
number_in Malformed next = None
number_in Dash next = None
number_in (Number x) next = Some (x, next)

unfoldable pub number_at : List ℕ → ℕ → ℕ → Option (ℕ × ℕ)
number_at s at sep =
    pick (leb (length s) (at + field_length (drop at s))) None
    (pick (eqb (get_or s (at + field_length (drop at s)) 0) sep)
    (number_in (field_of (take (field_length (drop at s)) (drop at s))) (at + field_length (drop at s) + 1))
    None)

abbrev pub text_of : ℕ → ℕ → ℕ → ℕ → OfferText
text_of x y z next = record { slot = x; accelerator = y; count = z; next = next }

abbrev pub shaped_text : Line → ℕ → Option OfferText
shaped_text l next = pick (in_trace l.kind && shaped l) (Some (text_of (value_at l 0) (value_at l 1) (value_at l 2) next)) None

unfoldable pub offer_text : List ℕ → ℕ → Option OfferText
offer_text s at =
    pick (leb (length s) (at + part_length 10 (drop at s))) None
    (shaped_text (line_of (line_at s at)) (at + part_length 10 (drop at s) + 1))

abbrev pub offer_of : ℕ → ℕ → ℕ → Line
offer_of x y z =
    record {
      kind = OfferLine;
      count = 3;
      malformed = false;
      dashes = no_dashes;
      values = x ∷ y ∷ z ∷ 0 ∷ 0 ∷ 0 ∷ 0 ∷ 0 ∷ 0 ∷ 0 ∷ 0 ∷ [];
    }
