-- Parts of a byte string, lines, fields and decimal numbers (document 01, "The tree on paper").
--
-- behind b ps         the parts ps with b in front of the first one
-- parts sep s         the parts of s between separators: always one part more than there are separators
-- part_length sep s    how many bytes stand before the first separator of s; all of s where it has none
-- field_length s       how many bytes stand before the first tab or LF of s; all of s where it has neither
-- but_last ps          the parts but the last; final ps: the last part
-- lines s             "each line ends in LF": the lines of s, without their LF
-- unended s           what stands after the last LF: nothing, unless the last LF is missing
-- fields l            "fields are parted by one tab, and each field is read as the part of the line between two tabs"
-- line_at s at         what stands in s from a place to the next LF
-- same a b            the byte strings a and b are equal
-- is_digit b           the byte b is a decimal digit
-- all_digits s         every byte of s is a decimal digit
-- decimal s           the number that the digits s write
-- leading_zero s       s begins with 0 and is not 0 itself
-- digits_of s          the number that s writes, where it is digits alone
-- field_of s           what a field says: "-", or a number ("Numbers are decimal, 1 to 10 digits, no sign, no leading zero
--                     except 0 itself"), or it is malformed
use Rattle.std.specs.Prelude.{ℕ, suc, ◌+◌, ◌-◌, ◌*◌, ◌^◌, Bool, true, false, ◌&&◌, not, List, [], ◌∷◌, length, get_or, take, drop, leb, ltb, eqb}
use Rattle.folds.specs.Fold.{pick}
use Rattle.text.specs.declared.Field.{Field}
use Rattle.text.specs.declared.Field.TheVariants.{Malformed, Dash, Number}

-- b in front of the first part
abbrev pub behind : ℕ → List (List ℕ) → List (List ℕ)
behind b [] = (b ∷ []) ∷ []
behind b (p ∷ ps) = (b ∷ p) ∷ ps

unfoldable pub parts : ℕ → List ℕ → List (List ℕ)
parts sep [] = [] ∷ []
parts sep (b ∷ s) = pick (eqb b sep) ([] ∷ parts sep s) (behind b (parts sep s))

unfoldable pub part_length : ℕ → List ℕ → ℕ
part_length sep [] = 0
part_length sep (b ∷ s) = pick (eqb b sep) 0 (suc (part_length sep s))

unfoldable pub field_length : List ℕ → ℕ
field_length [] = 0
field_length (b ∷ s) = pick (eqb b 9) 0 (pick (eqb b 10) 0 (suc (field_length s)))

unfoldable pub but_last : List (List ℕ) → List (List ℕ)
but_last [] = []
but_last (p ∷ []) = []
but_last (p ∷ (q ∷ ps)) = p ∷ but_last (q ∷ ps)

unfoldable pub final : List (List ℕ) → List ℕ
final [] = []
final (p ∷ []) = p
final (p ∷ (q ∷ ps)) = final (q ∷ ps)

abbrev pub lines : List ℕ → List (List ℕ)
lines s = but_last (parts 10 s)

abbrev pub unended : List ℕ → List ℕ
unended s = final (parts 10 s)

abbrev pub fields : List ℕ → List (List ℕ)
fields l = parts 9 l

abbrev pub line_at : List ℕ → ℕ → List ℕ
line_at s at = take (part_length 10 (drop at s)) (drop at s)

unfoldable pub same : List ℕ → List ℕ → Bool
same [] [] = true
same [] (y ∷ b) = false
same (x ∷ a) [] = false
same (x ∷ a) (y ∷ b) = eqb x y && same a b

abbrev pub is_digit : ℕ → Bool
is_digit b = leb 48 b && leb b 57

unfoldable pub all_digits : List ℕ → Bool
all_digits [] = true
all_digits (b ∷ s) = is_digit b && all_digits s

unfoldable pub decimal : List ℕ → ℕ
decimal [] = 0
decimal (b ∷ s) = (b - 48) * 10 ^ length s + decimal s

abbrev pub leading_zero : List ℕ → Bool
leading_zero s = eqb (get_or s 0 0) 48 && not (eqb (length s) 1)

abbrev pub digits_of : List ℕ → Field
digits_of s = pick (all_digits s) (Number (decimal s)) Malformed

-- "-" is byte 45
unfoldable pub field_of : List ℕ → Field
field_of s =
    pick (same s (45 ∷ [])) Dash
    (pick (ltb (length s) 1) Malformed
    (pick (ltb 10 (length s)) Malformed
    (pick (leading_zero s) Malformed
    (digits_of s))))
