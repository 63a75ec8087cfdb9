-- The text of numbers, lines and files: what the definitions of Text read back.
--
-- digits small k n    the digits of n, the most significant first, at most k of them: one if `small` says that n is below
--                     10, else those of n / 10 and then that of n % 10
-- decimal_text n       "Numbers are decimal, .. no sign, no leading zero except 0 itself": the digits of n as bytes, byte 48
--                     is 0
-- dash                the field "-"
-- field_text f         a field as it is written; no text is malformed, so nothing stands for that
-- numbers xs          the fields of the numbers xs
-- rows n k f          f k, f (k + 1) and on, n of them: fields or lines by number
-- fields_text fs       "fields are parted by one tab": the fields, each after a tab
-- line_text name fs    a line: its record name and its fields, each after a tab
-- file_text ls         "each line ends in LF": the lines, each with its LF
use Rattle.std.specs.Prelude.{ℕ, zero, suc, ◌+◌, ◌/◌, ◌%◌, Bool, true, false, List, [], ◌∷◌, ◌++◌, ltb}
use Rattle.text.specs.declared.Field.{Field}
use Rattle.text.specs.declared.Field.TheVariants.{Malformed, Dash, Number}

unfoldable pub digits : Bool → ℕ → ℕ → List ℕ
digits small zero n = []
digits true (suc k) n = (48 + n) ∷ []
digits false (suc k) n = digits (ltb (n / 10) 10) k (n / 10) ++ (48 + n % 10) ∷ []

unfoldable pub decimal_text : ℕ → List ℕ
decimal_text n = digits (ltb n 10) (suc n) n

abbrev pub dash : List ℕ
dash = 45 ∷ []

abbrev pub field_text : Field → List ℕ
field_text Malformed = []
field_text Dash = dash
field_text (Number x) = decimal_text x

unfoldable pub numbers : List ℕ → List (List ℕ)
numbers [] = []
numbers (x ∷ xs) = decimal_text x ∷ numbers xs

unfoldable pub rows : {A : Type 0} → ℕ → ℕ → (ℕ → A) → List A
rows zero k f = []
rows (suc n) k f = f k ∷ rows n (suc k) f

unfoldable pub fields_text : List (List ℕ) → List ℕ
fields_text [] = []
fields_text (f ∷ fs) = 9 ∷ (f ++ fields_text fs)

abbrev pub line_text : List ℕ → List (List ℕ) → List ℕ
line_text name fs = name ++ fields_text fs

unfoldable pub file_text : List (List ℕ) → List ℕ
file_text [] = []
file_text (l ∷ ls) = l ++ (10 ∷ file_text ls)
