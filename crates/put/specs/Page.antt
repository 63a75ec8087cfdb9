-- Texts made of words and lines, and what it means that a page which the caller lends has a text.
--
-- bytes s              the bytes of a word; "\t" is a tab and "\n" is LF
-- field x              a field and the tab after it: "parted by tabs"
-- ended x              the last field of a line and its LF: "each line ends in LF"
-- joined n f           f 0, f 1, .. f (n - 1), one after the other
-- laid xs d            the page d with the text xs from its start on, and past the text what d has there
-- Written xs d e n     the page d became e, with the text xs laid on it; n is the length of the text, which has room
use Rattle.std.specs.Prelude.{ℕ, zero, suc, ◌≤◌, List, [], ◌∷◌, ◌++◌, ◌≡◌, length, drop}
use Prim.Native.Char.{code}
use Prim.Native.String.{String, [] as none, ◌∷◌ as ◌then◌}

abbrev pub bytes : String → List ℕ
bytes none = []
bytes (c then s) = code c ∷ bytes s

abbrev pub field : List ℕ → List ℕ
field x = x ++ 9 ∷ []

abbrev pub ended : List ℕ → List ℕ
ended x = x ++ 10 ∷ []

unfoldable pub joined : ℕ → (ℕ → List ℕ) → List ℕ
joined zero f = []
joined (suc n) f = joined n f ++ f n

abbrev pub laid : List ℕ → List ℕ → List ℕ
laid xs d = xs ++ drop (length xs) d

pub record Written (xs d e : List ℕ) (n : ℕ) : Type 0 where
  pub page : e ≡ laid xs d
  pub bytes : n ≡ length xs
  pub room : n ≤ 65536
