-- The store: one block of 16,384 numbers of 64 bits, in parts that begin at fixed places.
--
-- place_of p i         where number i of the part that begins at p stands; a place past the end goes round
-- number_at d p i      the number there
-- stored d p i x      the store with x there, and every other number as it was
-- added d p i x       the store with x added there; a sum goes round at 2 to the 64th power
-- cleared d p n       the store with the numbers 0 to n - 1 of the part set to 0
-- noted d p i same    the store with one counted there, unless two answers are the same
use Rattle.std.specs.Prelude.{ℕ, zero, suc, ◌+◌, ◌%◌, ◌^◌, Bool, List, slice_index, slice_set}
use Rattle.folds.specs.Fold.{pick}

unfoldable pub place_of : ℕ → ℕ → ℕ
place_of p i = (p + i) % 2 ^ 64 % 16384

abbrev pub number_at : List ℕ → ℕ → ℕ → ℕ
number_at d p i = slice_index d (place_of p i)

abbrev pub stored : List ℕ → ℕ → ℕ → ℕ → List ℕ
stored d p i x = slice_set d (place_of p i) x

abbrev pub added : List ℕ → ℕ → ℕ → ℕ → List ℕ
added d p i x = stored d p i ((number_at d p i + x) % 2 ^ 64)

unfoldable pub cleared : List ℕ → ℕ → ℕ → List ℕ
cleared d p zero = d
cleared d p (suc n) = stored (cleared d p n) p n 0

abbrev pub noted : List ℕ → ℕ → ℕ → Bool → List ℕ
noted d p i same = pick same d (added d p i 1)
