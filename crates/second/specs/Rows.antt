-- The tree that `second` keeps in the store: a row of eleven numbers for each line of its file.
--
-- cell_of d r c         the number in column c of row r
-- rows_of d             how many rows there are; ints_of d, accs_of d: how many of them are int lines, acc lines
-- is_older d            the first line is named bus3
-- int_row i             the row of interconnect i: int lines come right after the bus line, in order
-- acc_row d a           the row of accelerator a
-- is_on d i p r         row r is there, after the bus line, and its block is on port p of interconnect i
-- block_of d r          the block of row r as a port carries it: an accelerator's number, or 32 + an interconnect's
-- carried_below n d i p what port p of interconnect i carries by the rows below n, the last of them if several say so
-- carried_of d i p      what it carries: by all rows; 255 is nothing
use Rattle.std.specs.Prelude.{ℕ, zero, suc, ◌+◌, ◌*◌, ◌%◌, ◌^◌, Bool, ◌&&◌, List, ◌==◌, nat_le, nat_lt}
use Rattle.folds.specs.Fold.{pick}
use Rattle.store.specs.Store.{number_at}

abbrev pub cell_of : List ℕ → ℕ → ℕ → ℕ
cell_of d r c = number_at d (r % 48 * 11) c

abbrev pub rows_of : List ℕ → ℕ
rows_of d = number_at d 528 0

abbrev pub ints_of : List ℕ → ℕ
ints_of d = number_at d 529 0

abbrev pub accs_of : List ℕ → ℕ
accs_of d = number_at d 530 0

abbrev pub is_older : List ℕ → Bool
is_older d = number_at d 532 0 == 1

abbrev pub int_row : ℕ → ℕ
int_row i = (i + 1) % 2 ^ 64

abbrev pub acc_row : List ℕ → ℕ → ℕ
acc_row d a = number_at d 560 (a % 32)

unfoldable pub is_on : List ℕ → ℕ → ℕ → ℕ → Bool
is_on d i p r = nat_lt r (rows_of d) && (nat_lt 0 r && cell_of d r 1 == i && cell_of d r 2 == p)

unfoldable pub block_of : List ℕ → ℕ → ℕ
block_of d r = pick (nat_le r (ints_of d)) ((cell_of d r 0 + 32) % 2 ^ 64) (cell_of d r 0)

unfoldable pub carried_below : ℕ → List ℕ → ℕ → ℕ → ℕ
carried_below zero d i p = 255
carried_below (suc r) d i p = pick (is_on d i p r) (block_of d r) (carried_below r d i p)

abbrev pub carried_of : List ℕ → ℕ → ℕ → ℕ
carried_of d i p = carried_below 48 d i p
