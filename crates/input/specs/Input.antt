-- What one read or write did.
--
-- answer_of r n        what a read or a write of n bytes did that the system answered by r: its error where it failed, else how many
--                      bytes it moved, at most n; a read that moves none is at the end of the file
use Rattle.std.specs.Prelude.{ℕ, min, Result, Ok, Err}

abbrev pub answer_of : {E : Type 0} → Result ℕ E → ℕ → Result ℕ E
answer_of (Ok k) n = Ok (min k n)
answer_of (Err e) n = Err e
