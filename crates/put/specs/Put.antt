-- What a function that writes into a lent buffer ensures.
--
-- Put m d at xs e next   the text xs, at most m bytes, was stored from `at` on as far as the buffer d goes, which became e;
--                        `next` is where the next byte goes
use Rattle.std.specs.Prelude.{ℕ, ◌+◌, ◌-◌, ◌≤◌, min, ◌≡◌, List, length}
use Rattle.std.proofs.lemmas.List.Edits.{sets}

pub record Put (m : ℕ) (d : List ℕ) (at : ℕ) (xs e : List ℕ) (next : ℕ) : Type 0 where
  pub stored : e ≡ sets d at xs
  pub ends : next ≡ at + min (length xs) (length d - at)
  pub short : length xs ≤ m
