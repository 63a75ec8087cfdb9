-- Lemma 9's recursion of source document 000, with D of document 01 at each interconnect and without the two further
-- minima: Y at the deepest interconnect is N × D, and at each one above it Y + (N + Y) × D, with Y from the one below.
--
-- upward t φ n y xs   Y at the last of the crossings xs, nearest first, where it is y below the first of them; φ a is how many of
--                     accelerator a may be outstanding
-- interferers t c n a Y at the root for n transactions of accelerator a on channel c
use Rattle.std.specs.Prelude.{ℕ, ◌+◌, ◌*◌, List, [], ◌∷◌}
use Rattle.model.specs.declared.Tree.{Tree}
use Rattle.model.specs.declared.Channel.{Channel}
use Rattle.model.specs.Tree.{Crossing, limit_of, home_of, home_port_of, above}
use Rattle.shares.specs.Shares.{others_at}

unfoldable pub upward : Tree → (ℕ → ℕ) → ℕ → ℕ → List Crossing → ℕ
upward t φ n y [] = y
upward t φ n y (x ∷ xs) = upward t φ n (y + (n + y) * others_at t φ x.interconnect x.port) xs

abbrev pub interferers : Tree → Channel → ℕ → ℕ → ℕ
interferers t c n a =
    upward t (limit_of t c) n (n * others_at t (limit_of t c) (home_of t a) (home_port_of t a)) (above 15 t (home_of t a))
