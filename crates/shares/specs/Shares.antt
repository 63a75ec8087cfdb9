-- Capacity, D and share of document 01, "Bounds", sentence by sentence; "Capacity, D and share are thus given for each channel"
-- (document 02, item 5). φ a is how many transactions of accelerator a may be outstanding: on channel c it is `limit_of t c a`, which is 0
-- where "a job has 0 transactions".
--
-- capacity_of t φ j p         the capacity of port p of interconnect j: "0 if empty, phi for an accelerator, for an
--                            interconnect the sum over everything beneath it, down to the accelerators"
-- counted t φ j p q          what port q of interconnect j counts for in D at port p: nothing if it is port p itself,
--                            else "the smaller of g and the capacity"
-- others_at t φ j p           "D at an interconnect on an accelerator's path is the sum, over its other ports, .."
-- share_along t φ xs          "the product of (1 + D) along" the crossings xs
-- share_of t c a              on channel c: "The share is the product of (1 + D) along the path"
-- share_within n t c a        the same product along the first crossing of the path and at most n above it: with n = 3 the
--                            share, if the configuration keeps its rules (`share_within_lem`), and 64 bits hold it on any other
use Rattle.std.specs.Prelude.{ℕ, ◌+◌, ◌*◌, min, List, [], ◌∷◌, eqb}
use Rattle.model.specs.declared.Tree.{Tree}
use Rattle.model.specs.declared.Channel.{Channel}
use Rattle.folds.specs.Fold.{pick, sum}
use Rattle.model.specs.Tree.{Crossing, granularity_of, limit_of, home_of, home_port_of, above, path}
use Rattle.model.specs.Beneath.{weight_under}

abbrev pub capacity_of : Tree → (ℕ → ℕ) → ℕ → ℕ → ℕ
capacity_of t φ j p = weight_under t φ j p

abbrev pub counted : Tree → (ℕ → ℕ) → ℕ → ℕ → ℕ → ℕ
counted t φ j p q = pick (eqb q p) 0 (min (granularity_of t j) (capacity_of t φ j q))

unfoldable pub others_at : Tree → (ℕ → ℕ) → ℕ → ℕ → ℕ
others_at t φ j p = sum 8 (counted t φ j p)

unfoldable pub share_along : Tree → (ℕ → ℕ) → List Crossing → ℕ
share_along t φ [] = 1
share_along t φ (x ∷ xs) = (1 + others_at t φ x.interconnect x.port) * share_along t φ xs

abbrev pub share_of : Tree → Channel → ℕ → ℕ
share_of t c a = share_along t (limit_of t c) (path t a)

abbrev pub share_within : ℕ → Tree → Channel → ℕ → ℕ
share_within n t c a =
    share_along t (limit_of t c) (record { interconnect = home_of t a; port = home_port_of t a } ∷ above n t (home_of t a))
