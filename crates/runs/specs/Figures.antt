-- Item 1 on case 2 of document 01, worked out by hand: who was served while its transactions waited. On either channel, as each
-- accelerator has a job on both.
--
-- line a c              a line of a trace: c transactions of accelerator a, in slot 0
-- asked                 the offers of case 2
-- Figures c             what is answered of them on channel c
use Rattle.std.specs.Prelude.{ℕ, List, [], ◌∷◌, ◌≡◌}
use Rattle.model.specs.declared.Channel.{Channel}
use Rattle.model.specs.Trees.{chain}
use Rattle.trace.specs.declared.Request.{Request}
use Rattle.waits.specs.Why.{entries, list_of, waited, denied, why_from}

abbrev pub line : ℕ → ℕ → Request
line a c = record { slot = 0; accelerator = a; count = c }

abbrev pub asked : List Request
asked = line 0 4 ∷ line 1 2 ∷ line 2 1 ∷ line 3 1 ∷ []

pub record Figures (c : Channel) : Type 0 where
  -- the last of the eight waits for all the others
  pub last : why_from chain c asked 3 1 ≡ waited 7 0
  pub last_list : entries chain 3 (list_of chain c asked 3 1) ≡ 0 ∷ 0 ∷ 1 ∷ 1 ∷ 0 ∷ 0 ∷ 2 ∷ 2 ∷ 0 ∷ 0 ∷ 1 ∷ 1 ∷ 0 ∷ 0 ∷ []
  -- one of its own, then another's
  pub own : why_from chain c asked 0 2 ≡ waited 2 0
  pub own_list : entries chain 0 (list_of chain c asked 0 2) ≡ 0 ∷ 255 ∷ 1 ∷ 0 ∷ []
  -- served in the slot of its admission
  pub at_once : why_from chain c asked 0 1 ≡ waited 0 0
  -- four are served
  pub fifth : why_from chain c asked 0 5 ≡ denied 12
  pub none : why_from chain c asked 0 0 ≡ denied 12
  pub unknown : why_from chain c asked 4 0 ≡ denied 7
