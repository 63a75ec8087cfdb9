-- The splitter on boards of both kinds (document 02, item 7: "AMBA AXI3 allows bursts of at most 16 beats, AXI4 incrementing bursts of up
-- to 256. We rent out boards of both kinds"; "What is shown of the splitter is shown for a limit as parameter").
--
-- OnBoard t b          what the splitter answers for the burst b on the tree t, by the record name of its bus line
-- of_beats m           a burst of m beats of 4 bytes from address 0 on
-- limit_on a           the limit of a board that speaks AXI3 (a true) or AXI4
-- BoardFigures         figures, with pieces of 16 beats
use Rattle.std.specs.Prelude.{ℕ, ◌≤◌, ◌<◌, Bool, true, false, ◌≡◌}
use Rattle.model.specs.declared.Tree.{Tree}
use Rattle.model.specs.Tree.{beat_limit}
use Rattle.model.specs.Builders.{speaking}
use Rattle.model.specs.Trees.{greatest_bus}
use Rattle.rules.specs.Rules.{tree_keeps}
use Rattle.burst.specs.declared.Burst.{Burst}
use Rattle.burst.specs.Burst.{pieces, not_split, split_of, split_by}
use Rattle.burst.specs.Splitting.{Splitting}

pub record OnBoard (t : Tree) (b : Burst) : Type 0 where
  -- both limits are instances of what is shown
  pub shown : (k : ℕ) → split_by t b ≡ pieces k → Splitting (beat_limit t.bus) t.bus.burst b k
  -- "there .. the splitter takes at most 16 beats": more are refused by 15, as more than 256 are on the newer boards
  pub older_over : tree_keeps t ≡ true → t.bus.axi3 ≡ true → 16 < b.beats → split_by t b ≡ not_split 15
  pub newer_over : tree_keeps t ≡ true → t.bus.axi3 ≡ false → 256 < b.beats → split_by t b ≡ not_split 15
  -- so there are at most 16 pieces
  pub older_few : t.bus.axi3 ≡ true → (k : ℕ) → split_by t b ≡ pieces k → k ≤ 16
  -- up to 16 beats an older board splits as a newer one
  pub alike : b.beats ≤ 16 → split_by t b ≡ split_of 256 (tree_keeps t) t.bus.burst b
  -- "A record named bus keeps today's meaning"
  pub as_today : t.bus.axi3 ≡ false → split_by t b ≡ split_of 256 (tree_keeps t) t.bus.burst b

abbrev pub of_beats : ℕ → Burst
of_beats m = record { start = 0; beats = m; size = 4 }

abbrev pub limit_on : Bool → ℕ
limit_on a = beat_limit (speaking a greatest_bus)

pub record BoardFigures : Type 0 where
  pub older_16 : split_of (limit_on true) true 16 (of_beats 16) ≡ pieces 1
  pub older_17 : split_of (limit_on true) true 16 (of_beats 17) ≡ not_split 15
  pub newer_17 : split_of (limit_on false) true 16 (of_beats 17) ≡ pieces 2
  pub newer_256 : split_of (limit_on false) true 16 (of_beats 256) ≡ pieces 16
  pub newer_257 : split_of (limit_on false) true 16 (of_beats 257) ≡ not_split 15
