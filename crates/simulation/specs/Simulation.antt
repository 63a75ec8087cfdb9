-- What the program `simulate` does by its words and prints: the words CHANNEL and SLOTS, what a refusal is of, and the text of a
-- run's outcome (document 01: "It writes one byte a slot .. and reports done or stopped, and the number of slots used"; "A refusal
-- prints one line only").
--
-- over_slots x n        the run of channel x over n slots
-- slots_asked x w       the run of channel x over as many slots as the word SLOTS, w, asks for; 65,537, which a run refuses by 2,
--                       stands for every number above 65,536; usage where it is no number
-- run_asked n k c       the run of the channel that was read as k: over 65,536 slots with n = 3 words, else over what the fourth, c,
--                       asks; usage where it is no channel
-- simulate_asked n k a b c   what `simulate` does, started with n words, of which k, a, b and c are the first four: help, if asked;
--                       with three or four words, a and b two files, the run of the channel that k names; usage for any other words
-- refused_part o n      what the outcome o of a run over n slots refuses: the tree, else SLOTS if above 65,536, else the trace, or none; the
--                       channel's number is 0 or 1 here, and never refused
-- is_run o              the outcome o is that of a run, done or stopped, and no refusal
-- used o bs             the bytes of the slots used, of the buffer bs
-- simulation_text o bs  what is printed of an outcome and the buffer: the slots and the end of a run, or a refusal's one line
-- page_count o          the pages that text is given in; simulation_page o bs i: page i of it, from 0
use Rattle.std.specs.Prelude.{ℕ, min, Option, Some, None, Bool, ◌&&◌, ◌||◌, List, ltb, eqb, length, take}
use Rattle.folds.specs.Fold.{pick, within}
use Rattle.text.specs.Text.{decimal}
use Rattle.model.specs.declared.Channel.{Channel}
use Rattle.answers.specs.declared.Outcome.{Outcome}
use Rattle.listing.specs.Listing.{refusal_text}
use Rattle.journal.specs.Journal.{run_text, pages, page_text}
use Rattle.usage.specs.declared.Asked.{Asked}
use Rattle.usage.specs.declared.Asked.TheVariants.{Usage, Help, Run}
use Rattle.usage.specs.Usage.{asks_help, help_asked, two_files, channel_asked, plain_number}
use Rattle.simulation.specs.declared.Simulation.{Simulation}
use Rattle.simulation.specs.declared.Part.{Part}
use Rattle.simulation.specs.declared.Part.TheVariants.{Tree, Word, Trace}

abbrev pub over_slots : Channel → ℕ → Asked Simulation
over_slots x n = Run (record { channel = x; slots = n })

unfoldable pub slots_asked : Channel → List ℕ → Asked Simulation
slots_asked x w = pick (plain_number w) (over_slots x (min (decimal w) 65537)) Usage

abbrev pub run_asked : ℕ → Option Channel → List ℕ → Asked Simulation
run_asked n None c = Usage
run_asked n (Some x) c = pick (eqb n 3) (over_slots x 65536) (slots_asked x c)

unfoldable pub simulate_asked : ℕ → List ℕ → List ℕ → List ℕ → List ℕ → Asked Simulation
simulate_asked n k a b c =
    pick (help_asked k a b || asks_help c) Help
    (pick (within 3 n 4 && two_files a b) (run_asked n (channel_asked k) c) Usage)

abbrev pub is_run : Outcome → Bool
is_run o = ltb o.kind 2

abbrev pub is_done : Outcome → Bool
is_done o = eqb o.kind 0

unfoldable pub refused_part : Outcome → ℕ → Option Part
refused_part o n = pick (is_run o) None (pick (eqb o.kind 2) (Some Tree) (pick (ltb 65536 n) (Some Word) (Some Trace)))

abbrev pub used : Outcome → List ℕ → List ℕ
used o bs = take o.slots bs

unfoldable pub simulation_text : Outcome → List ℕ → List ℕ
simulation_text o bs = pick (is_run o) (run_text (used o bs) (is_done o)) (refusal_text o.number o.line)

abbrev pub page_count : Outcome → List ℕ → ℕ
page_count o bs = pick (is_run o) (pages (length (used o bs))) 1

unfoldable pub simulation_page : Outcome → List ℕ → ℕ → List ℕ
simulation_page o bs i = pick (is_run o) (page_text (used o bs) i (is_done o)) (refusal_text o.number o.line)
