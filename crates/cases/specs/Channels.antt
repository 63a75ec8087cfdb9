-- Figures for blocks that do not use both channels (document 02, item 5), each worked out by hand from its words: "On a channel where a
-- job has 0 transactions, the capacity of that accelerator now counts 0".
--
-- beneath              accelerator 0 and an interconnect at the root; on it accelerator 1, accelerator 2, which only writes, and
--                      accelerator 3, which only reads
-- silent               two accelerators, the second with neither reads nor writes
-- waits c              a state of `map_tree 0 4 4` on channel c in which one of accelerator 1 waits
-- returns c            a state of `map_tree 2 4 4` on channel c in which one of accelerator 1 returns
-- spent c n            a state of `map_tree 0 4 4` on channel c in which n of accelerator 1 were admitted and are served
-- channels             the figures, each headed by what it is for
-- The claim, every channels, is proved in `proofs/Channels.antt`.
use Rattle.std.specs.Prelude.{ℕ, true, false, List, [], ◌∷◌, replicate}
use Rattle.model.specs.declared.Tree.{Tree}
use Rattle.model.specs.declared.State.{State}
use Rattle.model.specs.declared.Channel.{Channel}
use Rattle.model.specs.declared.Channel.TheVariants.{Read, Write}
use Rattle.model.specs.declared.Port.TheVariants.{Acc, Int}
use Rattle.model.specs.Tree.{empty_cell, limit_of}
use Rattle.model.specs.Trees.{ports, interconnect, block, tree, map_tree, worked}
use Rattle.model.specs.Builders.{with_job}
use Rattle.machine.specs.Machine.{admitted, served, idle, refused, started, beginning, fresh_state}
use Rattle.machine.specs.Calls.{offer, slot}
use Rattle.runner.specs.Run.{done, stopped}
use Rattle.shares.specs.Shares.{capacity_of, others_at, share_of}
use Rattle.bounds.specs.Bounds.{analysed}
use Rattle.bounds.specs.Recursion.{interferers}
use Rattle.put.specs.Page.{bytes}
use Rattle.cases.specs.Figures.{Figure, answers, answers_from, keeping, starting, ran, numbers, bounded, times, contended}
use Rattle.cases.specs.Clauses.{state_of, shares_from}
use Rattle.cases.specs.Returns.{on_return}

abbrev pub beneath : Tree
beneath =
    tree 16
    (interconnect 0 0 8 (ports (Acc 0) (Int 1))
    ∷ interconnect 0 1 4 (record { port = Acc 1 } ∷ record { port = Acc 2 } ∷ record { port = Acc 3 } ∷ replicate 5 empty_cell)
    ∷ [])
    (block 0 0 2 8 ∷ block 1 0 3 8 ∷ with_job 0 1 0 1 (block 1 1 5 8) ∷ with_job 1 0 0 1 (block 1 2 1 8) ∷ [])

abbrev pub silent : Tree
silent =
    tree 16 (interconnect 0 0 1 (ports (Acc 0) (Acc 1)) ∷ [])
    (with_job 1 1 0 1542 (block 0 0 4 8) ∷ with_job 0 0 7 7 (block 0 1 4 8) ∷ [])

abbrev waits : Channel → State
waits c = state_of c (0 ∷ 1 ∷ []) (0 ∷ 1 ∷ []) (7 ∷ []) [] 0

abbrev returns : Channel → State
returns c = on_return (map_tree 2 4 4) c [] (0 ∷ 2 ∷ []) 0

abbrev spent : Channel → ℕ → State
spent c n = state_of c [] (0 ∷ n ∷ []) (7 ∷ []) [] 0

abbrev pub channels : List Figure
channels =
    -- the capacity of the root's port 1: 3 + 0 + 1 for reads, 3 + 5 + 0 for writes; of the ports of the interconnect there
    numbers (capacity_of beneath (limit_of beneath Read) 0 1 ∷ capacity_of beneath (limit_of beneath Write) 0 1 ∷ []) (4 ∷ 8 ∷ [])
    ∷ numbers
    (capacity_of beneath (limit_of beneath Read) 1 1 ∷ capacity_of beneath (limit_of beneath Write) 1 1
    ∷ capacity_of beneath (limit_of beneath Read) 1 2 ∷ capacity_of beneath (limit_of beneath Write) 1 2 ∷ [])
    (0 ∷ 5 ∷ 1 ∷ 0 ∷ [])
    -- D there for port 0, g 4: 0 + 1 for reads, 4 + 0 for writes; at the root for port 0, g 8
    ∷ numbers
    (others_at beneath (limit_of beneath Read) 1 0 ∷ others_at beneath (limit_of beneath Write) 1 0
    ∷ others_at beneath (limit_of beneath Read) 0 0 ∷ others_at beneath (limit_of beneath Write) 0 0 ∷ [])
    (1 ∷ 4 ∷ 4 ∷ 8 ∷ [])
    -- shares for reads: 5; 2 × 3; 5 × 3, of the block that does not read; 4 × 3. For writes: 9; 5 × 3; 4 × 3; 8 × 3
    ∷ numbers (shares_from beneath Read 0 4) (5 ∷ 6 ∷ 15 ∷ 12 ∷ [])
    ∷ numbers (shares_from beneath Write 0 4) (9 ∷ 15 ∷ 12 ∷ 24 ∷ [])
    -- two transactions of accelerator 1 meet 2 × 5 and 2 × 14 of others, by lemma 9's recursion
    ∷ numbers (interferers beneath Read 2 1 ∷ interferers beneath Write 2 1 ∷ []) (10 ∷ 28 ∷ [])
    -- "In the worked listing accelerator 0 has shares 2 and 1, yw 0 ..; accelerator 1 has shares 2 and 2"; the responses by item 8:
    -- 2,245 + 5 × 8 × 47 + 3 × 8 × 43, and 100 + 8 × 47
    ∷ numbers (share_of worked Read 0 ∷ share_of worked Write 0 ∷ share_of worked Read 1 ∷ share_of worked Write 1 ∷ []) (2 ∷ 1 ∷ 2 ∷ 2 ∷ [])
    ∷ bounded worked 0
    (analysed (record { level = 1; reads = contended 2 10; writes = contended 1 0; response = 5157; period = 2000; meets = false }))
    ∷ bounded worked 1
    (analysed (record { level = 1; reads = contended 2 1; writes = contended 2 0; response = 476; period = 100; meets = false }))
    -- a job of neither reads nor writes: 53 + 16 × 47 + 49 + 16 × 43 for the other, with share 1 on both channels; C alone for its own,
    -- since "with N 0 it adds 0"
    ∷ bounded silent 0
    (analysed (record { level = 1; reads = contended 1 0; writes = contended 1 0; response = 1542; period = 1542; meets = true }))
    ∷ bounded silent 1
    (analysed (record { level = 1; reads = contended 2 0; writes = contended 2 0; response = 7; period = 7; meets = true }))
    -- "14 for an offer on a channel where the accelerator has 0 transactions", and on that channel alone
    ∷ answers (map_tree 0 4 4) Read
    (offer 1 ∷ offer 0 ∷ offer 2 ∷ slot ∷ slot ∷ offer 1 ∷ [])
    (refused 14 ∷ admitted ∷ refused 7 ∷ served 0 ∷ idle ∷ refused 14 ∷ [])
    ∷ answers (map_tree 0 4 4) Write
    (offer 1 ∷ offer 0 ∷ offer 2 ∷ slot ∷ slot ∷ offer 1 ∷ [])
    (admitted ∷ admitted ∷ refused 7 ∷ served 0 ∷ served 1 ∷ admitted ∷ [])
    ∷ answers silent Read (offer 1 ∷ offer 0 ∷ []) (refused 14 ∷ admitted ∷ [])
    ∷ answers silent Write (offer 1 ∷ offer 0 ∷ []) (refused 14 ∷ admitted ∷ [])
    -- "after 7 and before 8": phi 1, where the second write is refused by 8; an accelerator that is not there by 7
    ∷ answers (map_tree 0 4 1) Read (offer 1 ∷ offer 1 ∷ offer 2 ∷ []) (refused 14 ∷ refused 14 ∷ refused 7 ∷ [])
    ∷ answers (map_tree 0 4 1) Write (offer 1 ∷ offer 1 ∷ offer 2 ∷ []) (admitted ∷ refused 8 ∷ refused 7 ∷ [])
    -- and so before 9: the admitted count is at the budget
    ∷ answers_from (map_tree 0 4 4) (spent Read 8) (offer 1 ∷ offer 0 ∷ []) (refused 14 ∷ admitted ∷ [])
    ∷ answers_from (map_tree 0 4 4) (spent Write 8) (offer 1 ∷ offer 0 ∷ []) (refused 9 ∷ admitted ∷ [])
    -- such a state keeps its rules, since an admitted count is not named; above the budget it does not
    ∷ keeping (map_tree 0 4 4) (spent Read 8) true
    ∷ keeping (map_tree 0 4 4) (spent Read 9) false
    -- "A state where it has waiting or returning ones breaks its rules": then every call is refused by 11, before 7 and 14
    ∷ keeping (map_tree 0 4 4) (waits Read) false
    ∷ keeping (map_tree 0 4 4) (waits Write) true
    ∷ answers_from (map_tree 0 4 4) (waits Read) (offer 0 ∷ offer 1 ∷ offer 2 ∷ slot ∷ []) (times 4 (refused 11))
    ∷ answers_from (map_tree 0 4 4) (waits Write) (offer 0 ∷ offer 1 ∷ slot ∷ slot ∷ []) (admitted ∷ admitted ∷ served 0 ∷ served 1 ∷ [])
    ∷ keeping (map_tree 2 4 4) (returns Read) false
    ∷ keeping (map_tree 2 4 4) (returns Write) true
    ∷ answers_from (map_tree 2 4 4) (returns Read) (offer 0 ∷ offer 1 ∷ offer 2 ∷ slot ∷ []) (times 4 (refused 11))
    ∷ answers_from (map_tree 2 4 4) (returns Write) (offer 0 ∷ offer 1 ∷ slot ∷ slot ∷ []) (admitted ∷ admitted ∷ served 0 ∷ served 1 ∷ [])
    -- a state says of which channel it is from the start
    ∷ starting (map_tree 0 4 4) Read (beginning started (fresh_state (map_tree 0 4 4) Read))
    ∷ starting (map_tree 0 4 4) Write (beginning started (fresh_state (map_tree 0 4 4) Write))
    -- "In a run its held requests stay held, so that run is stopped": others are served as if it were not there
    ∷ ran (map_tree 0 4 4) Read (bytes "o\t0\t0\t2\no\t0\t1\t1\n") 4 (stopped 4) (0 ∷ 0 ∷ 255 ∷ 255 ∷ [])
    ∷ ran (map_tree 0 4 4) Write (bytes "o\t0\t0\t2\no\t0\t1\t1\n") 4 (done 3) (0 ∷ 1 ∷ 0 ∷ [])
    ∷ ran (map_tree 0 4 4) Read (bytes "o\t0\t1\t1\no\t2\t0\t1\n") 4 (stopped 4) (255 ∷ 255 ∷ 0 ∷ 255 ∷ [])
    -- a run without requests of it is done
    ∷ ran (map_tree 0 4 4) Read (bytes "o\t0\t0\t2\n") 4 (done 2) (0 ∷ 0 ∷ [])
    ∷ ran (map_tree 0 4 4) Read [] 0 (done 0) []
    ∷ []
