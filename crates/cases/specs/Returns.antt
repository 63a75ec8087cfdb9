-- Figures for the return delay (document 02, item 2), each worked out by hand from its words: "A transaction served in slot s stops
-- being outstanding at the start of slot s + 1 + r, before that slot's offers". All on both channels.
--
-- on_return t c w x n  the fresh state of the tree t on channel c with the waiting counts w, the returns x and the slot count n; bit d of a return: one
--                      was served d slots ago, so it is due r + 1 - d slots ahead
-- rules c r f w x b    b says whether such a state of two accelerators, of phi f and 4, keeps its rules with return delay r
-- calls c r f w x n cs xs  from such a state the calls cs get the answers xs
-- slots_offered n      n slots, each with an offer of accelerator 0 before it
-- on_channel c         the figures on channel c, each headed by what it is for
-- returns              those of both channels
-- The claim, every returns, is proved in `proofs/Returns.antt`.
use Rattle.std.specs.Prelude.{ℕ, zero, suc, Bool, true, false, List, [], ◌∷◌, ◌++◌, replicate}
use Rattle.model.specs.declared.Tree.{Tree}
use Rattle.model.specs.declared.State.{State}
use Rattle.model.specs.declared.Channel.{Channel}
use Rattle.model.specs.declared.Channel.TheVariants.{Read, Write}
use Rattle.model.specs.Trees.{returning_pair}
use Rattle.model.specs.Builders.{with_service, at_slot}
use Rattle.machine.specs.Machine.{Answer, admitted, served, idle, refused, fresh_state}
use Rattle.machine.specs.Calls.{Call, offer, slot}
use Rattle.runner.specs.Run.{done, stopped}
use Rattle.shares.specs.Shares.{share_of}
use Rattle.put.specs.Page.{bytes}
use Rattle.cases.specs.Figures.{Figure, answers, answers_from, keeping, ran, numbers, times}
use Rattle.cases.specs.Clauses.{padded}

abbrev pub on_return : Tree → Channel → List ℕ → List ℕ → ℕ → State
on_return t c w x n = at_slot (with_service (fresh_state t c) (padded 32 w) []) (padded 32 x) (replicate 32 0) n

abbrev rules : Channel → ℕ → ℕ → List ℕ → List ℕ → Bool → Figure
rules c r f w x b = keeping (returning_pair r f 4) (on_return (returning_pair r f 4) c w x 0) b

abbrev calls : Channel → ℕ → ℕ → List ℕ → List ℕ → ℕ → List Call → List Answer → Figure
calls c r f w x n cs xs = answers_from (returning_pair r f 4) (on_return (returning_pair r f 4) c w x n) cs xs

abbrev slots_offered : ℕ → List Call
slots_offered zero = []
slots_offered (suc n) = offer 0 ∷ slot ∷ slots_offered n

abbrev on_channel : Channel → List Figure
on_channel c =
    -- phi 1, r 2: served in slot 0, so outstanding in slots 1 and 2, and no more at the start of slot 3
    answers (returning_pair 2 1 4) c
    (slots_offered 4)
    (admitted ∷ served 0 ∷ refused 8 ∷ idle ∷ refused 8 ∷ idle ∷ admitted ∷ served 0 ∷ [])
    -- r 0: admitted again in the very next slot
    ∷ answers (returning_pair 0 1 4) c
    (slots_offered 4)
    (admitted ∷ served 0 ∷ admitted ∷ served 0 ∷ admitted ∷ served 0 ∷ admitted ∷ served 0 ∷ [])
    -- the sum of waiting and returning is tested, each accelerator's its own: phi 2, r 2, served in slots 0, 2 and 3, home in 3, 5
    -- and 6
    ∷ answers (returning_pair 2 2 4) c
    (times 3 (offer 0) ++ slot ∷ offer 0 ∷ offer 1 ∷ slot ∷ offer 0 ∷ slot
    ∷ offer 0 ∷ offer 0 ∷ slot ∷ offer 0 ∷ slot ∷ offer 0 ∷ offer 0 ∷ [])
    (admitted ∷ admitted ∷ refused 8 ∷ served 0 ∷ refused 8 ∷ admitted ∷ served 1 ∷ refused 8 ∷ served 0
    ∷ admitted ∷ refused 8 ∷ served 0 ∷ refused 8 ∷ idle ∷ admitted ∷ refused 8 ∷ [])
    -- from a state: due 1 and 2 slots ahead, one comes home in each slot
    ∷ calls c 2 2 [] (6 ∷ []) 0
    (offer 0 ∷ slot ∷ times 2 (offer 0) ++ slot ∷ times 2 (offer 0))
    (refused 8 ∷ idle ∷ admitted ∷ refused 8 ∷ served 0 ∷ admitted ∷ refused 8 ∷ [])
    -- "a return due now, earlier or more than r slots ahead, breaks its rules": r 2, bits 3, 4 and 0; bits 1 and 2 are kept
    ∷ rules c 2 4 [] (8 ∷ []) false
    ∷ rules c 2 4 [] (16 ∷ []) false
    ∷ rules c 2 4 [] (1 ∷ []) false
    ∷ rules c 2 4 [] (6 ∷ 6 ∷ []) true
    ∷ rules c 0 4 [] (2 ∷ []) false
    -- then offer and slot are refused by 11, whichever accelerator's return it is
    ∷ calls c 2 4 [] (0 ∷ 8 ∷ []) 0 (offer 0 ∷ slot ∷ []) (refused 11 ∷ refused 11 ∷ [])
    ∷ calls c 2 4 [] (17 ∷ []) 0 (offer 0 ∷ slot ∷ []) (refused 11 ∷ refused 11 ∷ [])
    -- r 15: bit 15, due one slot ahead, is kept; bit 16, due now, is not; bits 1 to 15 are fifteen returns
    ∷ rules c 15 4 [] (32768 ∷ []) true
    ∷ rules c 15 4 [] (65536 ∷ []) false
    ∷ rules c 15 15 [] (65534 ∷ []) true
    ∷ rules c 15 14 [] (65534 ∷ []) false
    -- "their sum is at most phi": phi 2, two that return with none and with one that waits
    ∷ rules c 2 2 [] (6 ∷ []) true
    ∷ rules c 2 2 (1 ∷ []) (6 ∷ []) false
    ∷ calls c 2 2 (1 ∷ []) (6 ∷ []) 0 (offer 0 ∷ slot ∷ []) (refused 11 ∷ refused 11 ∷ [])
    ∷ rules c 2 2 (1 ∷ []) (2 ∷ []) true
    -- "unused records are zero": accelerator 2 is not in the tree
    ∷ rules c 2 4 [] (0 ∷ 0 ∷ 2 ∷ []) false
    -- "the return delay r, 0 to 15 slots"
    ∷ keeping (returning_pair 15 4 4) (fresh_state (returning_pair 15 4 4) c) true
    ∷ keeping (returning_pair 16 4 4) (fresh_state (returning_pair 16 4 4) c) false
    -- at the last slot count no slot follows: what is on the way never comes home
    ∷ calls c 2 1 [] (2 ∷ []) 4294967294
    (offer 0 ∷ slot ∷ offer 0 ∷ slot ∷ offer 0 ∷ [])
    (refused 8 ∷ idle ∷ refused 8 ∷ refused 10 ∷ refused 8 ∷ [])
    -- a run: the second is held in slots 1 and 2; "Done still looks only at lines, held and waiting"
    ∷ ran (returning_pair 2 1 4) c (bytes "o\t0\t0\t2\n") 8 (done 4) (0 ∷ 255 ∷ 255 ∷ 0 ∷ [])
    ∷ ran (returning_pair 2 1 4) c (bytes "o\t0\t0\t2\n") 2 (stopped 2) (0 ∷ 255 ∷ [])
    ∷ ran (returning_pair 15 1 4) c (bytes "o\t0\t0\t1\no\t0\t1\t2\n") 8 (done 3) (0 ∷ 1 ∷ 1 ∷ [])
    -- "with shares unchanged": g 1, so at most one other before each
    ∷ numbers (share_of (returning_pair 0 1 4) c 0 ∷ share_of (returning_pair 15 1 4) c 0 ∷ share_of (returning_pair 15 1 4) c 1 ∷ []) (2 ∷ 2 ∷ 2 ∷ [])
    ∷ []

abbrev pub returns : List Figure
returns = on_channel Read ++ on_channel Write
