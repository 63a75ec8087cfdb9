-- Figures for the clauses of document 01 that no starred case tells apart, with the wait for a new window (document 02, item 8). Each
-- number is worked out by hand from the paper's words; the sum stands beside it where it is not plain. Channels as in `Figures.antt`.
--
-- unequal x y           a bus whose delays all differ, with dA x and dD y
-- unequal_tree T        case 9's tree on the bus with dA 5 and dD 11
-- acc a, int j          a port that carries accelerator a, interconnect j
-- accs_from n a         n ports that carry the accelerators a, a + 1 and on
-- ints_from n j         n ports that carry the interconnects j, j + 1 and on
-- unconnected n         n ports that carry nothing
-- blocks_on j p n       n accelerators on the ports p, p + 1 and on of interconnect j, each of phi 4 and budget 2
-- four                  four levels, each of another granularity
-- branched              two branches of four levels, seven interconnects of seven granularities
-- wide                  15 interconnects and 32 accelerators, P 4: accelerator 31 at port 7 of interconnect 14, which is at port
--                       7 of interconnect 7, which is at port 7 of the root
-- jobs T U              the tree of the worked listing with the periods T and U
-- broken                a configuration that breaks its rules: granularity 0
-- state_of c w a l o n  the state of channel c with waiting counts w, admitted counts a, last ports l, allowances o, 0 for all others, and slot
--                       count n
-- shares_from t c a n   the shares on channel c of the n accelerators a, a + 1 and on
-- on_channel c          the figures on channel c, each headed by what it is for; others: those that name no channel
-- clauses               the figures on both channels, and the others
-- The claim, every clauses, is proved in `proofs/Clauses.antt`.
use Rattle.std.specs.Prelude.{ℕ, zero, suc, ◌-◌, true, false, List, [], ◌∷◌, ◌++◌, length, replicate}
use Rattle.model.specs.declared.Tree.{Tree}
use Rattle.model.specs.declared.State.{State}
use Rattle.model.specs.declared.Bus.{Bus}
use Rattle.model.specs.declared.Accelerator.{Accelerator}
use Rattle.model.specs.declared.PortCell.{PortCell}
use Rattle.model.specs.declared.Port.TheVariants.{Acc, Int}
use Rattle.model.specs.declared.Channel.{Channel}
use Rattle.model.specs.declared.Channel.TheVariants.{Read, Write}
use Rattle.model.specs.Tree.{empty_cell, no_accelerator, limit_of}
use Rattle.model.specs.Trees.{ports, interconnect, block, tree, pair, chain, timed, nested, worked}
use Rattle.model.specs.Builders.{zero_state, with_counts, with_turns, at_slot, with_bus, with_accelerators, with_job}
use Rattle.turns.specs.Turns.{next_port}
use Rattle.machine.specs.Machine.{admitted, served, idle, refused, not_started, beginning, fresh_state}
use Rattle.machine.specs.Calls.{offer, slot}
use Rattle.runner.specs.Run.{done, stopped, refused_at, broken as refusedRun}
use Rattle.shares.specs.Shares.{capacity_of, share_of}
use Rattle.bounds.specs.Bounds.{refused as unbounded, analysed, held_slots, alone_read, alone_write, slot_read, slot_write}
use Rattle.put.specs.Page.{bytes}
use Rattle.listing.specs.Listing.{refusal_text}
use Rattle.cases.specs.Figures.{Figure, answers, answers_from, keeping, starting, ran, ends, numbers, bounded, printed, told, times, contended}

abbrev pub unequal : ℕ → ℕ → Bus
unequal x y =
    record { window = 16; ta = 3; da = x; dd = y; db = 7; pr = 40; pw = 29; td = 2; tb = 13; burst = 10; delay = 0; axi3 = false }

abbrev pub unequal_tree : ℕ → Tree
unequal_tree T = with_bus (timed T) (unequal 5 11)

abbrev acc : ℕ → PortCell
acc a = record { port = Acc a }

abbrev int : ℕ → PortCell
int j = record { port = Int j }

abbrev accs_from : ℕ → ℕ → List PortCell
accs_from zero a = []
accs_from (suc n) a = acc a ∷ accs_from n (suc a)

abbrev ints_from : ℕ → ℕ → List PortCell
ints_from zero j = []
ints_from (suc n) j = int j ∷ ints_from n (suc j)

abbrev unconnected : ℕ → List PortCell
unconnected n = replicate n empty_cell

abbrev blocks_on : ℕ → ℕ → ℕ → List Accelerator
blocks_on j p zero = []
blocks_on j p (suc n) = block j p 4 2 ∷ blocks_on j (suc p) n

abbrev pub four : Tree
four =
    tree 16
    (interconnect 0 0 16 (ports (Acc 0) (Int 1))
    ∷ interconnect 0 1 12 (ports (Acc 1) (Int 2))
    ∷ interconnect 1 1 4 (ports (Acc 2) (Int 3))
    ∷ interconnect 2 1 5 (ports (Acc 3) (Acc 4))
    ∷ [])
    (block 0 0 2 8 ∷ block 1 0 3 8 ∷ block 2 0 1 8 ∷ block 3 0 6 8 ∷ block 3 1 4 8 ∷ [])

abbrev pub branched : Tree
branched =
    tree 16
    (interconnect 0 0 12 (acc 0 ∷ unconnected 2 ++ int 1 ∷ unconnected 2 ++ int 4 ∷ acc 1 ∷ [])
    ∷ interconnect 0 3 7 (empty_cell ∷ acc 2 ∷ unconnected 3 ++ int 2 ∷ empty_cell ∷ acc 3 ∷ [])
    ∷ interconnect 1 5 8 (acc 4 ∷ empty_cell ∷ int 3 ∷ empty_cell ∷ acc 5 ∷ unconnected 3)
    ∷ interconnect 2 2 3 (empty_cell ∷ acc 6 ∷ unconnected 4 ++ acc 7 ∷ unconnected 1)
    ∷ interconnect 0 6 4 (unconnected 2 ++ acc 8 ∷ empty_cell ∷ int 5 ∷ unconnected 3)
    ∷ interconnect 4 4 2 (int 6 ∷ unconnected 4 ++ acc 9 ∷ unconnected 2)
    ∷ interconnect 5 0 6 (unconnected 3 ++ acc 10 ∷ unconnected 3 ++ acc 11 ∷ [])
    ∷ [])
    (block 0 0 5 8
    ∷ block 0 7 11 8
    ∷ block 1 1 6 8
    ∷ block 1 7 2 8
    ∷ block 2 0 5 8
    ∷ block 2 4 3 8
    ∷ block 3 1 8 8
    ∷ block 3 6 2 8
    ∷ block 4 2 2 8
    ∷ block 5 5 1 8
    ∷ block 6 3 3 8
    ∷ block 6 7 4 8
    ∷ [])

abbrev pub wide : Tree
wide =
    tree 4
    (interconnect 0 0 1 (unconnected 1 ++ ints_from 7 1)
    ∷ interconnect 0 1 1 (accs_from 8 0)
    ∷ interconnect 0 2 1 (accs_from 8 8)
    ∷ interconnect 0 3 1 (accs_from 8 16)
    ∷ interconnect 0 4 1 (accs_from 7 24 ++ unconnected 1)
    ∷ interconnect 0 5 1 (unconnected 8)
    ∷ interconnect 0 6 1 (unconnected 8)
    ∷ interconnect 0 7 1 (unconnected 1 ++ ints_from 7 8)
    ∷ interconnect 7 1 1 (unconnected 8)
    ∷ interconnect 7 2 1 (unconnected 8)
    ∷ interconnect 7 3 1 (unconnected 8)
    ∷ interconnect 7 4 1 (unconnected 8)
    ∷ interconnect 7 5 1 (unconnected 8)
    ∷ interconnect 7 6 1 (unconnected 8)
    ∷ interconnect 7 7 1 (unconnected 7 ++ accs_from 1 31)
    ∷ [])
    (blocks_on 1 0 8 ++ blocks_on 2 0 8 ++ blocks_on 3 0 8 ++ blocks_on 4 0 7 ++ blocks_on 14 7 1)

abbrev pub jobs : ℕ → ℕ → Tree
jobs T U =
    with_accelerators worked 2
    (with_job 10 5 1000 T (block 0 0 4 2) ∷ with_job 1 0 0 U (block 0 3 4 2) ∷ replicate 30 no_accelerator)

abbrev pub broken : Tree
broken = pair 0 16 4 4 8

abbrev pub padded : ℕ → List ℕ → List ℕ
padded n xs = xs ++ replicate (n - length xs) 0

abbrev pub state_of : Channel → List ℕ → List ℕ → List ℕ → List ℕ → ℕ → State
state_of c w a l o n =
    at_slot (with_turns (with_counts (zero_state c) (padded 32 w) []) (padded 15 l) (padded 15 o)) (replicate 32 0) (padded 32 a) n

abbrev pub shares_from : Tree → Channel → ℕ → ℕ → List ℕ
shares_from t c a zero = []
shares_from t c a (suc n) = share_of t c a ∷ shares_from t c (suc a) n

abbrev on_channel : Channel → List Figure
on_channel c =
    -- "the sum over everything beneath it", not the smaller of a lower g: nested minima would give 2 for the first share
    numbers (share_of nested c 0 ∷ share_of nested c 1 ∷ []) (3 ∷ 2 ∷ [])
    -- capacity on four levels: 3 + 1 + 6 + 4 under port 1 of the root, 1 + 6 + 4, 6 + 4, and 4 beneath it
    ∷ numbers (capacity_of four (limit_of four c) 0 1 ∷ capacity_of four (limit_of four c) 1 1 ∷ capacity_of four (limit_of four c) 2 1 ∷ capacity_of four (limit_of four c) 3 1 ∷ []) (14 ∷ 11 ∷ 10 ∷ 4 ∷ [])
    -- shares on four levels: 15; 12 × 3; 5 × 4 × 3; 5 × 2 × 4 × 3; 6 × 2 × 4 × 3
    ∷ numbers
    (shares_from four c 0 5)
    (15 ∷ 36 ∷ 60 ∷ 120 ∷ 144 ∷ [])
    -- capacities at the root of the branched tree: 5; 6 + 2 + 5 + 3 + 8 + 2; 2 + 1 + 3 + 4; 11
    ∷ numbers
    (capacity_of branched (limit_of branched c) 0 0 ∷ capacity_of branched (limit_of branched c) 0 3 ∷ capacity_of branched (limit_of branched c) 0 6 ∷ capacity_of branched (limit_of branched c) 0 7 ∷ [])
    (5 ∷ 26 ∷ 10 ∷ 11 ∷ [])
    -- its shares: 34; 28; 10 × 27; 14 × 27; 12 × 9 × 27; 14 × 9 × 27; 3 × 9 × 9 × 27; 4 × 9 × 9 × 27
    ∷ numbers
    (shares_from branched c 0 8)
    (34 ∷ 28 ∷ 270 ∷ 378 ∷ 2916 ∷ 3402 ∷ 6561 ∷ 8748 ∷ [])
    -- and of its other branch: 5 × 29; 3 × 3 × 29; 5 × 2 × 3 × 29; 4 × 2 × 3 × 29
    ∷ numbers
    (shares_from branched c 8 4)
    (145 ∷ 261 ∷ 870 ∷ 696 ∷ [])
    -- a budget is refused in the last slot of a window, 3, and admitted in the first of the next, 4
    ∷ answers (pair 1 4 4 4 2) c
    (times 2 (offer 0) ++ times 3 slot ++ offer 0 ∷ slot ∷ offer 0 ∷ slot ∷ [])
    (admitted ∷ admitted ∷ served 0 ∷ served 0 ∷ idle ∷ refused 9 ∷ idle ∷ admitted ∷ served 0 ∷ [])
    -- the same as a run, where the third is asked for in slot 3
    ∷ ran (pair 1 4 4 4 2) c (bytes "o\t0\t0\t2\no\t3\t0\t1\n") 16 (done 5) (0 ∷ 0 ∷ 255 ∷ 255 ∷ 0 ∷ [])
    -- P 1: every slot is a window of its own
    ∷ answers (pair 1 1 4 4 1) c
    (times 2 (offer 0) ++ slot ∷ times 2 (offer 0) ++ slot ∷ slot ∷ offer 0 ∷ [])
    (admitted ∷ refused 9 ∷ served 0 ∷ admitted ∷ refused 9 ∷ served 0 ∷ idle ∷ admitted ∷ [])
    ∷ ran (pair 1 1 4 4 1) c (bytes "o\t0\t0\t3\no\t1\t1\t1\n") 16 (done 4) (0 ∷ 1 ∷ 0 ∷ 0 ∷ [])
    -- accelerator 31, interconnect 14 and port 7: it offers, and the run is not done while it alone holds one
    ∷ ran wide c (bytes "o\t0\t31\t3\n") 8 (done 5) (31 ∷ 31 ∷ 255 ∷ 255 ∷ 31 ∷ [])
    -- the first port after 7 with something under it is 1, then comes 7
    ∷ ran wide c (bytes "o\t0\t0\t1\no\t0\t31\t1\n") 2 (done 2) (0 ∷ 31 ∷ [])
    -- lines left are waited for, and a line is due in its own slot
    ∷ ran (pair 1 16 4 4 8) c (bytes "o\t3\t1\t1\n") 16 (done 4) (255 ∷ 255 ∷ 255 ∷ 1 ∷ [])
    -- lines of two slots, and an offer while another accelerator's waits
    ∷ ran (pair 1 16 4 4 8) c (bytes "o\t0\t0\t1\no\t1\t1\t1\no\t1\t0\t1\n") 16 (done 3) (0 ∷ 1 ∷ 0 ∷ [])
    -- phi 1: a held transaction alone keeps the run from being done
    ∷ ran (pair 1 16 1 1 8) c (bytes "o\t0\t0\t2\n") 16 (done 2) (0 ∷ 0 ∷ [])
    -- a refused trace: number, line and every byte
    ∷ ran (pair 2 16 3 1 8) c (bytes "o\t0\t0\t1\no\t0\t2\t1\n") 4 (refused_at 7 2) []
    -- "Stopped is reported exactly if the buffer is full and this is not so": a line left, one held, one waiting; then none
    ∷ ran (pair 1 16 4 4 8) c (bytes "o\t2\t1\t1\n") 2 (stopped 2) (255 ∷ 255 ∷ [])
    ∷ ran (pair 1 4 4 4 1) c (bytes "o\t0\t0\t2\n") 1 (stopped 1) (0 ∷ [])
    ∷ ran (pair 1 16 4 4 8) c (bytes "o\t0\t0\t2\n") 1 (stopped 1) (0 ∷ [])
    ∷ ran (pair 1 16 4 4 8) c (bytes "o\t0\t0\t2\n") 2 (done 2) (0 ∷ 0 ∷ [])
    -- the start of a configuration that breaks its rules
    ∷ starting broken c (beginning (not_started 11) (zero_state c))
    -- "An offer checks 11, 7, 8, 9": 11 by the configuration and by the state, each with 7; 7 alone
    ∷ answers_from broken (fresh_state broken c) (offer 0 ∷ offer 2 ∷ []) (refused 11 ∷ refused 11 ∷ [])
    ∷ answers_from (pair 1 16 4 4 8) (state_of c (5 ∷ []) [] (7 ∷ []) [] 0) (offer 0 ∷ offer 2 ∷ []) (refused 11 ∷ refused 11 ∷ [])
    ∷ answers_from (pair 1 16 4 4 8) (state_of c (4 ∷ []) (8 ∷ []) (7 ∷ []) [] 0) (offer 2 ∷ offer 0 ∷ []) (refused 7 ∷ refused 8 ∷ [])
    -- "a slot 11, 10": both, then 10 alone
    ∷ answers_from (pair 1 16 4 4 8) (state_of c (5 ∷ []) [] (7 ∷ []) [] 4294967295) (slot ∷ []) (refused 11 ∷ [])
    ∷ answers_from (pair 1 16 4 4 8) (state_of c [] [] (7 ∷ []) [] 4294967295) (slot ∷ []) (refused 10 ∷ [])
    -- the last slot there is, with nothing waiting
    ∷ answers_from (pair 1 16 4 4 8) (state_of c [] [] (7 ∷ []) [] 4294967294) (slot ∷ slot ∷ []) (idle ∷ refused 10 ∷ [])
    -- phi 16 and budget 1,024, each used alone
    ∷ answers_from (pair 1 16 16 16 1024) (state_of c (16 ∷ []) (1023 ∷ []) (7 ∷ []) [] 0) (offer 0 ∷ []) (refused 8 ∷ [])
    ∷ answers_from (pair 1 16 16 16 1024) (state_of c (15 ∷ []) (1024 ∷ []) (7 ∷ []) [] 0) (offer 0 ∷ []) (refused 9 ∷ [])
    ∷ keeping (pair 1 16 16 16 1024) (state_of c (17 ∷ []) [] (7 ∷ []) [] 0) false
    ∷ keeping (pair 1 16 16 16 1024) (state_of c [] (1025 ∷ []) (7 ∷ []) [] 0) false
    -- an offer raises waiting and admitted by one, so that both limits are met together
    ∷ answers_from (pair 1 16 4 4 8) (state_of c (2 ∷ []) (6 ∷ []) (7 ∷ []) [] 0)
    (times 3 (offer 0) ++ slot ∷ offer 0 ∷ [])
    (admitted ∷ admitted ∷ refused 8 ∷ served 0 ∷ refused 9 ∷ [])
    -- the choice goes down four levels, each interconnect with a turn of its own
    ∷ ran four c (bytes "o\t0\t3\t2\no\t0\t4\t1\no\t0\t0\t1\n") 16 (done 4) (0 ∷ 3 ∷ 3 ∷ 4 ∷ [])
    -- "the runner 11, buffer size, trace": all three, the last two, the last
    ∷ ends broken c (bytes "x\n") 65537 (refusedRun 11)
    ∷ ends broken c (bytes "x\n") 16 (refusedRun 11)
    ∷ ends (pair 1 16 4 4 8) c (bytes "x\n") 65537 (refused_at 2 0)
    ∷ ends (pair 1 16 4 4 8) c (bytes "o\t0\t0\t1\nx\n") 16 (refused_at 1 2)
    -- "output buffer over 65,536 bytes"
    ∷ ends (pair 1 16 4 4 8) c [] 65536 (done 0)
    ∷ ends (pair 1 16 4 4 8) c [] 65537 (refused_at 2 0)
    -- "each waiting count is at most phi": 4 of phi 4
    ∷ keeping (pair 1 16 4 4 8) (state_of c (4 ∷ 4 ∷ []) [] (7 ∷ []) [] 0) true
    ∷ keeping (pair 1 16 4 4 8) (state_of c (4 ∷ 5 ∷ []) [] (7 ∷ []) [] 0) false
    -- "each admitted count at most the budget": 8
    ∷ keeping (pair 1 16 4 4 8) (state_of c [] (8 ∷ 8 ∷ []) (7 ∷ []) [] 0) true
    ∷ keeping (pair 1 16 4 4 8) (state_of c [] (8 ∷ 9 ∷ []) (7 ∷ []) [] 0) false
    -- "each last port is 0 to 7"
    ∷ keeping (pair 1 16 4 4 8) (state_of c [] [] (0 ∷ []) [] 0) true
    ∷ keeping (pair 1 16 4 4 8) (state_of c [] [] (8 ∷ []) [] 0) false
    -- "each allowance is at most the smaller of g and what waits under the last port": g 2, and 3 or 1 wait
    ∷ keeping (pair 2 16 4 4 8) (state_of c (3 ∷ 1 ∷ []) [] (0 ∷ []) (2 ∷ []) 0) true
    ∷ keeping (pair 2 16 4 4 8) (state_of c (3 ∷ 1 ∷ []) [] (0 ∷ []) (3 ∷ []) 0) false
    ∷ keeping (pair 2 16 4 4 8) (state_of c (3 ∷ 1 ∷ []) [] (1 ∷ []) (1 ∷ []) 0) true
    ∷ keeping (pair 2 16 4 4 8) (state_of c (3 ∷ 1 ∷ []) [] (1 ∷ []) (2 ∷ []) 0) false
    -- "unused records are zero": of accelerator 2, and of interconnect 1
    ∷ keeping (pair 1 16 4 4 8) (state_of c (0 ∷ 0 ∷ 1 ∷ []) [] (7 ∷ []) [] 0) false
    ∷ keeping (pair 1 16 4 4 8) (state_of c [] (0 ∷ 0 ∷ 1 ∷ []) (7 ∷ []) [] 0) false
    ∷ keeping (pair 1 16 4 4 8) (state_of c [] [] (7 ∷ 7 ∷ []) [] 0) false
    ∷ keeping (pair 1 16 4 4 8) (state_of c [] [] (7 ∷ []) (0 ∷ 1 ∷ []) 0) false
    ∷ []

abbrev others : List Figure
others =
    -- at level 4: 71 + (143 + 16) × 47 for the read, 67 + (143 + 16) × 43 for the write
    bounded four 4
    (analysed (record { level = 4; reads = contended 144 143; writes = contended 144 143; response = 14448; period = 1; meets = false }))
    -- delays that all differ, dD above dA, L 3: 3 + 15 + 40 + 33 + 20; 3 + 33 + 20 + 29 + 13 + 21; 3 + 40 + 20; 3 + 20 + 29 + 13
    ∷ numbers
    (alone_read (unequal 5 11) 3 ∷ alone_write (unequal 5 11) 3 ∷ slot_read (unequal 5 11) ∷ slot_write (unequal 5 11) ∷ [])
    (111 ∷ 119 ∷ 63 ∷ 65 ∷ [])
    -- and dA above dD: 3 + 51 + 40 + 18 + 20; 3 + 51 + 20 + 29 + 13 + 21
    ∷ numbers (alone_read (unequal 17 6) 3 ∷ alone_write (unequal 17 6) 3 ∷ []) (132 ∷ 137 ∷ [])
    -- a response with them, L 2, share 4: 1,000 + 10 × 95 + (30 + 2 × 16) × 63 + 5 × 101 + (15 + 16) × 65
    ∷ bounded (unequal_tree 8376) 1
    (analysed (record { level = 2; reads = contended 4 30; writes = contended 4 15; response = 8376; period = 8376; meets = true }))
    -- "ceil(N / b) × P": b 8 and P 16, N 0, 1, 8, 9, 16 and 17
    ∷ numbers
    (held_slots 0 8 16 ∷ held_slots 1 8 16 ∷ held_slots 8 8 16 ∷ held_slots 9 8 16 ∷ held_slots 16 8 16 ∷ held_slots 17 8 16 ∷ [])
    (0 ∷ 16 ∷ 16 ∷ 32 ∷ 32 ∷ 48 ∷ [])
    -- "a bound 11, 7"
    ∷ bounded broken 0 (unbounded 11)
    ∷ bounded broken 2 (unbounded 11)
    ∷ bounded chain 4 (unbounded 7)
    -- "the first live port .. after the last one, circling 7 to 0 and ending with the last one itself": sets {0, 7}, {7}, {3};
    -- "the empty set gives 8"
    ∷ numbers
    (next_port 129 7 ∷ next_port 129 0 ∷ next_port 128 7 ∷ next_port 8 4 ∷ next_port 0 0 ∷ next_port 0 7 ∷ [])
    (0 ∷ 7 ∷ 7 ∷ 3 ∷ 8 ∷ 8 ∷ [])
    -- "the last line says meets if all do": both do, then all but the last
    ∷ printed (jobs 5157 476)
    ("acc\tlevel\tsr\tsw\tyr\tyw\tresp\tperiod\tverdict"
    ∷ "0\t1\t2\t1\t10\t0\t5157\t5157\tmeets"
    ∷ "1\t1\t2\t2\t1\t0\t476\t476\tmeets"
    ∷ "all\tmeets"
    ∷ [])
    ∷ printed (jobs 5157 475)
    ("acc\tlevel\tsr\tsw\tyr\tyw\tresp\tperiod\tverdict"
    ∷ "0\t1\t2\t1\t10\t0\t5157\t5157\tmeets"
    ∷ "1\t1\t2\t2\t1\t0\t476\t475\tlate"
    ∷ "all\tlate"
    ∷ [])
    -- "A refusal prints one line only: "refused", number and line, parted by tabs"
    ∷ printed broken []
    ∷ told (refusal_text 3 12) ("refused\t3\t12" ∷ [])
    ∷ []

abbrev pub clauses : List Figure
clauses = on_channel Read ++ on_channel Write ++ others
