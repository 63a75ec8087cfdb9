-- The starred cases and the worked listing of document 01, "Figures to check by", and a figure for the trap that no case
-- tells: one table under one claim. What is of the machine, of a run or of a share is given for both channels, as each accelerator
-- of these trees has a job on both. Case 9 is as document 02, item 8 has it, and the worked listing as items 5 and 8. Figures for
-- further clauses: `Clauses.antt`.
--
-- Figure               one figure of a case
-- answers t c cs xs    the calls cs, from the fresh state of the tree t on channel c, get the answers xs
-- answers_from t s cs xs  the calls cs, from the state s, get the answers xs
-- keeping t s b        b says whether the tree t and the state s keep their rules
-- starting t c x       the start on the tree t and channel c is x
-- ran t c s n e bs     the run of trace s on channel c over a buffer of n bytes ends as e, and writes the bytes bs at its start and no
--                      other
-- ends t c s n e       that run ends as e
-- asks a c             the trace line "o 0 a c": accelerator a asks for c transactions at slot 0; both are one digit
-- numbers xs ys        figures of the definitions, and their numbers
-- bounded t a x        what `bound` answers of accelerator a
-- contended s y        what is met on a channel: share s and interference y
-- responded T b        the bounds of case 9, where the period is T and b says whether it is met
-- printed t ls         the report of the tree t has the lines ls
-- told xs ls           the text xs has the lines ls
-- lines_of ls          the text of the lines ls, each ended by LF
-- holds f              what the figure f claims
-- every fs             each of the figures fs holds
-- on_channel c         the figures on channel c, each headed by its case; reports: those that name no channel
-- table                the figures on both channels, and the others
-- The claim, every table, is proved in `proofs/Figures.antt`.
use Rattle.std.specs.Prelude.{ℕ, zero, suc, ◌+◌, ◌-◌, Bool, true, false, List, [], ◌∷◌, ◌++◌, ◌≡◌, length, replicate}
use Prim.Native.String.{String}
use Rattle.model.specs.declared.Tree.{Tree}
use Rattle.model.specs.declared.State.{State}
use Rattle.model.specs.declared.Channel.{Channel}
use Rattle.model.specs.declared.Channel.TheVariants.{Read, Write}
use Rattle.rules.specs.Rules.{keeps}
use Rattle.machine.specs.Machine.{Answer, admitted, served, idle, refused, Beginning, freshened, fresh_state}
use Rattle.machine.specs.Calls.{Call, offer, slot, answers_of}
use Rattle.runner.specs.Run.{Ending, done, stopped, ran_of, buffer_after}
use Rattle.shares.specs.Shares.{share_of}
use Rattle.bounds.specs.Bounds.{BoundResult, Contention, analysed, interference, alone_read, alone_write, slot_read, slot_write, bound_of}
use Rattle.bounds.specs.Recursion.{interferers}
use Rattle.put.specs.Page.{bytes, ended}
use Rattle.listing.specs.Listing.{report_text}
use Rattle.model.specs.Trees.{chain, timed, pair, worked}

pub data Figure : Type 0 where
  answers : Tree → Channel → List Call → List Answer → Figure
  answers_from : Tree → State → List Call → List Answer → Figure
  keeping : Tree → State → Bool → Figure
  starting : Tree → Channel → Beginning → Figure
  ran : Tree → Channel → List ℕ → ℕ → Ending → List ℕ → Figure
  ends : Tree → Channel → List ℕ → ℕ → Ending → Figure
  numbers : List ℕ → List ℕ → Figure
  bounded : Tree → ℕ → BoundResult → Figure
  printed : Tree → List String → Figure
  told : List ℕ → List String → Figure

abbrev pub lines_of : List String → List ℕ
lines_of [] = []
lines_of (l ∷ ls) = ended (bytes l) ++ lines_of ls

abbrev pub holds : Figure → Type 0
holds (answers t c cs xs) = answers_of t (fresh_state t c) cs ≡ xs
holds (answers_from t s cs xs) = answers_of t s cs ≡ xs
holds (keeping t s b) = keeps t s ≡ b
holds (starting t c x) = freshened t c ≡ x
holds (ran t c s n e bs) = (ran_of t c s n ≡ e) × (buffer_after t c s (replicate n 7) ≡ bs ++ replicate (n - length bs) 7)
holds (ends t c s n e) = ran_of t c s n ≡ e
holds (numbers xs ys) = xs ≡ ys
holds (bounded t a x) = bound_of t a ≡ x
holds (printed t ls) = report_text t ≡ lines_of ls
holds (told xs ls) = xs ≡ lines_of ls

abbrev pub every : List Figure → Type 0
every [] = Unit {0}
every (f ∷ fs) = holds f × every fs

abbrev pub times : {A : Type 0} → ℕ → A → List A
times zero x = []
times (suc n) x = x ∷ times n x

abbrev asks : ℕ → ℕ → List ℕ
asks a c = 111 ∷ 9 ∷ 48 ∷ 9 ∷ (48 + a) ∷ 9 ∷ (48 + c) ∷ 10 ∷ []

abbrev pub contended : ℕ → ℕ → Contention
contended s y = record { share = s; interference = y }

abbrev responded : ℕ → Bool → BoundResult
responded T b =
    analysed (record { level = 2; reads = contended 4 30; writes = contended 4 15; response = 6112; period = T; meets = b })

abbrev on_channel : Channel → List Figure
on_channel c =
    -- 1: "Shares 2, 4, 8, 8"
    numbers (share_of chain c 0 ∷ share_of chain c 1 ∷ share_of chain c 2 ∷ share_of chain c 3 ∷ []) (2 ∷ 4 ∷ 8 ∷ 8 ∷ [])
    -- 1: "Source document 000 also sees seven interfering requests": by the share of accelerator 3, by lemma 9's recursion, and
    -- served, where the other three ask for eight each as in its section 4 (the eighth is accelerator 3's)
    ∷ numbers (interference 1 (share_of chain c 3) ∷ interferers chain c 1 3 ∷ []) (7 ∷ 7 ∷ [])
    ∷ ran chain c (asks 0 8 ++ asks 1 8 ++ asks 2 8 ++ asks 3 1) 8 (stopped 8) (0 ∷ 1 ∷ 0 ∷ 2 ∷ 0 ∷ 1 ∷ 0 ∷ 3 ∷ [])
    -- 2: "with 4, 2, 1, 1 offered at slot 0: served 0 1 0 2 0 1 0 3"
    ∷ answers chain c
    (times 4 (offer 0) ++ times 2 (offer 1) ++ offer 2 ∷ offer 3 ∷ times 8 slot)
    (times 8 admitted ++ served 0 ∷ served 1 ∷ served 0 ∷ served 2 ∷ served 0 ∷ served 1 ∷ served 0 ∷ served 3 ∷ [])
    -- 2, as a run: "served 0 1 0 2 0 1 0 3, done, 8 slots"
    ∷ ran chain c
    (asks 0 4 ++ asks 1 2 ++ asks 2 1 ++ asks 3 1)
    16
    (done 8)
    (0 ∷ 1 ∷ 0 ∷ 2 ∷ 0 ∷ 1 ∷ 0 ∷ 3 ∷ [])
    -- 3: "g 2, accelerators with phi 3 and 1 at ports 0 and 1: shares 2 and 3"
    ∷ numbers (share_of (pair 2 16 3 1 8) c 0 ∷ share_of (pair 2 16 3 1 8) c 1 ∷ []) (2 ∷ 3 ∷ [])
    -- 4: "3 and 1 offered: 0 0 1 0", on case 3's tree
    ∷ answers (pair 2 16 3 1 8) c
    (times 3 (offer 0) ++ offer 1 ∷ times 4 slot)
    (times 4 admitted ++ served 0 ∷ served 0 ∷ served 1 ∷ served 0 ∷ [])
    -- 4, as a run
    ∷ ran (pair 2 16 3 1 8) c (asks 0 3 ++ asks 1 1) 16 (done 4) (0 ∷ 0 ∷ 1 ∷ 0 ∷ [])
    -- 5: "one waits for each; two more for 0 arrive after slot 0: accelerator 1 is served in slot 1"
    ∷ answers (pair 4 16 4 4 8) c
    (offer 0 ∷ offer 1 ∷ slot ∷ offer 0 ∷ offer 0 ∷ slot ∷ [])
    (admitted ∷ admitted ∷ served 0 ∷ admitted ∷ admitted ∷ served 1 ∷ [])
    -- an allowance that grows while its turn runs: with g 2 the turn of accelerator 0 ends after two slots, though a third
    -- of its transactions arrives within it (case 5 does not tell this)
    ∷ answers (pair 2 16 4 4 8) c
    (times 2 (offer 0) ++ offer 1 ∷ slot ∷ offer 0 ∷ times 2 slot)
    (times 3 admitted ++ served 0 ∷ admitted ∷ served 0 ∷ served 1 ∷ [])
    -- 6: "P 4, budget 2, phi 4: of three offers at slot 0 the third is refused 9; at slot 4 it is admitted"
    ∷ answers (pair 1 4 4 4 2) c
    (times 3 (offer 0) ++ times 4 slot ++ offer 0 ∷ [])
    (admitted ∷ admitted ∷ refused 9 ∷ served 0 ∷ served 0 ∷ idle ∷ idle ∷ admitted ∷ [])
    -- 6, its second window in full: the budget counts anew, and is a budget again
    ∷ answers (pair 1 4 4 4 2) c
    (times 2 (offer 0) ++ times 4 slot ++ times 3 (offer 0))
    (admitted ∷ admitted ∷ served 0 ∷ served 0 ∷ idle ∷ idle ∷ admitted ∷ admitted ∷ refused 9 ∷ [])
    -- 7: "phi 2 and budget 2, both used, nothing served: 8, not 9"
    ∷ answers (pair 1 16 2 2 2) c
    (times 3 (offer 0))
    (admitted ∷ admitted ∷ refused 8 ∷ [])
    -- 10: "Empty trace, buffer of 0 bytes: done, 0 slots"
    ∷ ran chain c [] 0 (done 0) []
    ∷ []

abbrev reports : List Figure
reports =
    -- 8: "alone 59 and 55, slots 47 and 43"
    numbers (alone_read chain.bus 2 ∷ alone_write chain.bus 2 ∷ slot_read chain.bus ∷ slot_write chain.bus ∷ [])
    (59 ∷ 55 ∷ 47 ∷ 43 ∷ [])
    -- 9: "Case 9 becomes 6,112" (document 02, item 8): 3,920 and 2 × 16 × 47 + 16 × 43; T 6,112 meets, 6,111 is late
    ∷ bounded (timed 6112) 1 (responded 6112 true)
    ∷ bounded (timed 6111) 1 (responded 6111 false)
    -- the worked listing of the report program: "accelerator 0 has shares 2 and 1, yw 0 .. accelerator 1 has shares 2 and 2" (document
    -- 02, item 5); "accelerator 0 gains 5 × 8 × 47 for reads and 3 × 8 × 43 for writes, so 5,157; accelerator 1 gains 376, so 476, and is
    -- late" (item 8)
    ∷ printed worked
    ("acc\tlevel\tsr\tsw\tyr\tyw\tresp\tperiod\tverdict"
    ∷ "0\t1\t2\t1\t10\t0\t5157\t2000\tlate"
    ∷ "1\t1\t2\t2\t1\t0\t476\t100\tlate"
    ∷ "all\tlate"
    ∷ [])
    ∷ []

abbrev pub table : List Figure
table = on_channel Read ++ on_channel Write ++ reports
