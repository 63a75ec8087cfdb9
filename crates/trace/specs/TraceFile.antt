-- A trace file (document 01, "The tree on paper": "A trace is a file of the same form with lines o").
--
-- request_of v             the request that the fields v write: slot, accelerator, count
-- total_of totals a        the total of accelerator a so far; no_totals: none yet
-- added totals r          the totals of the accelerators with request r added
-- offer_line a s totals l  a line of a trace on a tree of a accelerators, after lines up to slot s: "Within a trace line: 1,
--                         2 by field, 7, 6, 2 by total"
-- after_offer n x next     what a line's answer x lets the reading do: it ends at line n, or goes on with the request
-- read_offers n a s totals ls u
--                         the lines ls from line n on, and u after the last LF ("missing last LF" is 1)
-- read_trace t s           11 first, which has no line; "File size comes first, then lines in order"; "An empty trace is
--                         accepted"
-- read_requests a s        trace s read for a configuration of a accelerators whose rules were checked before; of none ("n at
--                         least 1") and of more than 32 there is no such configuration: 11
-- requests ls             the requests of an accepted trace's lines, in order
-- rising s rs             "Slots do not fall": from slot s on
-- inRange a r             request r is in its limits, of an accelerator of the tree
-- all_in_range a rs         all of them are
-- total_for a rs           what accelerator a's counts total
-- is_offer l               line l is an o line of shape and limits, of an accelerator that a tree can have
-- request_on l end         the request on line l, and the place after its LF at `end`
-- request_at s at          the request on the line that begins at a place of the bytes, and the place after its LF
use Rattle.std.specs.Prelude.{ℕ, Option, Some, None, Result, Ok, Err, ◌+◌, Bool, true, ◌&&◌, not, List, [], ◌∷◌, length, get_or, set, take, drop, replicate, leb, ltb, eqb}
use Rattle.model.specs.declared.Tree.{Tree}
use Rattle.model.specs.declared.Refusal.{Refusal}
use Rattle.model.specs.declared.Refusal.TheVariants.{Shape, Limit, Falling, Unknown}
use Rattle.folds.specs.Fold.{pick, within}
use Rattle.rules.specs.Rules.{tree_keeps}
use Rattle.text.specs.Text.{part_length, lines, unended}
use Rattle.lines.specs.declared.Kind.TheVariants.{OfferLine}
use Rattle.lines.specs.declared.Line.{Line}
use Rattle.trace.specs.declared.Request.{Request}
use Rattle.lines.specs.Answer.{FileAnswer, Accepted, Refused, Broken}
use Rattle.lines.specs.Lines.{line_of, value_at, shaped, limits_kept, in_trace}

abbrev pub request_of : List ℕ → Request
request_of v = record { slot = get_or v 0 0; accelerator = get_or v 1 0; count = get_or v 2 0 }

abbrev pub total_of : List ℕ → ℕ → ℕ
total_of totals a = get_or totals a 0

abbrev pub added : List ℕ → Request → List ℕ
added totals r = set totals r.accelerator (total_of totals r.accelerator + r.count)

unfoldable pub offer_line : ℕ → ℕ → List ℕ → Line → Result Request Refusal
offer_line accs last totals l =
    pick (not (in_trace l.kind && shaped l)) (Err Shape)
    (pick (not (limits_kept OfferLine l.values)) (Err Limit)
    (pick (leb accs (value_at l 1)) (Err Unknown)
    (pick (ltb (value_at l 0) last) (Err Falling)
    (pick (ltb 65535 (total_of totals (value_at l 1) + value_at l 2)) (Err Limit)
    (Ok (request_of l.values))))))

-- a refused line ends the reading at line n; after a request it goes on
abbrev pub after_offer : ℕ → Result Request Refusal → (Request → FileAnswer) → FileAnswer
after_offer n (Err x) next = Refused x n
after_offer n (Ok r) next = next r

unfoldable pub read_offers : ℕ → ℕ → ℕ → List ℕ → List (List ℕ) → List ℕ → FileAnswer
read_offers n accs last totals [] u = pick (eqb (length u) 0) Accepted (Refused Shape n)
read_offers n accs last totals (l ∷ ls) u =
    after_offer n (offer_line accs last totals (line_of l)) (λ r. read_offers (n + 1) accs r.slot (added totals r) ls u)

abbrev pub no_totals : List ℕ
no_totals = replicate 32 0

unfoldable pub read_trace : Tree → List ℕ → FileAnswer
read_trace t s =
    pick (not (tree_keeps t)) Broken
    (pick (ltb 65536 (length s)) (Refused Limit 0)
    (read_offers 1 t.accs 0 no_totals (lines s) (unended s)))

unfoldable pub read_requests : ℕ → List ℕ → FileAnswer
read_requests a s =
    pick (not (within 1 a 32)) Broken
    (pick (ltb 65536 (length s)) (Refused Limit 0)
    (read_offers 1 a 0 no_totals (lines s) (unended s)))

unfoldable pub requests : List (List ℕ) → List Request
requests [] = []
requests (l ∷ ls) = request_of (line_of l).values ∷ requests ls

unfoldable pub rising : ℕ → List Request → Bool
rising last [] = true
rising last (r ∷ rs) = leb last r.slot && rising r.slot rs

abbrev pub in_range : ℕ → Request → Bool
in_range accs r = leb r.slot 4294967294 && ltb r.accelerator accs && within 1 r.count 16

unfoldable pub all_in_range : ℕ → List Request → Bool
all_in_range accs [] = true
all_in_range accs (r ∷ rs) = in_range accs r && all_in_range accs rs

unfoldable pub total_for : ℕ → List Request → ℕ
total_for a [] = 0
total_for a (r ∷ rs) = pick (eqb a r.accelerator) r.count 0 + total_for a rs

abbrev pub is_offer : Line → Bool
is_offer l = in_trace l.kind && shaped l && limits_kept OfferLine l.values && ltb (value_at l 1) 32

-- the line from `at` to its LF at `end`
abbrev pub request_on : Line → ℕ → Option (Request × ℕ)
request_on l end = pick (is_offer l) (Some (request_of l.values, end + 1)) None

unfoldable pub request_at : List ℕ → ℕ → Option (Request × ℕ)
request_at s at =
    pick (leb (length s) (at + part_length 10 (drop at s))) None
    (request_on (line_of (take (part_length 10 (drop at s)) (drop at s))) (at + part_length 10 (drop at s)))
