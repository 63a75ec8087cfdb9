-- Which refusal a trace file gets: "File size comes first, then lines in order. .. Within a trace line: 1, 2 by field, 7, 6, 2 by
-- total" (document 01, "What is refused"). The lines before it, and what the line itself says, are said by writing.
--
-- last_slot s rs       the slot of the last of the requests rs; s where there is none
-- ten_digits r         "Numbers are decimal, 1 to 10 digits": so are those of request r
-- offer_rules a s f r  the rules after 1 for request r, in their order, on a tree of a accelerators after requests up to slot s with
--                      totals f
-- OfferBreaks a s f n ls e r
--                      there, line n is the first of the lines ls and breaks rule r first; where no line is left, e stands after the
--                      last LF: "missing last LF" is 1
-- TraceBreaks a s r n  n is the first line of s that breaks a rule, and r the first rule that it breaks
-- TraceRefused a s r n the size: "file .. over 65,536 bytes (line 0)" is 2; else the first line that breaks a rule
use Rattle.std.specs.Prelude.{ℕ, ◌+◌, ◌≤◌, ◌<◌, Bool, true, ◌&&◌, List, [], ◌∷◌, ◌++◌, map, ◌≡◌, leb, ltb, length}
use Rattle.folds.specs.Fold.{within}
use Rattle.model.specs.declared.Refusal.{Refusal}
use Rattle.model.specs.declared.Refusal.TheVariants.{Shape, Limit, Falling, Unknown}
use Rattle.text.specs.Text.{lines, unended}
use Rattle.lines.specs.Answer.{Refused}
use Rattle.lines.specs.FirstRule.{Rule, rule, broken}
use Rattle.trace.specs.declared.Request.{Request}
use Rattle.trace.specs.TraceFile.{total_for}
use Rattle.accepts.specs.TraceText.{request_text, TraceKeeps}

unfoldable pub last_slot : ℕ → List Request → ℕ
last_slot last [] = last
last_slot last (r ∷ rs) = last_slot r.slot rs

abbrev pub ten_digits : Request → Bool
ten_digits r = ltb r.slot 10000000000 && ltb r.accelerator 10000000000 && ltb r.count 10000000000

abbrev pub offer_rules : ℕ → ℕ → (ℕ → ℕ) → Request → List Rule
offer_rules accs last total r =
    rule Limit (leb r.slot 4294967294 && within 1 r.count 16)
    ∷ rule Unknown (ltb r.accelerator accs)
    ∷ rule Falling (leb last r.slot)
    ∷ rule Limit (leb (total r.accelerator + r.count) 65535)
    ∷ []

pub data OfferBreaks (accs last : ℕ) (total : ℕ → ℕ) (n : ℕ) : List (List ℕ) → List ℕ → Refusal → Type 0 where
  not_ended : {e : List ℕ} → (e ≡ [] → ⊥) → OfferBreaks accs last total n [] e Shape
  not_shaped : {l : List ℕ} {ls : List (List ℕ)} {e : List ℕ} → ((q : Request) → ten_digits q ≡ true → l ≡ request_text q → ⊥)
      → OfferBreaks accs last total n (l ∷ ls) e Shape
  breaks : {l : List ℕ} {ls : List (List ℕ)} {e : List ℕ} {r : Refusal} (q : Request) → ten_digits q ≡ true → l ≡ request_text q
      → broken n (offer_rules accs last total q) ≡ Refused r n → OfferBreaks accs last total n (l ∷ ls) e r

pub record TraceBreaks (accs : ℕ) (s : List ℕ) (r : Refusal) (n : ℕ) : Type 0 where
  pub before : List Request
  pub after : List (List ℕ)
  pub split : lines s ≡ map request_text before ++ after
  pub keeps : TraceKeeps accs before
  pub line : n ≡ 1 + length before
  pub breaks : OfferBreaks accs (last_slot 0 before) (λ a. total_for a before) n after (unended s) r

pub data TraceRefused (accs : ℕ) (s : List ℕ) : Refusal → ℕ → Type 0 where
  too_long : 65536 < length s → TraceRefused accs s Limit 0
  at_line : {r : Refusal} {n : ℕ} → length s ≤ 65536 → TraceBreaks accs s r n → TraceRefused accs s r n
