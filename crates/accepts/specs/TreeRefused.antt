-- Which refusal a tree file gets: "File size comes first, then lines in order. Within a tree line: 1, then 2 field by field, 3, 4, 5"
-- (document 01, "What is refused"). The lines before it, and the shape of the line itself, are said by writing.
--
-- Stands u l w         line l may stand after what u holds, and makes it w
-- Leads u ls w         the lines ls, one after the other, lead from u to w
-- in_order, free, low  the rules 3, 4, 5 of a line, by its record
-- line_rules u l       the rules after 1 of line l, in their order
-- LineBreaks u n ls e r
--                      after what u holds, line n is the first of the lines ls and breaks rule r first; where no line is left, e stands
--                      after the last LF: "missing last LF" is 1, and "A record missing at the end of the file .. is 3 with the line
--                      after the last"
-- TreeBreaks s r n     n is the first line of s that breaks a rule, and r the first rule that it breaks
-- TreeRefused s r n    the size: "file .. over 65,536 bytes (line 0)" is 2; else the first line that breaks a rule
use Rattle.std.specs.Prelude.{ℕ, ◌+◌, ◌≤◌, ◌<◌, Bool, true, false, ◌&&◌, ◌||◌, not, List, [], ◌∷◌, ◌++◌, ◌≡◌, leb, ltb, eqb, length, get_or}
use Rattle.model.specs.declared.Tree.{Tree}
use Rattle.model.specs.declared.Bus.{Bus}
use Rattle.model.specs.declared.Port.TheVariants.{Empty}
use Rattle.model.specs.declared.Refusal.{Refusal}
use Rattle.model.specs.declared.Refusal.TheVariants.{Shape, Limit, Order, Taken, Level}
use Rattle.model.specs.Tree.{port_of, phi_of, level_of}
use Rattle.rules.specs.Rules.{is_empty, bus_keeps}
use Rattle.text.specs.declared.Field.{Field}
use Rattle.text.specs.Text.{lines, unended}
use Rattle.lines.specs.declared.Kind.{Kind}
use Rattle.lines.specs.declared.Kind.TheVariants.{NoRecord, BusLine, IntLine, AccLine, OfferLine, Bus3Line}
use Rattle.lines.specs.declared.Line.{Line}
use Rattle.lines.specs.Answer.{Refused}
use Rattle.lines.specs.FirstRule.{Rule, rule, broken}
use Rattle.lines.specs.Lines.{line_with, value_at, in_tree, limits_kept}
use Rattle.lines.specs.LineText.{WritesLine}
use Rattle.model.specs.Builders.{with_bus}
use Rattle.records.specs.Records.{empty_tree, with_root, with_child, acc_of, with_acc}
use Rattle.placing.specs.Placing.{int_in_order, complete}
use Rattle.writer.specs.Lines.{root_written, child_written, acc_written}
use Rattle.accepts.specs.TreeText.{WritesBus}

pub data Stands (u : Tree) (l : List ℕ) : Tree → Type 0 where
  bus_stands : (b : Bus) → bus_keeps b ≡ true → u.bus.window ≡ 0 → WritesBus b l → Stands u l (with_bus u b)
  root_stands : (g : ℕ) → 1 ≤ g → g ≤ 16 → 0 < u.bus.window → u.accs ≡ 0 → u.ints ≡ 0 → l ≡ root_written g → Stands u l (with_root u g)
  child_stands : (j p q g : ℕ) → 1 ≤ g → g ≤ 16 → 0 < u.bus.window → u.accs ≡ 0 → j ≡ u.ints → 0 < j → j < 15 → p < j → q < 8
      → port_of u p q ≡ Empty → level_of u p < 4 → l ≡ child_written j p q g → Stands u l (with_child u j p q g)
  acc_stands : (v : List ℕ) → limits_kept AccLine v ≡ true → get_or v 1 0 < u.ints → phi_of u (get_or v 0 0) ≡ 0
      → port_of u (get_or v 1 0) (get_or v 2 0) ≡ Empty → l ≡ acc_written (get_or v 0 0) (acc_of v) → Stands u l (with_acc u v)

pub data Leads : Tree → List (List ℕ) → Tree → Type 0 where
  leads_none : {u : Tree} → Leads u [] u
  leads_more : {u w t : Tree} {l : List ℕ} {ls : List (List ℕ)} → Stands u l w → Leads w ls t → Leads u (l ∷ ls) t

abbrev pub in_order : Kind → Tree → Line → Bool
in_order NoRecord u l = true
in_order BusLine u l = not (ltb 0 u.bus.window)
in_order IntLine u l = int_in_order u l
in_order AccLine u l = not (leb u.ints (value_at l 1)) && not (ltb 0 (phi_of u (value_at l 0)))
in_order OfferLine u l = true
in_order Bus3Line u l = not (ltb 0 u.bus.window)

abbrev pub free : Kind → Tree → Line → Bool
free NoRecord u l = true
free BusLine u l = true
free IntLine u l = eqb (value_at l 0) 0 || is_empty (port_of u (value_at l 1) (value_at l 2))
free AccLine u l = is_empty (port_of u (value_at l 1) (value_at l 2))
free OfferLine u l = true
free Bus3Line u l = true

abbrev pub low : Kind → Tree → Line → Bool
low NoRecord u l = true
low BusLine u l = true
low IntLine u l = eqb (value_at l 0) 0 || not (leb 4 (level_of u (value_at l 1)))
low AccLine u l = true
low OfferLine u l = true
low Bus3Line u l = true

unfoldable pub line_rules : Tree → Line → List Rule
line_rules u l =
    rule Limit (limits_kept l.kind l.values)
    ∷ rule Order (in_order l.kind u l)
    ∷ rule Taken (free l.kind u l)
    ∷ rule Level (low l.kind u l)
    ∷ []

pub data LineBreaks (u : Tree) (n : ℕ) : List (List ℕ) → List ℕ → Refusal → Type 0 where
  not_ended : {e : List ℕ} → (e ≡ [] → ⊥) → LineBreaks u n [] e Shape
  missing : {e : List ℕ} → e ≡ [] → complete u ≡ false → LineBreaks u n [] e Order
  not_shaped : {l : List ℕ} {ls : List (List ℕ)} {e : List ℕ} → ((k : Kind) (fs : List Field) → in_tree k ≡ true → WritesLine l k fs → ⊥)
      → LineBreaks u n (l ∷ ls) e Shape
  breaks : {l : List ℕ} {ls : List (List ℕ)} {e : List ℕ} {r : Refusal} (k : Kind) (fs : List Field) → in_tree k ≡ true → WritesLine l k fs
      → broken n (line_rules u (line_with k fs)) ≡ Refused r n → LineBreaks u n (l ∷ ls) e r

pub record TreeBreaks (s : List ℕ) (r : Refusal) (n : ℕ) : Type 0 where
  pub before : List (List ℕ)
  pub after : List (List ℕ)
  pub tree : Tree
  pub split : lines s ≡ before ++ after
  pub leads : Leads empty_tree before tree
  pub line : n ≡ 1 + length before
  pub breaks : LineBreaks tree n after (unended s) r

pub data TreeRefused (s : List ℕ) : Refusal → ℕ → Type 0 where
  too_long : 65536 < length s → TreeRefused s Limit 0
  at_line : {r : Refusal} {n : ℕ} → length s ≤ 65536 → TreeBreaks s r n → TreeRefused s r n
