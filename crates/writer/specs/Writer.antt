-- "Write the tree back" (document 02, item 4).
--
-- carried_by x            the accelerator that port x carries, if it carries one
-- carried_in t j          the accelerators on interconnect j of t, by port; port_order t: those of t, "by interconnect, then by port, both
--                        rising"
-- written_text t          "the text": the bus line, which "leaves out a return delay of 0", the int lines by number and the acc lines
--                        in that order, each ended by LF
-- times a as             how often the number a stands in as
-- Wrote                  refused with a line, refused without one, or the number of bytes of the text
-- write_of t n            the answer for a buffer of n bytes: "13 if the buffer is shorter than the text, after 11 and 2"; 2 is that of an
--                        "output buffer over 65,536 bytes (line 0)"
-- write_buffer t d        the buffer d then: the text from its start on, "Bytes after the text keep their contents", and a refusal
--                        leaves all
-- Stored xs d at e n     of a function that puts a text: xs was stored from `at` on as far as the buffer d goes, which became e, and n
--                        is where the next byte goes
use Rattle.std.specs.Prelude.{ℕ, ◌+◌, not, List, [], ◌∷◌, ◌++◌, map, ltb, eqb, length}
use Rattle.model.specs.declared.Tree.{Tree}
use Rattle.model.specs.declared.Port.{Port}
use Rattle.model.specs.declared.Port.TheVariants.{Empty, Acc, Int}
use Rattle.folds.specs.Fold.{pick}
use Rattle.model.specs.Tree.{port_of}
use Rattle.rules.specs.Rules.{tree_keeps}
use Rattle.text.specs.Write.{rows, file_text}
use Rattle.put.specs.Page.{joined, laid}
use Rattle.put.specs.Put.{Put}
use Rattle.writer.specs.Lines.{bus_text, int_text, acc_text}

abbrev pub carried_by : Port → List ℕ
carried_by Empty = []
carried_by (Acc a) = a ∷ []
carried_by (Int j) = []

abbrev pub carried_in : Tree → ℕ → List ℕ
carried_in t j = joined 8 (λ p. carried_by (port_of t j p))

abbrev pub port_order : Tree → List ℕ
port_order t = joined t.ints (carried_in t)

unfoldable pub written_text : Tree → List ℕ
written_text t = file_text (bus_text t ∷ (rows t.ints 0 (int_text t) ++ map (acc_text t) (port_order t)))

unfoldable pub times : ℕ → List ℕ → ℕ
times a [] = 0
times a (b ∷ bs) = pick (eqb a b) 1 0 + times a bs

pub data Wrote : Type 0 where
  refused_at : ℕ → ℕ → Wrote
  denied : ℕ → Wrote
  wrote : ℕ → Wrote

unfoldable pub write_of : Tree → ℕ → Wrote
write_of t n =
    pick (not (tree_keeps t)) (denied 11)
    (pick (ltb 65536 n) (refused_at 2 0)
    (pick (ltb n (length (written_text t))) (denied 13)
    (wrote (length (written_text t)))))

unfoldable pub write_buffer : Tree → List ℕ → List ℕ
write_buffer t d =
    pick (not (tree_keeps t)) d
    (pick (ltb 65536 (length d)) d
    (pick (ltb (length d) (length (written_text t))) d
    (laid (written_text t) d)))

abbrev pub Stored : List ℕ → List ℕ → ℕ → List ℕ → ℕ → Type 0
Stored xs d at e n = Put (length xs) d at xs e n
