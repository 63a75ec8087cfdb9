-- A line of a tree file, placed in what is read so far (document 01, "The tree on paper" and "What is refused"). What its
-- fields make of the tree is in `Records` of `records`.
--
-- TreeRead             a tree file's answer, with the tree that it gives; on a refusal the tree is the empty one
-- refused_at r n        refused by r at line n; the tree given beside it is the empty one
-- given t              accepted, with tree t
-- tree_read r           answer and tree of a reader's reply r
-- bus_line n t a v      a bus line, a bus3 line where a is true: "One bus line comes first"; "bus3 is a record name beside bus, with its fields
--                      and its place" (document 02, item 7)
-- int_in_order t l       an int line comes after the bus line and before any acc line ("then int lines 0, 1, 2 and on
--                      without a gap, a parent smaller than its child, then acc lines")
-- root_rule l           "Interconnect 0 is the root, and its parent and port are both "-""; "On another int line "-" there
--                      is 3, as is a number there on interconnect 0"
-- int_line n t l        an int line; child_line n t v: one of another interconnect than the root
-- acc_line n t v        an acc line: "acc lines in any order, numbers 0 to n - 1 each once"
-- complete t           nothing is missing at the end of the file: bus, an int, an acc, each number below the highest
-- finish n t           "A record missing at the end of the file, an accelerator number in a gap too, is 3 with the line
--                      after the last"
-- record_line k n t l   a line of record k, by its name
-- tree_line n t l       "Within a tree line: 1, then 2 field by field, 3, 4, 5"
use Rattle.std.specs.Prelude.{ℕ, Bool, true, false, ◌&&◌, not, List, get_or, leb, ltb, eqb}
use Rattle.model.specs.declared.Tree.{Tree}
use Rattle.model.specs.declared.Refusal.{Refusal}
use Rattle.model.specs.declared.Refusal.TheVariants.{Shape, Limit, Order, Taken, Level}
use Rattle.folds.specs.Fold.{pick, all}
use Rattle.model.specs.Tree.{port_of, phi_of, level_of}
use Rattle.rules.specs.Rules.{is_empty}
use Rattle.lines.specs.declared.Kind.{Kind}
use Rattle.lines.specs.declared.Kind.TheVariants.{NoRecord, BusLine, IntLine, AccLine, OfferLine, Bus3Line}
use Rattle.lines.specs.declared.Line.{Line}
use Rattle.lines.specs.Answer.{FileAnswer, Accepted, Refused, file_answer}
use Rattle.model.specs.Builders.{with_bus}
use Rattle.records.specs.Records.{empty_tree, bus_of, with_root, with_child, with_acc}
use Rattle.placing.specs.declared.TreeReply.{TreeReply}
use Rattle.lines.specs.Lines.{value_at, dash_at, shaped, limits_kept, in_tree}

pub record TreeRead : Type 0 where
  pub answer : FileAnswer
  pub tree : Tree

abbrev pub refused_at : Refusal → ℕ → TreeRead
refused_at r n = record { answer = Refused r n; tree = empty_tree }

abbrev pub given : Tree → TreeRead
given t = record { answer = Accepted; tree = t }

abbrev pub tree_read : TreeReply → TreeRead
tree_read r = record { answer = file_answer r.answer; tree = r.tree }

unfoldable pub bus_line : ℕ → Tree → Bool → List ℕ → TreeRead
bus_line n t axi3 v = pick (ltb 0 t.bus.window) (refused_at Order n) (given (with_bus t (bus_of axi3 v)))

abbrev pub root_rule : Line → Bool
root_rule l =
    pick (eqb (value_at l 0) 0)
    (dash_at l 1 && dash_at l 2)
    (not (dash_at l 1) && not (dash_at l 2) && ltb (value_at l 1) (value_at l 0))

abbrev pub int_in_order : Tree → Line → Bool
int_in_order t l = ltb 0 t.bus.window && eqb t.accs 0 && eqb (value_at l 0) t.ints && root_rule l

-- v: number, parent, port, g
unfoldable pub child_line : ℕ → Tree → List ℕ → TreeRead
child_line n t v =
    pick (not (is_empty (port_of t (get_or v 1 0) (get_or v 2 0)))) (refused_at Taken n)
    (pick (leb 4 (level_of t (get_or v 1 0))) (refused_at Level n)
    (given (with_child t (get_or v 0 0) (get_or v 1 0) (get_or v 2 0) (get_or v 3 0))))

unfoldable pub int_line : ℕ → Tree → Line → TreeRead
int_line n t l =
    pick (not (int_in_order t l)) (refused_at Order n)
    (pick (eqb (value_at l 0) 0) (given (with_root t (value_at l 3)))
    (child_line n t l.values))

-- v: number, interconnect, port, and what acc_of takes
unfoldable pub acc_line : ℕ → Tree → List ℕ → TreeRead
acc_line n t v =
    pick (leb t.ints (get_or v 1 0)) (refused_at Order n)
    (pick (ltb 0 (phi_of t (get_or v 0 0))) (refused_at Order n)
    (pick (not (is_empty (port_of t (get_or v 1 0) (get_or v 2 0)))) (refused_at Taken n)
    (given (with_acc t v))))

abbrev pub complete : Tree → Bool
complete t = ltb 0 t.bus.window && ltb 0 t.ints && ltb 0 t.accs && all t.accs (λ a. ltb 0 (phi_of t a))

unfoldable pub finish : ℕ → Tree → TreeRead
finish n t = pick (complete t) (given t) (refused_at Order n)

-- the records by name
abbrev pub record_line : Kind → ℕ → Tree → Line → TreeRead
record_line NoRecord n t l = refused_at Shape n
record_line BusLine n t l = bus_line n t false l.values
record_line IntLine n t l = int_line n t l
record_line AccLine n t l = acc_line n t l.values
record_line OfferLine n t l = refused_at Shape n
record_line Bus3Line n t l = bus_line n t true l.values

unfoldable pub tree_line : ℕ → Tree → Line → TreeRead
tree_line n t l =
    pick (not (in_tree l.kind && shaped l)) (refused_at Shape n)
    (pick (not (limits_kept l.kind l.values)) (refused_at Limit n)
    (record_line l.kind n t l))
