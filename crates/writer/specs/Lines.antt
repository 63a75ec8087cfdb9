-- The lines of a tree file, as they are written (document 01, "The tree on paper").
--
-- bus_front b           the numbers of the bus line before its "optional last field, the return delay r"
-- bus_values b          all numbers of the bus line; acc_values a x: of an acc line
-- bus_name b            the record name of the bus b: "The writer keeps the record name" (document 02, item 7)
-- bus_whole b           a bus line: P, tA, dA, dD, dB, pR, pW, tD, tB, B, r
-- bus_short b           the same without r
-- bus_as name b         a bus line under the record name `name`: "It leaves out a return delay of 0" (document 02, item 4)
-- root_written g        the int line of interconnect 0: "its parent and port are both "-""
-- child_written j i p g the int line of another one: number, parent, port on the parent, granularity
-- acc_written a x       an acc line: number, interconnect, port, phi, budget, Nr, Nw, C, T
-- bus_written b         the bus line of b, under its record name
-- bus_text t, int_text t j, acc_text t a
--                      the bus line of t, the int line of its interconnect j, the acc line of its accelerator a
use Rattle.std.specs.Prelude.{ℕ, List, [], ◌∷◌, ◌++◌, eqb}
use Rattle.model.specs.declared.Tree.{Tree}
use Rattle.model.specs.declared.Bus.{Bus}
use Rattle.model.specs.declared.Accelerator.{Accelerator}
use Rattle.folds.specs.Fold.{pick}
use Rattle.model.specs.Tree.{granularity_of, parent_of, parent_port_of, accelerator_of}
use Rattle.text.specs.Write.{decimal_text, dash, numbers, line_text}
use Rattle.lines.specs.declared.Kind.TheVariants.{IntLine, AccLine}
use Rattle.lines.specs.Lines.{bus_kind, name_of}

abbrev pub bus_front : Bus → List ℕ
bus_front b = b.window ∷ b.ta ∷ b.da ∷ b.dd ∷ b.db ∷ b.pr ∷ b.pw ∷ b.td ∷ b.tb ∷ b.burst ∷ []

abbrev pub bus_values : Bus → List ℕ
bus_values b = bus_front b ++ (b.delay ∷ [])

abbrev pub acc_values : ℕ → Accelerator → List ℕ
acc_values a x = a ∷ x.interconnect ∷ x.port ∷ x.phi ∷ x.budget ∷ x.reads ∷ x.writes ∷ x.computing ∷ x.period ∷ []

abbrev pub bus_name : Bus → List ℕ
bus_name b = name_of (bus_kind b.axi3)

abbrev pub bus_whole : Bus → List ℕ
bus_whole b = line_text (bus_name b) (numbers (bus_values b))

abbrev pub bus_short : Bus → List ℕ
bus_short b = line_text (bus_name b) (numbers (bus_front b))

abbrev pub bus_as : List ℕ → Bus → List ℕ
bus_as name b = pick (eqb b.delay 0) (line_text name (numbers (bus_front b))) (line_text name (numbers (bus_values b)))

abbrev pub root_written : ℕ → List ℕ
root_written g = line_text (name_of IntLine) (decimal_text 0 ∷ dash ∷ dash ∷ decimal_text g ∷ [])

abbrev pub child_written : ℕ → ℕ → ℕ → ℕ → List ℕ
child_written j parent port g = line_text (name_of IntLine) (numbers (j ∷ parent ∷ port ∷ g ∷ []))

abbrev pub acc_written : ℕ → Accelerator → List ℕ
acc_written a x = line_text (name_of AccLine) (numbers (acc_values a x))

abbrev pub bus_written : Bus → List ℕ
bus_written b = bus_as (bus_name b) b

abbrev pub bus_text : Tree → List ℕ
bus_text t = bus_written t.bus

abbrev pub int_text : Tree → ℕ → List ℕ
int_text t j =
    pick (eqb j 0)
    (root_written (granularity_of t j))
    (child_written j (parent_of t j) (parent_port_of t j) (granularity_of t j))

abbrev pub acc_text : Tree → ℕ → List ℕ
acc_text t a = acc_written a (accelerator_of t a)
