-- A refusal comes with the empty tree, of a line, of the end of a file, and of a reply that says what their definitions say: what these
-- refuse they refuse by `refused_at`.
use Prim.Native.Nat.{ℕ}
use mathlib.Core.Bool.{Bool, true, false, not}
use mathlib.Core.List.{List}
use mathlib.Core.Path.{◌≡◌, refl, sym, ◌∙◌, ap}
use lib.Dec.{ltb, leb}
use lib.ListN.{get_or}
use Rattle.std.specs.Prelude.{Result, Err}
use Rattle.folds.specs.Fold.{pick}
use Rattle.folds.proofs.Folds.{clash}
use Rattle.model.specs.declared.Tree.{Tree}
use Rattle.model.specs.declared.Refusal.{Refusal}
use Rattle.model.specs.declared.Refusal.TheVariants.{Shape, Limit, Order, Taken, Level}
use Rattle.model.specs.Tree.{port_of, phi_of}
use Rattle.rules.specs.Rules.{is_empty}
use Rattle.lines.specs.declared.Kind.{Kind}
use Rattle.lines.specs.declared.Kind.TheVariants.{NoRecord, BusLine, IntLine, AccLine, OfferLine, Bus3Line}
use Rattle.lines.specs.declared.Line.{Line}
use Rattle.lines.specs.declared.FileError.{FileError}
use Rattle.lines.specs.declared.FileError.TheVariants.{Refused as refused, Broken as broken}
use Rattle.lines.specs.Answer.{file_error, file_answer}
use Rattle.records.specs.Records.{empty_tree, with_acc}
use Rattle.placing.specs.declared.TreeReply.{TreeReply}
use Rattle.placing.specs.Placing.{TreeRead, tree_read, refused_at, given, bus_line, child_line, int_line, acc_line, complete, finish, record_line, tree_line}

-- where x is a refusal, its tree is the empty one
abbrev pub EmptyIfRefused : TreeRead → Type 0
EmptyIfRefused x = (e : FileError) → x.answer ≡ file_error e → x.tree ≡ empty_tree

pub refused_empty : (r : Refusal) (n : ℕ) → EmptyIfRefused (refused_at r n)
refused_empty r n e h = refl

pub given_empty : (t : Tree) → EmptyIfRefused (given t)
given_empty t (refused r n) h = clash cc
given_empty t broken h = clash cc

-- a test picks one of two
pub pick_empty : (b : Bool) (x y : TreeRead) → EmptyIfRefused x → EmptyIfRefused y → EmptyIfRefused (pick b x y)
pick_empty true x y f g = f
pick_empty false x y f g = g

-- a test refuses, or lets y stand
pub test_empty : (b : Bool) (r : Refusal) (n : ℕ) (y : TreeRead) → EmptyIfRefused y → EmptyIfRefused (pick b (refused_at r n) y)
test_empty b r n y = pick_empty b (refused_at r n) y (refused_empty r n)

bus_empty : (n : ℕ) (t : Tree) (a : Bool) (v : List ℕ) → EmptyIfRefused (bus_line n t a v)
unfolding bus_line
bus_empty n t a v = test_empty _ Order n _ (given_empty _)

child_empty : (n : ℕ) (t : Tree) (v : List ℕ) → EmptyIfRefused (child_line n t v)
unfolding child_line
child_empty n t v = test_empty _ Taken n _ (test_empty _ Level n _ (given_empty _))

int_empty : (n : ℕ) (t : Tree) (l : Line) → EmptyIfRefused (int_line n t l)
unfolding int_line
int_empty n t l = test_empty _ Order n _ (pick_empty _ _ _ (given_empty _) (child_empty n t l.values))

acc_empty : (n : ℕ) (t : Tree) (v : List ℕ) → EmptyIfRefused (acc_line n t v)
unfolding acc_line
acc_empty n t v =
    test_empty (leb t.ints (get_or v 1 0)) Order n _
    (test_empty (ltb 0 (phi_of t (get_or v 0 0))) Order n _
    (test_empty (not (is_empty (port_of t (get_or v 1 0) (get_or v 2 0)))) Taken n _ (given_empty (with_acc t v))))

record_empty : (k : Kind) (n : ℕ) (t : Tree) (l : Line) → EmptyIfRefused (record_line k n t l)
record_empty NoRecord n t l = refused_empty Shape n
record_empty BusLine n t l = bus_empty n t false l.values
record_empty IntLine n t l = int_empty n t l
record_empty AccLine n t l = acc_empty n t l.values
record_empty OfferLine n t l = refused_empty Shape n
record_empty Bus3Line n t l = bus_empty n t true l.values

pub line_empty : (n : ℕ) (t : Tree) (l : Line) → EmptyIfRefused (tree_line n t l)
unfolding tree_line
line_empty n t l = test_empty _ Shape n _ (test_empty _ Limit n _ (record_empty l.kind n t l))

pub finish_empty : (n : ℕ) (t : Tree) → EmptyIfRefused (finish n t)
unfolding finish
finish_empty n t = pick_empty (complete t) _ _ (given_empty t) (refused_empty Order n)

-- a reply that says q: its error comes with the empty tree
pub reply_empty : (r : TreeReply) (q : TreeRead) → tree_read r ≡ q → EmptyIfRefused q → (e : FileError) → r.answer ≡ Err e → r.tree ≡ empty_tree
reply_empty r q s f e h =
    ap (λ (x : TreeRead). x.tree) s
    ∙ f e (sym (ap (λ (x : TreeRead). x.answer) s) ∙ ap (λ (a : Result (Unit {0}) FileError). file_answer a) h)
