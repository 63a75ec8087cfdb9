-- `put_fault` meets its contract: each fault has the sentence of its row.
use native.Mathlib.Omega.{arith}
use mathlib.Core.List.{List, ◌++◌}
use mathlib.Core.Path.{ap, sym, ◌∙◌}
use Prim.Native.Nat.{ℕ}
use Rattle.lines.specs.declared.Kind.{Kind}
use Rattle.put.proofs.Texts.{puts_most, puts_as}
use Rattle.reasons.specs.declared.shapes.Fault.{Fault}
use Rattle.reasons.specs.Words.{sentence, quoted}
use Rattle.reasons.specs.Faults.{fault_row}
use Rattle.reasons.specs.Reasons.{fault_text}
use Rattle.reasons.proofs.shapes.put_fault.Goals as goal

abbrev said : Kind → ℕ → List ℕ → Fault → List ℕ
said k n l f = fault_text (fault_row f) k n l

pub returns-in-NoRecord : goal.returns-in-NoRecord
unfolding fault_text
returns-in-NoRecord c =
    puts_most (omega arith)
    (puts_as (ap (λ (x : List ℕ). quoted x ++ sentence 18 0 0) c.part.ensures.0 ∙ sym (ap (said c.args.kind c.args.count c.args.l.now) c.in-NoRecord.is)) c.put_no_record.ensures)

pub returns-in-FieldCount : goal.returns-in-FieldCount
unfolding fault_text
returns-in-FieldCount c = puts_most (omega arith) (puts_as (sym (ap (said c.args.kind c.args.count c.args.l.now) c.in-FieldCount.is)) c.put_count.ensures)

pub returns-in-Malformed : goal.returns-in-Malformed
unfolding fault_text
returns-in-Malformed c = puts_as (sym (ap (said c.args.kind c.args.count c.args.l.now) c.in-Malformed.is)) c.put_malformed.ensures

pub returns-in-ByteOrderMark : goal.returns-in-ByteOrderMark
unfolding fault_text
returns-in-ByteOrderMark c = puts_most (omega arith) (puts_as (sym (ap (said c.args.kind c.args.count c.args.l.now) c.in-ByteOrderMark.is)) c.put_sentence.ensures)

pub returns-in-CarriageReturn : goal.returns-in-CarriageReturn
unfolding fault_text
returns-in-CarriageReturn c = puts_most (omega arith) (puts_as (sym (ap (said c.args.kind c.args.count c.args.l.now) c.in-CarriageReturn.is)) c.put_sentence-in-CarriageReturn.ensures)

pub returns-in-Space : goal.returns-in-Space
unfolding fault_text
returns-in-Space c = puts_most (omega arith) (puts_as (sym (ap (said c.args.kind c.args.count c.args.l.now) c.in-Space.is)) c.put_sentence-in-Space.ensures)

pub returns-in-Unended : goal.returns-in-Unended
unfolding fault_text
returns-in-Unended c = puts_most (omega arith) (puts_as (sym (ap (said c.args.kind c.args.count c.args.l.now) c.in-Unended.is)) c.put_sentence-in-Unended.ensures)

pub returns-in-Empty : goal.returns-in-Empty
unfolding fault_text
returns-in-Empty c = puts_most (omega arith) (puts_as (sym (ap (said c.args.kind c.args.count c.args.l.now) c.in-Empty.is)) c.put_sentence-in-Empty.ensures)

pub returns-in-OfTrace : goal.returns-in-OfTrace
unfolding fault_text
returns-in-OfTrace c = puts_most (omega arith) (puts_as (sym (ap (said c.args.kind c.args.count c.args.l.now) c.in-OfTrace.is)) c.put_sentence-in-OfTrace.ensures)

pub returns-in-OfTree : goal.returns-in-OfTree
unfolding fault_text
returns-in-OfTree c = puts_most (omega arith) (puts_as (sym (ap (said c.args.kind c.args.count c.args.l.now) c.in-OfTree.is)) c.put_sentence-in-OfTree.ensures)
