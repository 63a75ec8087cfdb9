-- `write_tree` meets its contract: it tests in the definition's order, and copies the text only where the buffer has room.
use mathlib.Core.List.{[]}
use mathlib.Core.Path.{refl, ◌∙◌}
use Rattle.lines.proofs.Limits.{yes_not, no_not}
use Rattle.writer.proofs.Answers.{kept, by_rules, by_size, by_room, by_text, text_length, text_bytes}
use Rattle.writer.proofs.write_tree.Goals as goal

pub returns-then-not-tree_keeps : goal.returns-then-not-tree_keeps
returns-then-not-tree_keeps c = let r = by_rules _ _ c.tree_keeps.ensures (yes_not _ c.if-not-tree_keeps.true) in record { answer = r.0; bytes = r.1 }

pub returns-then-out-gt65536 : goal.returns-then-out-gt65536
returns-then-out-gt65536 c = let r = by_size _ _ c.tree_keeps.ensures (no_not _ c.if-not-tree_keeps.false) c.if-out-gt65536.true in record { answer = r.0; bytes = r.1 }

pub returns-then-out-n : goal.returns-then-out-n
returns-then-out-n c =
    let r = by_room _ _ c.tree_keeps.ensures (no_not _ c.if-not-tree_keeps.false) c.if-out-gt65536.false
    (text_length _ (kept _ [] c.tree_keeps.ensures (no_not _ c.if-not-tree_keeps.false)) _ _ _ c.tree_text-n.ensures refl) c.if-out-n.true in record { answer = r.0; bytes = r.1 }

pub returns : goal.returns
returns c =
    let keeps = kept _ [] c.tree_keeps.ensures (no_not _ c.if-not-tree_keeps.false) in
    let n = text_length _ keeps _ _ _ c.tree_text-n.ensures refl in
    let text = text_bytes _ keeps _ _ _ c.tree_text-n.ensures refl in
    let r = by_text _ _ c.tree_keeps.ensures (no_not _ c.if-not-tree_keeps.false) c.if-out-gt65536.false n c.if-out-n.false _ (c.copy_from_slice.ensures.after ∙ text) in
    record { answer = r.0; bytes = r.1 }
