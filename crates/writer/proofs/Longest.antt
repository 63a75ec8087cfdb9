-- No text is longer than that of the longest tree, which has 1,973 bytes: computed.
use Prim.Native.Nat.{◌≤◌}
use mathlib.Core.Bool.{true}
use mathlib.Core.Path.{◌≡◌, refl, sym, subst}
use lib.ListN.{length}
use Rattle.model.specs.declared.Tree.{Tree}
use Rattle.folds.specs.Fold.{all}
use Rattle.model.specs.Tree.{above}
use Rattle.rules.specs.Rules.{bus_keeps, carries, root_placed, child_placed, used_interconnect, used_accelerator, tree_keeps}
use Rattle.text.specs.Write.{digits, decimal_text, numbers, rows, fields_text, file_text}
use Rattle.put.specs.Page.{joined}
use Rattle.writer.specs.Writer.{written_text}
use Rattle.writer.specs.Longest.{longest}
use Rattle.writer.proofs.Length.{written_length}

pub longest_keeps : tree_keeps longest ≡ true
unfolding all above bus_keeps carries root_placed child_placed used_interconnect used_accelerator tree_keeps rows
longest_keeps = refl

pub longest_length : length (written_text longest) ≡ 1973
unfolding digits decimal_text numbers rows fields_text file_text joined written_text
longest_length = refl

pub none_longer : (t : Tree) → tree_keeps t ≡ true → length (written_text t) ≤ length (written_text longest)
none_longer t e = subst (λ n. length (written_text t) ≤ n) (sym longest_length) (written_length t e)
