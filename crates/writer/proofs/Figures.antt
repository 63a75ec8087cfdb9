-- The figures of items 4 and 7, computed from the definitions.
use mathlib.Core.Bool.{true}
use mathlib.Core.Path.{◌≡◌, refl}
use Rattle.folds.specs.Fold.{all}
use Rattle.model.specs.Tree.{above}
use Rattle.model.specs.Trees.{worked}
use Rattle.rules.specs.Rules.{bus_keeps, carries, root_placed, child_placed, used_interconnect, unused_interconnect, tree_keeps}
use Rattle.rules.specs.Rules.{used_accelerator, unused_accelerator}
use Rattle.text.specs.Write.{digits, decimal_text, numbers, rows, fields_text, file_text}
use Rattle.put.specs.Page.{joined}
use Rattle.writer.specs.Writer.{written_text}
use Rattle.writer.specs.Figures.{worked_text, older, older_text, against, against_text}

pub worked_written : written_text worked ≡ worked_text
unfolding digits decimal_text numbers rows fields_text file_text joined written_text
worked_written = refl

pub older_keeps : tree_keeps older ≡ true
unfolding all above bus_keeps carries root_placed child_placed used_interconnect unused_interconnect used_accelerator unused_accelerator tree_keeps
older_keeps = refl

pub older_written : written_text older ≡ older_text
unfolding digits decimal_text numbers rows fields_text file_text joined written_text
older_written = refl

pub against_keeps : tree_keeps against ≡ true
unfolding all above bus_keeps carries root_placed child_placed used_interconnect unused_interconnect used_accelerator unused_accelerator tree_keeps
against_keeps = refl

pub against_written : written_text against ≡ against_text
unfolding digits decimal_text numbers rows fields_text file_text joined written_text
against_written = refl
