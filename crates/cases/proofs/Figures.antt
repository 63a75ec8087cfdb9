-- Computed from the definitions; runs and lists of calls by the shorter way of Quick.
use mathlib.Core.Path.{refl}
use lib.Count.{ones}
use Rattle.folds.specs.Fold.{sum, all}
use Rattle.model.specs.Tree.{above}
use Rattle.model.specs.Beneath.{inside}
use Rattle.rules.specs.Rules.{tree_keeps, state_keeps, sized, record_keeps, turn_keeps, bus_keeps, carries, root_placed, child_placed, used_interconnect, unused_interconnect, used_accelerator, unused_accelerator}
use Rattle.turns.specs.Turns.{who, after, turn_port, turn_allowance, seek, bits_below}
use Rattle.machine.specs.Machine.{offered, slotted, tick}
use Rattle.machine.specs.Calls.{answers_of}
use Rattle.text.specs.Text.{parts, but_last, final, same, all_digits, decimal, field_of}
use Rattle.lines.specs.Lines.{kind_of, pushed, line_of, shaped}
use Rattle.trace.specs.TraceFile.{offer_line, read_offers, read_trace, requests}
use Rattle.runner.specs.Run.{held_with, left_after}
use Rattle.shares.specs.Shares.{others_at, share_along}
use Rattle.bounds.specs.Bounds.{bound_of}
use Rattle.bounds.specs.Recursion.{upward}
use Rattle.text.specs.Write.{digits, decimal_text}
use Rattle.put.specs.Page.{joined}
use Rattle.listing.specs.Listing.{row_text, all_line, refusal_text, report_text}
use Rattle.cases.specs.Figures.{every, table}
use Rattle.cases.proofs.Quick.{quick_held, quick_each, quick_trail, quick_ran, answers_within, every_quick}

pub figures : every table
unfolding answers_of parts but_last final same all_digits decimal field_of kind_of pushed line_of shaped offer_line read_offers read_trace requests held_with left_after offered slotted tick who after turn_port turn_allowance seek bits_below tree_keeps state_keeps sized record_keeps turn_keeps bus_keeps carries root_placed child_placed used_interconnect unused_interconnect used_accelerator unused_accelerator inside above sum all ones share_along others_at upward bound_of report_text row_text all_line refusal_text joined decimal_text digits quick_held quick_each quick_trail quick_ran answers_within
figures = every_quick table (refl, (refl, (refl, (refl, (refl, (refl, (refl, (refl, (refl, (refl, (refl, (refl, (refl, (refl, (refl, (refl, (refl, (refl, (refl, (refl, (refl, (refl, (refl, (refl, (refl, (refl, (refl, (refl, (refl, (refl, (refl, (refl, tt))))))))))))))))))))))))))))))))
