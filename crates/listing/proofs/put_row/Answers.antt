-- `put_row` meets its contract: the fields of the line are put one after the other.
use Rattle.listing.specs.Listing.{row_text}
use Rattle.put.proofs.Texts.{puts_then}
use Rattle.listing.proofs.put_row.Goals as goal

pub returns : goal.returns
unfolding row_text
returns c =
    puts_then (puts_then (puts_then (puts_then (puts_then (puts_then (puts_then (puts_then c.field.ensures c.field-2.ensures)
    c.field-3.ensures) c.field-4.ensures) c.field-5.ensures) c.field-6.ensures) c.field-7.ensures)
    c.field-8.ensures) c.put_verdict.ensures
