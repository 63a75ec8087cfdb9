-- fault_row f           which sentence tells that f is wrong with the shape of a line
use Rattle.std.specs.Prelude.{ℕ}
use Rattle.reasons.specs.declared.shapes.Fault.{Fault}
use Rattle.reasons.specs.declared.shapes.Fault.TheVariants.{ByteOrderMark, CarriageReturn, Space, Unended, Empty, NoRecord, OfTrace, OfTree, FieldCount, Malformed}

abbrev pub fault_row : Fault → ℕ
fault_row ByteOrderMark = 13
fault_row CarriageReturn = 14
fault_row Space = 15
fault_row Unended = 16
fault_row Empty = 17
fault_row NoRecord = 18
fault_row OfTrace = 19
fault_row OfTree = 20
fault_row FieldCount = 21
fault_row Malformed = 22
