-- `address_asked` meets its contract: the word is read as a field is, and its number is taken as one of 32 bits, if it is one.
use Rattle.std.proofs.Common.{inl, inr}
use Rattle.usage.proofs.Addresses.{as_read, as_number}
use Rattle.usage.proofs.address_asked.Goals as goal

pub returns-in-Malformed : goal.returns-in-Malformed
returns-in-Malformed c =
    elim c.in-Malformed.is [ inl e ↦ as_read _ c.read_field.ensures e | inr e ↦ as_read _ c.read_field.ensures e ]

pub returns-in-Number : goal.returns-in-Number
returns-in-Number c = as_number _ c.read_field.ensures c.in-Number.is _ c.try_from.ensures c.ok.ensures.value
