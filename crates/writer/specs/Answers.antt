-- What the answers mean, by the papers' numbers.
--
-- write_means a          what the answer a says
use Rattle.std.specs.Prelude.{ℕ, Result, Ok, Err}
use Rattle.writer.specs.declared.WriteError.{WriteError}
use Rattle.writer.specs.declared.WriteError.TheVariants.{Broken, TooLong, TooShort}
use Rattle.writer.specs.Writer.{Wrote, refused_at, denied, wrote}

abbrev pub write_means : Result ℕ WriteError → Wrote
write_means (Err Broken) = denied 11
write_means (Err TooLong) = refused_at 2 0
write_means (Err TooShort) = denied 13
write_means (Ok n) = wrote n
