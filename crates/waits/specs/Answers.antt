-- What the answers mean, by the papers' numbers.
--
-- why_means a            what the answer a says
use Rattle.model.specs.Answer.{number_of}
use Rattle.std.specs.Prelude.{Result, Ok, Err}
use Rattle.lines.specs.declared.FileError.TheVariants.{Refused, Broken}
use Rattle.waits.specs.declared.Waited.{Waited}
use Rattle.waits.specs.declared.WhyError.{WhyError}
use Rattle.waits.specs.declared.WhyError.TheVariants.{Run, Unknown, NotServed}
use Rattle.waits.specs.Why.{Why, refused_at, denied, waited}

abbrev pub why_means : Result Waited WhyError → Why
why_means (Err (Run (Refused r n))) = refused_at (number_of r) n
why_means (Err (Run Broken)) = denied 11
why_means (Err Unknown) = denied 7
why_means (Err NotServed) = denied 12
why_means (Ok w) = waited w.count w.admission
