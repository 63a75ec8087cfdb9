-- What the runner's answer means, by document 01's numbers.
--
-- run_means a           how the run of answer a ended
-- wait_of w             the slots of admission and service, and the services, of w
use Rattle.model.specs.Answer.{number_of}
use Rattle.std.specs.Prelude.{Result, Ok, Err}
use Rattle.lines.specs.declared.FileError.{FileError}
use Rattle.lines.specs.declared.FileError.TheVariants.{Refused, Broken}
use Rattle.runner.specs.declared.RunEnd.{RunEnd}
use Rattle.runner.specs.declared.RunEnd.TheVariants.{Done, Stopped}
use Rattle.runner.specs.declared.Wait.{Wait}
use Rattle.runner.specs.Wait.{Waits, waits}
use Rattle.runner.specs.Run.{Ending, refused_at, broken, done, stopped}

abbrev pub run_means : Result RunEnd FileError → Ending
run_means (Err (Refused r n)) = refused_at (number_of r) n
run_means (Err Broken) = broken 11
run_means (Ok (Done n)) = done n
run_means (Ok (Stopped n)) = stopped n

abbrev pub wait_of : Wait → Waits
wait_of w = waits w.admission w.service w.count
