-- What a reader answers, in the terms of document 01's table "What is refused".
--
-- FileAnswer           a file is accepted; refused, with the line; or refused because the configuration breaks its rules, which
--                      has no line
-- file_error e         what the error e of a reader answers
-- file_answer r        what the result r of a reader answers, whatever it gives of an accepted file
-- answer_number a       the refusal's number; 0 where the file is accepted
-- answer_line a         "number, line from 1"; 0 for the size of a file, and where no line is returned: the file is accepted,
--                      or the configuration breaks its rules (11)
use Rattle.std.specs.Prelude.{ℕ, Result, Ok, Err}
use Rattle.model.specs.declared.Refusal.{Refusal}
use Rattle.model.specs.Answer.{number_of}
use Rattle.lines.specs.declared.FileError.{FileError}
use Rattle.lines.specs.declared.FileError.TheVariants.{Refused as refused, Broken as broken}

pub data FileAnswer : Type 0 where
  Accepted : FileAnswer
  Refused : Refusal → ℕ → FileAnswer
  Broken : FileAnswer

abbrev pub file_error : FileError → FileAnswer
file_error (refused r n) = Refused r n
file_error broken = Broken

abbrev pub file_answer : {A : Type 0} → Result A FileError → FileAnswer
file_answer (Ok x) = Accepted
file_answer (Err e) = file_error e

abbrev pub answer_number : FileAnswer → ℕ
answer_number Accepted = 0
answer_number (Refused r n) = number_of r
answer_number Broken = 11

abbrev pub answer_line : FileAnswer → ℕ
answer_line Accepted = 0
answer_line (Refused r n) = n
answer_line Broken = 0
