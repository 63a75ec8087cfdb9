-- What a function that puts a part of the text ensures.
--
-- Adds a xs b            the text a became b: xs was stored after what a has, as far as the buffer goes
use Rattle.std.specs.Prelude.{ℕ, List, length}
use Rattle.put.specs.declared.Text.{Text}
use Rattle.put.specs.Texts.{Puts}

abbrev pub Adds : Text → List ℕ → Text → Type 0
Adds a xs b = Puts (length xs) a xs b
