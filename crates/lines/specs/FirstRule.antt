-- Rules in the order in which they are tested.
--
-- Rule                 a test, and the refusal where it fails
-- broken n rs          the first of the rules rs that fails, at line n; Accepted where none does
use Rattle.std.specs.Prelude.{ℕ, Bool, List, [], ◌∷◌}
use Rattle.model.specs.declared.Refusal.{Refusal}
use Rattle.folds.specs.Fold.{pick}
use Rattle.lines.specs.Answer.{FileAnswer, Accepted, Refused}

pub record Rule : Type 0 where
  pub cause : Refusal
  pub kept : Bool

abbrev pub rule : Refusal → Bool → Rule
rule r b = record { cause = r; kept = b }

unfoldable pub broken : ℕ → List Rule → FileAnswer
broken n [] = Accepted
broken n (x ∷ xs) = pick x.kept (broken n xs) (Refused x.cause n)
