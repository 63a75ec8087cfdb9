-- What a function that puts a part of a text ensures.
--
-- Puts m a xs b   the text a became b, in the same buffer: after what a has, the part xs, at most m bytes, was stored as far as the
--                 buffer goes
use Rattle.std.specs.Prelude.{ℕ, ◌≡◌, List}
use Rattle.put.specs.declared.Text.{Text}
use Rattle.put.specs.Put.{Put}

pub record Puts (m : ℕ) (a : Text) (xs : List ℕ) (b : Text) : Type 0 where
  pub buffer : b.out.ghost_name ≡ a.out.ghost_name
  pub part : Put m a.out.now a.len xs b.out.now b.len
