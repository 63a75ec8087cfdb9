-- The text that is printed, said without arrays: the entries of both arrays are those of the pieces, of which there are 256 at most.
use Prim.Native.Nat.{ℕ, zero, suc, ◌≤◌, ◌<◌, min}
use mathlib.Core.List.{List, ◌++◌}
use mathlib.Core.Path.{◌≡◌, refl, ap, ap₂, ◌∙◌}
use native.Mathlib.Omega.{arith}
use lib.Dec.{ltb}
use lib.ListN.{get_or}
use borrow.Author.Tests.{lt-ltb}
use Rattle.folds.specs.Fold.{pick}
use Rattle.folds.proofs.Folds.{picked}
use Rattle.folds.proofs.Entries.{entries_at}
use Rattle.put.specs.Page.{joined}
use Rattle.lines.specs.Answer.{FileAnswer, Accepted, Refused, Broken}
use Rattle.model.specs.declared.Tree.{Tree}
use Rattle.model.specs.Tree.{beat_limit}
use Rattle.placing.specs.Placing.{TreeRead}
use Rattle.burst.specs.declared.Burst.{Burst}
use Rattle.burst.specs.Burst.{Split, pieces, not_split, split_by, listed, start_of, beats_of, starts_after, beats_after}
use Rattle.burst.proofs.Boards.{on_board}
use Rattle.rules.proofs.Sound.{beat_most}
use Rattle.splitting.specs.Splitting.{reply_of, reply_in, tree_denied, on_accepted, reply_from, starts_from, beats_from}
use Rattle.splitting.specs.Lines.{piece_text, pieces_text, count_text, list_text, reply_text, cut_text, split_text}

joined_same : (k : ℕ) (f g : ℕ → List ℕ) → ((i : ℕ) → i < k → f i ≡ g i) → joined k f ≡ joined k g
unfolding joined
joined_same zero f g h = refl
joined_same (suc k) f g h = ap₂ ◌++◌ (joined_same k f g (λ i l. h i (omega arith))) (h k (omega arith))

entry : (k : ℕ) (f : ℕ → ℕ) (i : ℕ) → k ≤ 256 → i < k → get_or (listed k f) i 0 ≡ f i
entry k f i h l = entries_at 256 (λ (j : ℕ). pick (ltb j k) (f j) 0) i (omega arith) ∙ picked _ _ _ (lt-ltb i k l)

-- the lines of the pieces that the splitter answers, from both arrays
module _ (t : Tree) (b : Burst) (d e : List ℕ) where
  abbrev n : ℕ
  n = t.bus.burst

  few : (k : ℕ) → split_by t b ≡ pieces k → k ≤ 256
  few k s = omega (arith, ((on_board t b).shown k s).count.2, beat_most t.bus)

  lines_said : (k : ℕ) → k ≤ 256 → pieces_text k (listed k (start_of n b)) (listed k (beats_of n b))
      ≡ joined k (λ i. piece_text (start_of n b i) (beats_of n b i))
  unfolding pieces_text
  lines_said k h =
      let e : min k 256 ≡ k = omega arith in
      ap (λ (m : ℕ). joined m (λ i. piece_text (get_or (listed k (start_of n b)) i 0) (get_or (listed k (beats_of n b)) i 0))) e
      ∙ joined_same k _ _ (λ i l. ap₂ piece_text (entry k (start_of n b) i h l) (entry k (beats_of n b) i h l))

  cut_said : (limit : ℕ) (x : Split) → split_by t b ≡ x
      → reply_text (reply_of limit b x) (starts_after x n b d) (beats_after x n b e) ≡ cut_text (reply_of limit b x) n b
  unfolding list_text
  cut_said limit (pieces k) s = ap (λ (l : List ℕ). l ++ count_text k) (lines_said k (few k s))
  cut_said limit (not_split m) s = refl

-- what is printed, whatever both arrays had: for each piece its line, and then the count; or the refusal
pub text_said : (q : TreeRead) (b : Burst) (d e : List ℕ)
    → reply_text (reply_from q b) (starts_from q b d) (beats_from q b e) ≡ split_text q b
unfolding reply_from starts_from beats_from
text_said q b d e = go q.answer where
  t : Tree
  t = q.tree

  go : (x : FileAnswer) → reply_text (on_accepted x (reply_in t b) (tree_denied x))
      (on_accepted x (starts_after (split_by t b) t.bus.burst b d) d) (on_accepted x (beats_after (split_by t b) t.bus.burst b e) e)
      ≡ cut_text (on_accepted x (reply_in t b) (tree_denied x)) t.bus.burst b
  go Accepted = cut_said t b d e (beat_limit t.bus) (split_by t b) refl
  go (Refused r m) = refl
  go Broken = refl
