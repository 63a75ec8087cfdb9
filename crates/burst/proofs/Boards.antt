-- The splitter on boards of both kinds: the record name picks the limit, and what is shown for every limit holds for that one. The figures
-- are computed.
use Prim.Native.Nat.{ℕ, ◌≤◌, ◌<◌}
use mathlib.Core.Bool.{Bool, true, false, ◌&&◌, not}
use mathlib.Core.Path.{◌≡◌, refl, sym, ◌∙◌, ap, ap₂}
use native.Mathlib.Omega.{arith}
use lib.Dec.{leb}
use borrow.Author.Tests.{le-leb, lt-leb}
use Rattle.folds.specs.Fold.{pick}
use Rattle.model.specs.declared.Tree.{Tree}
use Rattle.model.specs.Tree.{beat_limit}
use Rattle.rules.specs.Rules.{tree_keeps}
use Rattle.rules.proofs.Sound.{sound}
use Rattle.burst.specs.declared.Burst.{Burst}
use Rattle.burst.specs.Burst.{is_size, crosses_page, is_burst, pieces_of, pieces, not_split, split_of, split_by}
use Rattle.burst.specs.Splitting.{Splitting}
use Rattle.burst.specs.Boards.{OnBoard, BoardFigures}
use Rattle.burst.proofs.Cut.{cut, splits, split_15}

-- more beats than the limit are no burst
over_limit : (limit : ℕ) (b : Burst) → limit < b.beats → is_burst limit b ≡ false
over_limit limit b h =
    ap₂ (λ (x y : Bool). x && y && is_size b.size) (le-leb 1 b.beats (omega arith)) (lt-leb b.beats limit h)

-- what both limits let be is a burst under both or under none
both_limits : (n m : ℕ) (b : Burst) → b.beats ≤ n → b.beats ≤ m → is_burst n b ≡ is_burst m b
both_limits n m b h k =
    ap (λ (x : Bool). leb 1 b.beats && x && is_size b.size) (le-leb b.beats n h ∙ sym (le-leb b.beats m k))

module _ (t : Tree) (b : Burst) where
  abbrev n : ℕ
  n = t.bus.burst

  limit_is : (a : Bool) → t.bus.axi3 ≡ a → beat_limit t.bus ≡ pick a 16 256
  limit_is a e = ap (λ (x : Bool). pick x 16 256) e

  by_limit : (m : ℕ) → beat_limit t.bus ≡ m → split_by t b ≡ split_of m (tree_keeps t) n b
  by_limit m e = ap (λ (l : ℕ). split_of l (tree_keeps t) n b) e

  over : (m : ℕ) → tree_keeps t ≡ true → beat_limit t.bus ≡ m → m < b.beats → split_by t b ≡ not_split 15
  over m k e h = by_limit m e ∙ ap (λ (o : Bool). split_of m o n b) k ∙ sym (split_15 m n b (over_limit m b h))

  shown : (k : ℕ) → split_by t b ≡ pieces k → Splitting (beat_limit t.bus) n b k
  shown k e =
      splits (beat_limit t.bus) (tree_keeps t) n b k (sound t (cut (beat_limit t.bus) (tree_keeps t) n b k e).keeps).burst e

  alike : b.beats ≤ 16 → split_by t b ≡ split_of 256 (tree_keeps t) n b
  unfolding split_of
  alike h = go t.bus.axi3 where
    go : (a : Bool) → split_of (pick a 16 256) (tree_keeps t) n b ≡ split_of 256 (tree_keeps t) n b
    go true =
        ap (λ (w : Bool). pick (not (tree_keeps t)) (not_split 11) (pick (not w) (not_split 15) (pick (crosses_page b) (not_split 16) (pieces (pieces_of n b)))))
        (both_limits 16 256 b h (omega arith))
    go false = refl

  pub on_board : OnBoard t b
  on_board =
      record {
        shown = shown;
        older_over = λ k a h. over 16 k (limit_is true a) h;
        newer_over = λ k a h. over 256 k (limit_is false a) h;
        older_few = λ a k e. omega (arith, (shown k e).count.2, limit_is true a);
        alike = alike;
        as_today = λ a. by_limit 256 (limit_is false a);
      }

pub board_figures : BoardFigures
unfolding split_of
board_figures = record { older_16 = refl; older_17 = refl; newer_17 = refl; newer_256 = refl; newer_257 = refl }
