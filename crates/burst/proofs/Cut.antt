-- What the splitter's answer says of the burst: each test that it passed, and so all that is shown of the pieces.
use Prim.Native.Nat.{ℕ, ◌*◌, ◌≤◌, ◌<◌}
use mathlib.Core.Bool.{Bool, true, false, ◌||◌, not}
use mathlib.Core.Path.{◌≡◌, refl, sym, ◌∙◌, ap, subst}
use native.Mathlib.Omega.{arith}
use lib.Dec.{leb, eqb}
use borrow.Author.Tests.{le-leb, leb-true, eqb-true, not-false}
use Rattle.folds.specs.Fold.{pick, within}
use Rattle.folds.proofs.Folds.{both, joined, picked, passed}
use Rattle.burst.specs.declared.Burst.{Burst}
use Rattle.burst.specs.Burst.{most_beats, is_size, crosses_page, is_burst, pieces_of, Split, pieces, not_split, split_of}
use Rattle.burst.specs.Splitting.{Splitting}
use Rattle.burst.proofs.Pieces.{left, splitting}

-- a size is one of eight
either : {P : Type 0} (x y : Bool) → (x ≡ true → P) → (y ≡ true → P) → x || y ≡ true → P
either true y f g e = f refl
either false y f g e = g e

abbrev Some : ℕ → Type 0
Some z = (1 ≤ z) × (z ≤ 128)

is : (z m : ℕ) → 1 ≤ m → m ≤ 128 → eqb z m ≡ true → Some z
is z m l h e = (omega (arith, eqb-true z m e), omega (arith, eqb-true z m e))

pub some_size : (z : ℕ) → is_size z ≡ true → Some z
some_size z =
    either _ (eqb z 128)
    (either _ (eqb z 64)
    (either _ (eqb z 32)
    (either _ (eqb z 16)
    (either _ (eqb z 8)
    (either _ (eqb z 4)
    (either (eqb z 1) (eqb z 2)
    (is z 1 (omega arith) (omega arith))
    (is z 2 (omega arith) (omega arith)))
    (is z 4 (omega arith) (omega arith)))
    (is z 8 (omega arith) (omega arith)))
    (is z 16 (omega arith) (omega arith)))
    (is z 32 (omega arith) (omega arith)))
    (is z 64 (omega arith) (omega arith)))
    (is z 128 (omega arith) (omega arith))

-- what beats and beat size of a burst are
pub record Fits (limit : ℕ) (b : Burst) : Type 0 where
  pub some : 1 ≤ b.beats
  pub few : b.beats ≤ limit
  pub size : Some b.size

pub fits : (limit : ℕ) (b : Burst) → is_burst limit b ≡ true → Fits limit b
fits limit b e =
    let f = both (within 1 b.beats limit) (is_size b.size) e in
    let g = both (leb 1 b.beats) (leb b.beats limit) f.0 in
    record { some = leb-true _ _ g.0; few = leb-true _ _ g.1; size = some_size b.size f.1 }

-- a burst under a limit is one under every greater limit
pub burst_wider : (limit : ℕ) (b : Burst) → limit ≤ most_beats → is_burst limit b ≡ true → is_burst most_beats b ≡ true
burst_wider limit b h e =
    let f = both (within 1 b.beats limit) (is_size b.size) e in
    let g = both (leb 1 b.beats) (leb b.beats limit) f.0 in
    joined _ _ (joined _ _ g.0 (le-leb b.beats most_beats (omega (arith, leb-true b.beats limit g.1)))) f.1

-- the four answers
pub split_11 : (limit n : ℕ) (b : Burst) → not_split 11 ≡ split_of limit false n b
unfolding split_of
split_11 limit n b = refl

pub split_15 : (limit n : ℕ) (b : Burst) → is_burst limit b ≡ false → not_split 15 ≡ split_of limit true n b
unfolding split_of
split_15 limit n b e = sym (picked _ _ _ (ap not e))

pub split_16 : (limit n : ℕ) (b : Burst) → is_burst limit b ≡ true → crosses_page b ≡ true → not_split 16 ≡ split_of limit true n b
unfolding split_of
split_16 limit n b e c = sym (passed _ _ _ (ap not e) ∙ picked _ _ _ c)

pub split_pieces : (limit n : ℕ) (b : Burst) → is_burst limit b ≡ true → crosses_page b ≡ false
    → pieces (pieces_of n b) ≡ split_of limit true n b
unfolding split_of
split_pieces limit n b e c = sym (passed _ _ _ (ap not e) ∙ passed _ _ _ c)

-- and back: what was tested where it answers pieces
pub record Cut (limit : ℕ) (ok : Bool) (n : ℕ) (b : Burst) (k : ℕ) : Type 0 where
  pub keeps : ok ≡ true
  pub is_burst_lem : is_burst limit b ≡ true
  pub burst : Fits limit b
  pub page : crosses_page b ≡ false
  pub count : pieces_of n b ≡ k

pub cut : (limit : ℕ) (ok : Bool) (n : ℕ) (b : Burst) (k : ℕ) → split_of limit ok n b ≡ pieces k → Cut limit ok n b k
unfolding split_of
cut limit ok n b k e =
    let x = past (not ok) 11 _ e in
    let y = past (not (is_burst limit b)) 15 _ x.1 in
    let z = past (crosses_page b) 16 _ y.1 in
    let w = not-false (is_burst limit b) y.0 in
    record { keeps = not-false ok x.0; is_burst_lem = w; burst = fits limit b w; page = z.0; count = same z.1 }
  where
    past : (c : Bool) (m : ℕ) (r : Split) → pick c (not_split m) r ≡ pieces k → (c ≡ false) × (r ≡ pieces k)
    past true m r f = let q : ◌≡◌ {A = ℕ} 0 1 = cc in absurd (omega arith)
    past false m r f = (refl, f)

    same : {m : ℕ} → pieces m ≡ pieces k → m ≡ k
    same f = cc

-- what is split under a limit is split alike under the greater one
pub taken_as : (limit : ℕ) (ok : Bool) (n : ℕ) (b : Burst) (k : ℕ) → limit ≤ most_beats → split_of limit ok n b ≡ pieces k
    → split_of most_beats true n b ≡ pieces k
taken_as limit ok n b k h e =
    let c = cut limit ok n b k e in
    sym (split_pieces most_beats n b (burst_wider limit b h c.is_burst_lem) c.page) ∙ ap pieces c.count

pub splits : (limit : ℕ) (ok : Bool) (n : ℕ) (b : Burst) (k : ℕ) → 1 ≤ n → split_of limit ok n b ≡ pieces k → Splitting limit n b k
splits limit ok n b k N e =
    let h = cut limit ok n b k e in
    subst (Splitting limit n b) h.count
    (splitting n N b h.burst.some h.burst.size.0 limit h.burst.few h.page)

-- the beats before a piece that is there are fewer than all
pub before_it : (limit n : ℕ) (b : Burst) (k i : ℕ) → 1 ≤ n → split_of limit true n b ≡ pieces k → i < k → i * n < b.beats
before_it limit n b k i N e l =
    let h = cut limit true n b k e in
    left n N b h.burst.some h.burst.size.0 i (subst (λ (x : ℕ). i < x) (sym h.count) l)
