-- The text of a reply in pages: each but the last has 1,024 lines, and one after the other they are the whole text. By the clauses
-- of the definitions.
use Prim.Native.Nat.{ℕ, ◌+◌, ◌-◌, ◌*◌, ◌/◌, ◌≤◌, min}
use mathlib.Core.List.{List}
use mathlib.Core.Path.{◌≡◌, refl, ap, ◌∙◌}
use native.Mathlib.Decide.{dec_le}
use native.Mathlib.Nat.{min-le_left}
use native.Mathlib.Omega.{arith}
use lib.ListN.{length}
use lib.Seq.{length-take-le, take_all}
use Rattle.put.specs.Page.{joined}
use Rattle.put.specs.declared.Text.{Text}
use Rattle.put.specs.Texts.{Puts}
use Rattle.put.proofs.Texts.{puts_as, puts_most}
use Rattle.put.proofs.Pages.{pages_joined, puts_ends, puts_goes_on}
use Rattle.std.specs.Prelude.{Ok, Err}
use Rattle.inquiry.specs.Inquiry.{Reply}
use Rattle.inquiry.specs.Lines.{pair_line, lines_text, count_text, wait_text, wait_page, listed, reply_text, pages_of, reply_page}

-- "What does not fit the pairs of 65,536 bytes is counted, not listed": that many lines are printed of a wait of n slots
pub lines_listed : (n : ℕ) (bs : List ℕ) → length bs ≡ 65536 → length (listed n bs) / 2 ≡ min n 32768
lines_listed n bs e = elim (dec_le (2 * n) 65536) [ yes l ↦ fits l | no l ↦ short l ] where
  fits : 2 * n ≤ 65536 → length (listed n bs) / 2 ≡ min n 32768
  fits l = ap (λ (k : ℕ). k / 2) (length-take-le (2 * n) bs (omega (arith, e))) ∙ omega arith

  short : (2 * n ≤ 65536 → ⊥) → length (listed n bs) / 2 ≡ min n 32768
  short l = ap (λ (xs : List ℕ). length xs / 2) (take_all (2 * n) bs (omega (arith, e))) ∙ ap (λ (k : ℕ). k / 2) e ∙ omega arith

module _ (from n : ℕ) (ps : List ℕ) where
  -- the pages one after the other are the whole text
  pub wait_whole : joined (length ps / 2 / 1024 + 1) (wait_page from n ps) ≡ wait_text from n ps
  unfolding lines_text wait_page
  wait_whole = pages_joined (length ps / 2) (pair_line from ps) (count_text n)

  module _ {x y : Text} (i : ℕ) where
    -- the lines of a page as they are put
    pub lines_end : (k : ℕ) → k ≡ min 1024 (length ps / 2 - 1024 * i) → Puts (63 * k) x (joined k (λ j. pair_line from ps (1024 * i + j))) y
        → Puts 64512 x (lines_text from ps i) y
    unfolding lines_text
    lines_end k q p =
        puts_most (omega (arith, q, min-le_left 1024 (length ps / 2 - 1024 * i)))
        (puts_as (ap (λ (m : ℕ). joined m (λ j. pair_line from ps (1024 * i + j))) q) p)

    -- a page as it is put: its lines, and then the last line or nothing
    module _ (p : Puts 64512 x (lines_text from ps i) y) where
      pub page_ends : {z : Text} → i ≡ length ps / 2 / 1024 → Puts 28 y (count_text n) z → Puts 64540 x (wait_page from n ps i) z
      unfolding lines_text wait_page
      page_ends h q = puts_ends (length ps / 2) (pair_line from ps) (count_text n) i p h q

      pub page_goes_on : (i ≡ length ps / 2 / 1024 → ⊥) → Puts 64540 x (wait_page from n ps i) y
      unfolding lines_text wait_page
      page_goes_on h = puts_goes_on (length ps / 2) (pair_line from ps) (count_text n) i p 28 h

-- the pages of a reply one after the other are its whole text
pub pages_whole : (r : Reply) (bs : List ℕ) → joined (pages_of r bs) (reply_page r bs) ≡ reply_text r bs
unfolding joined
pages_whole (Err e) bs = refl
pages_whole (Ok w) bs = wait_whole w.admission w.count (listed w.count bs)
