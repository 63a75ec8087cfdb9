-- What is on a page of slots. By the clauses of the definitions.
use Prim.Native.Nat.{ℕ, ◌+◌, ◌-◌, ◌*◌, ◌/◌}
use mathlib.Core.Bool.{Bool}
use mathlib.Core.List.{List}
use mathlib.Core.Path.{◌≡◌, ap}
use native.Mathlib.Nat.{min-le_left}
use native.Mathlib.Omega.{arith}
use lib.ListN.{length, get_or}
use Rattle.put.specs.Page.{joined}
use Rattle.journal.specs.Journal.{slot_text, slots_due, slots_text, end_text, run_text, pages, page_text}
use Rattle.put.specs.declared.Text.{Text}
use Rattle.put.specs.Texts.{Puts}
use Rattle.put.proofs.Texts.{puts_most, puts_as}
use Rattle.put.proofs.Pages.{pages_joined, puts_ends, puts_goes_on}

pub slots_end : {a b : Text} (bs : List ℕ) (first : ℕ) {i : ℕ} → i ≡ slots_due (length bs) first
    → Puts (42 * i) a (joined i (λ j. slot_text (first + j) (get_or bs (first + j) 0))) b → Puts 43008 a (slots_text bs first) b
unfolding slots_text
slots_end bs first e p =
    puts_most (omega (arith, min-le_left 1024 (length bs - first)))
    (puts_as (ap (λ (n : ℕ). joined n (λ j. slot_text (first + j) (get_or bs (first + j) 0))) e) p)

module _ (bs : List ℕ) (b : Bool) where
  abbrev line_of : ℕ → List ℕ
  line_of i = slot_text i (get_or bs i 0)

  -- the pages of a run one after the other are its whole text
  pub pages_whole : joined (pages (length bs)) (λ i. page_text bs i b) ≡ run_text bs b
  unfolding slots_text page_text
  pages_whole = pages_joined (length bs) line_of (end_text b (length bs))

  -- a page as it is put: the lines of its slots, and then the last line or nothing
  module _ {x y : Text} (i : ℕ) (p : Puts 43008 x (slots_text bs (1024 * i)) y) where
    pub page_ends : {z : Text} → i ≡ length bs / 1024 → Puts 29 y (end_text b (length bs)) z → Puts 43037 x (page_text bs i b) z
    unfolding slots_text page_text
    page_ends h q = puts_ends (length bs) line_of (end_text b (length bs)) i p h q

    pub page_goes_on : (i ≡ length bs / 1024 → ⊥) → Puts 43037 x (page_text bs i b) y
    unfolding slots_text page_text
    page_goes_on h = puts_goes_on (length bs) line_of (end_text b (length bs)) i p 29 h
