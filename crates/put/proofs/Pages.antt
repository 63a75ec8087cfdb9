-- A text in pages of 1,024 lines: each but the last has that many, the last one has the end of the text too, and one after the other
-- they are the whole text. By the clauses of `joined`.
use Prim.Native.Nat.{ℕ, zero, suc, ◌+◌, ◌-◌, ◌*◌, ◌/◌, ◌≤◌, min}
use mathlib.Core.List.{List, [], ◌++◌, append_assoc, append-nil}
use mathlib.Core.Path.{◌≡◌, refl, ap, ap₂, sym, ◌∙◌}
use native.Mathlib.Omega.{arith}
use lib.Dec.{eqb}
use borrow.Author.Tests.{eq-eqb, ne_eqb}
use Rattle.folds.specs.Fold.{pick}
use Rattle.folds.proofs.Folds.{picked, passed}
use Rattle.put.specs.Page.{joined}
use Rattle.put.specs.declared.Text.{Text}
use Rattle.put.specs.Texts.{Puts}
use Rattle.put.proofs.Texts.{puts_as, puts_most, puts_then}
use Rattle.put.proofs.Lines.{joined_add, joined_more}

whole_page : (n i : ℕ) → suc i ≤ n / 1024 → 1024 * i + min 1024 (n - 1024 * i) ≡ 1024 * suc i
whole_page n i h = omega arith

last_due : (n : ℕ) → 1024 * (n / 1024) + min 1024 (n - 1024 * (n / 1024)) ≡ n
last_due n = omega arith

-- n lines, line by line, and the end of the text
module _ (n : ℕ) (line : ℕ → List ℕ) (end : List ℕ) where
  -- the lines of page i, from 0, and the page
  abbrev lines_on : ℕ → List ℕ
  lines_on i = joined (min 1024 (n - 1024 * i)) (λ j. line (1024 * i + j))

  abbrev page_on : ℕ → List ℕ
  page_on i = lines_on i ++ pick (eqb i (n / 1024)) end []

  page_open : (i : ℕ) → (i ≡ n / 1024 → ⊥) → lines_on i ≡ page_on i
  page_open i h = sym (ap (λ (l : List ℕ). lines_on i ++ l) (passed _ _ _ (ne_eqb _ _ h)) ∙ append-nil _)

  page_last : (i : ℕ) → i ≡ n / 1024 → lines_on i ++ end ≡ page_on i
  page_last i h = sym (ap (λ (l : List ℕ). lines_on i ++ l) (picked _ _ _ (eq-eqb _ _ h)))

  follows : (i : ℕ) → joined (1024 * i) line ++ lines_on i ≡ joined (1024 * i + min 1024 (n - 1024 * i)) line
  follows i = sym (joined_add (1024 * i) (min 1024 (n - 1024 * i)) line)

  full : (i : ℕ) → i ≤ n / 1024 → joined i page_on ≡ joined (1024 * i) line
  unfolding joined
  full zero h = refl
  full (suc i) h =
      ap₂ (λ (x y : List ℕ). x ++ y) (full i (omega arith)) (sym (page_open i (omega arith)))
      ∙ follows i ∙ ap (λ (k : ℕ). joined k line) (whole_page n i h)

  -- the pages one after the other are the whole text
  pub pages_joined : joined (n / 1024 + 1) page_on ≡ joined n line ++ end
  pages_joined =
      let q = n / 1024 in
      joined_more q page_on
      ∙ ap₂ (λ (x y : List ℕ). x ++ y) (full q (omega arith)) (sym (page_last q refl))
      ∙ sym (append_assoc (joined (1024 * q) line) (lines_on q) end)
      ∙ ap (λ (l : List ℕ). l ++ end) (follows q ∙ ap (λ (k : ℕ). joined k line) (last_due n))

  -- a page as it is put: its lines, and then the end of the text or nothing
  module _ {m : ℕ} {a b : Text} (i : ℕ) (p : Puts m a (lines_on i) b) where
    pub puts_ends : {k : ℕ} {c : Text} → i ≡ n / 1024 → Puts k b end c → Puts (m + k) a (page_on i) c
    puts_ends h q = puts_as (page_last i h) (puts_then p q)

    pub puts_goes_on : (k : ℕ) → (i ≡ n / 1024 → ⊥) → Puts (m + k) a (page_on i) b
    puts_goes_on k h = puts_most (omega arith) (puts_as (page_open i h) p)
