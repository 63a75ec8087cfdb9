-- Parts of a text that are put one after the other are their concatenation put at once.
use Prim.Native.Nat.{ℕ, ◌+◌, ◌/◌, ◌%◌, ◌^◌, ◌≤◌, ◌<◌}
use mathlib.Core.List.{List, [], ◌∷◌, ◌++◌}
use mathlib.Core.Path.{◌≡◌, refl, sym, ◌∙◌, subst}
use native.Mathlib.Numerals.{add-one}
use native.Mathlib.Omega.{arith}
use lib.ListN.{length, take, get_or}
use lib.Seq.{take-suc}
use Rattle.text.specs.Write.{decimal_text}
use Rattle.put.specs.declared.Text.{Text}
use Rattle.put.specs.Page.{Written}
use Rattle.put.specs.Put.{Put}
use Rattle.put.specs.Texts.{Puts}
use Rattle.put.proofs.Puts.{put_none, put_then, put_most, put_as, put_digit, put_digits, put_laid}

pub puts_none : (a : Text) → Puts 0 a [] a
puts_none a = record { buffer = refl; part = put_none _ _ }

pub puts_then : {m n : ℕ} {a b c : Text} {xs ys : List ℕ} → Puts m a xs b → Puts n b ys c → Puts (m + n) a (xs ++ ys) c
puts_then p q = record { buffer = q.buffer ∙ p.buffer; part = put_then p.part q.part }

pub puts_most : {m n : ℕ} {a b : Text} {xs : List ℕ} → m ≤ n → Puts m a xs b → Puts n a xs b
puts_most h p = record { buffer = p.buffer; part = put_most h p.part }

pub puts_as : {m : ℕ} {a b : Text} {xs ys : List ℕ} → xs ≡ ys → Puts m a xs b → Puts m a ys b
puts_as h p = record { buffer = p.buffer; part = put_as h p.part }

-- one more byte of a part that is put byte by byte
pub puts_next : {a b c : Text} (xs : List ℕ) (i : ℕ) → i < length xs → Puts i a (take i xs) b → Puts 1 b (get_or xs i 0 ∷ []) c → Puts (i + 1) a (take (i + 1) xs) c
puts_next xs i h p q = puts_as (sym (take-suc xs i 0 h) ∙ rw add-one) (puts_then p q)

-- a number below 10 is one digit; any other is that of n / 10 and one digit more
module _ {a c : Text} (n : ℕ) where
  pub puts_digit : n < 10 → Puts 1 a ((48 + n % 10) ∷ []) c → Puts 20 a (decimal_text n) c
  puts_digit h p = record { buffer = p.buffer; part = put_digit n _ h (omega arith) p.part }

  pub puts_digits : {b : Text} → 10 ≤ n → n < 2 ^ 64 → Puts 20 a (decimal_text (n / 10)) b → Puts 1 b ((48 + n % 10) ∷ []) c → Puts 20 a (decimal_text n) c
  puts_digits h l p q =
      record { buffer = q.buffer ∙ p.buffer; part = put_digits n _ h l refl p.part q.part }

-- the first part of a text is put at the start of its buffer
pub puts_first : {m : ℕ} {a b : Text} {xs d : List ℕ} {n : ℕ} → a.out.now ≡ d → a.len ≡ 0 → Puts m a xs b → n ≡ b.len → Put m d 0 xs b.out.now n
puts_first {m} {a} {b} {xs} {d} e z p k =
    subst (λ (i : ℕ). Put m d 0 xs b.out.now i) (sym k)
    (subst (λ (i : ℕ). Put m d i xs b.out.now b.len) z (subst (λ (r : List ℕ). Put m r a.len xs b.out.now b.len) e p.part))

-- a text of a page that was empty: how long it is, and the page with it
pub puts_laid : {m : ℕ} {a b : Text} {xs d : List ℕ} {n : ℕ} → a.out.now ≡ d → a.len ≡ 0 → Puts m a xs b → n ≡ b.len → m ≤ 65536 → length d ≡ 65536
    → Written xs d b.out.now n
puts_laid e z p k h l = put_laid (puts_first e z p k) h l
