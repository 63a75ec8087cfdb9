-- Texts stored one after the other are their concatenation stored at once. By induction on the first text.
use Prim.Native.Nat.{ℕ, zero, suc, ◌+◌, ◌-◌, ◌/◌, ◌%◌, ◌^◌, ◌≤◌, ◌<◌, min}
use mathlib.Core.List.{List, [], ◌∷◌, ◌++◌}
use mathlib.Core.Path.{◌≡◌, refl, ap, ap₂, sym, ◌∙◌, subst}
use native.Mathlib.Nat.{add-suc, suc-add, add-zero, zero-add}
use native.Mathlib.Omega.{arith}
use lib.ListN.{length, length-append}
use lib.Seq.{sets, sets-eq, length-sets, set_out}
use Rattle.text.specs.Write.{decimal_text}
use Rattle.put.specs.Page.{Written}
use Rattle.put.specs.Put.{Put}
use Rattle.text.proofs.Decimal.{decimal_one, decimal_more, decimal_short}

pub sets_append : (xs ys d : List ℕ) (at : ℕ) → sets (sets d at xs) (at + length xs) ys ≡ sets d at (xs ++ ys)
sets_append [] ys d at = rw add-zero
sets_append (x ∷ xs) ys d at = rw (add-suc, ← suc-add) (sets_append xs ys _ (suc at))

-- past the end of the buffer nothing is stored
sets_past : (ys l : List ℕ) (i : ℕ) → length l ≤ i → sets l i ys ≡ l
sets_past [] l i h = refl
sets_past (y ∷ ys) l i h = ap (λ (k : List ℕ). sets k (suc i) ys) (set_out l i y h) ∙ sets_past ys l (suc i) (omega arith)

-- so what follows a text that the buffer cuts short may as well follow the whole of it
sets_stop : (ys l : List ℕ) (at k n : ℕ) → (at + k) - length l ≡ n → sets l (at + min k (length l - at)) ys ≡ sets l (at + k) ys
sets_stop ys l at k zero e = ap (λ (i : ℕ). sets l i ys) (omega arith)
sets_stop ys l at k (suc n) e =
    sets_past ys l (at + min k (length l - at)) (omega arith) ∙ sym (sets_past ys l (at + k) (omega arith))

-- where the next byte goes after j bytes and then k
stop_add : (at j k n : ℕ) → (at + min j (n - at)) + min k (n - (at + min j (n - at))) ≡ at + min (j + k) (n - at)
stop_add at j k n = omega arith

pub put_none : (d : List ℕ) (at : ℕ) → Put 0 d at [] d at
put_none d at = record { stored = refl; ends = omega arith; short = omega arith }

pub put_then : {m n : ℕ} {d : List ℕ} {at : ℕ} {xs e : List ℕ} {next : ℕ} {ys f : List ℕ} {last : ℕ}
    → Put m d at xs e next → Put n e next ys f last → Put (m + n) d at (xs ++ ys) f last
put_then {m} {n} {d} {at} {xs} {e} {next} {ys} {f} {last} p q =
    let l : length e ≡ length d = ap length p.stored ∙ length-sets d at xs in
    record {
      stored =
          q.stored ∙ ap (λ (k : ℕ). sets e k ys) p.ends ∙ ap (λ (k : ℕ). sets e (at + min (length xs) (k - at)) ys) (sym l)
          ∙ sets_stop ys e at (length xs) _ refl ∙ ap (λ (k : List ℕ). sets k (at + length xs) ys) p.stored ∙ sets_append xs ys d at;
      ends =
          q.ends ∙ ap₂ (λ (i n : ℕ). i + min (length ys) (n - i)) p.ends l ∙ stop_add at (length xs) (length ys) (length d)
          ∙ ap (λ (k : ℕ). at + min k (length d - at)) (sym (length-append xs ys));
      short = omega (arith, p.short, q.short, length-append xs ys);
    }

pub put_most : {m n : ℕ} {d : List ℕ} {at : ℕ} {xs e : List ℕ} {next : ℕ} → m ≤ n → Put m d at xs e next → Put n d at xs e next
put_most h p = record { stored = p.stored; ends = p.ends; short = omega (arith, p.short) }

pub put_as : {m : ℕ} {d : List ℕ} {at : ℕ} {xs ys e : List ℕ} {next : ℕ} → xs ≡ ys → Put m d at xs e next → Put m d at ys e next
put_as {m} {d} {at} {xs} {ys} {e} {next} h p = subst (λ (l : List ℕ). Put m d at l e next) h p

pub put_laid : {m : ℕ} {d : List ℕ} {xs e : List ℕ} {next : ℕ} → Put m d 0 xs e next → m ≤ 65536 → length d ≡ 65536 → Written xs d e next
put_laid {m} {d} {xs} {e} {next} p h l =
    record {
      page = p.stored ∙ sets-eq xs d 0 (omega (arith, p.short)) ∙ rw zero-add;
      bytes = omega (arith, p.ends, p.short);
      room = omega (arith, p.ends, p.short);
    }

pub written_as : {xs ys d e : List ℕ} {n : ℕ} → xs ≡ ys → Written xs d e n → Written ys d e n
written_as {xs} {ys} {d} {e} {n} h w = subst (λ (l : List ℕ). Written l d e n) h w

-- no text leaves the page as it was
pub written_none : {xs d : List ℕ} → xs ≡ [] → Written xs d d 0
written_none h = written_as (sym h) (record { page = refl; bytes = refl; room = omega arith })

-- a number below 10 is one digit; any other is that of n / 10 and one digit more
module _ {d : List ℕ} {at : ℕ} {e : List ℕ} {last : ℕ} (n b : ℕ) where
  pub put_digit : n < 10 → b ≡ 48 + n → Put 1 d at (b ∷ []) e last → Put 20 d at (decimal_text n) e last
  put_digit h q p = put_most (omega arith) (put_as (ap (λ (x : ℕ). x ∷ []) q ∙ sym (decimal_one n h)) p)

  pub put_digits : {c : List ℕ} {next : ℕ} → 10 ≤ n → n < 2 ^ 64 → b ≡ 48 + n % 10 → Put 20 d at (decimal_text (n / 10)) c next → Put 1 c next (b ∷ []) e last
      → Put 20 d at (decimal_text n) e last
  put_digits h l q p r =
      let w = put_as (ap (λ (x : ℕ). decimal_text (n / 10) ++ x ∷ []) q ∙ sym (decimal_more n h)) (put_then p r) in
      record { stored = w.stored; ends = w.ends; short = decimal_short 19 n (omega arith) }
