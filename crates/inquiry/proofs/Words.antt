-- The words of `why`: the tests are those of the definitions, by the contracts of the calls.
use Prim.Native.Nat.{ℕ, ◌≤◌, min}
use mathlib.Core.Bool.{Bool, true, false, ◌&&◌, ◌||◌, and-false}
use mathlib.Core.List.{List}
use mathlib.Core.Path.{◌≡◌, ap, ap₂, sym, ◌∙◌}
use native.Mathlib.Omega.{arith}
use lib.Dec.{eqb}
use Rattle.folds.proofs.Folds.{picked, passed}
use Rattle.text.specs.Text.{decimal}
use Rattle.model.specs.declared.Channel.{Channel}
use Rattle.std.specs.Prelude.{Option, Some, None}
use Rattle.usage.specs.declared.Asked.{Asked}
use Rattle.usage.specs.declared.Asked.TheVariants.{Usage, Help}
use Rattle.usage.specs.Usage.{asks_help, help_asked, two_files, channel_asked, plain_number, number_asked}
use Rattle.usage.proofs.Numbers.{said_plain, said_number}
use Rattle.inquiry.specs.declared.Transaction.{Transaction}
use Rattle.inquiry.specs.Inquiry.{wait_on, wait_asked, why_asked}

-- the word ACC, as it was read
module _ (c : List ℕ) (x : Option ℕ) (e : x ≡ number_asked c 255) (i : ℕ) (p : x ≡ Some i) where
  plain_acc : plain_number c ≡ true
  plain_acc = said_plain c 255 (Some i) (sym p ∙ e)

  acc_said : i ≡ min (decimal c) 255
  acc_said = said_number c 255 (Some i) (sym p ∙ e) plain_acc

  pub acc_most_lem : i ≤ 255
  acc_most_lem = omega (arith, acc_said)

-- the words CHANNEL, ACC and NUMBER, as they were read
module _ (k c d : List ℕ) (w : Option Channel) (g : w ≡ channel_asked k) where
  as_read : (v : Option Channel) → w ≡ v → wait_asked v c d ≡ wait_asked (channel_asked k) c d
  as_read v o = ap (λ (z : Option Channel). wait_asked z c d) (sym o ∙ g)

  pub no_channel : w ≡ None → Usage ≡ wait_asked (channel_asked k) c d
  unfolding wait_asked
  no_channel o = as_read None o

  module _ (h : Channel) (o : w ≡ Some h) (x y : Option ℕ) (e : x ≡ number_asked c 255) (f : y ≡ number_asked d 4294967295) where
    pub no_acc : x ≡ None → Usage ≡ wait_asked (channel_asked k) c d
    unfolding wait_asked
    no_acc n =
        sym (passed _ _ _ (ap (λ (b : Bool). b && plain_number d) (said_plain c 255 None (sym n ∙ e)))) ∙ as_read (Some h) o

    pub no_number : y ≡ None → Usage ≡ wait_asked (channel_asked k) c d
    unfolding wait_asked
    no_number n =
        sym (passed _ _ _ (ap (λ (b : Bool). plain_number c && b) (said_plain d 4294967295 None (sym n ∙ f)) ∙ and-false (plain_number c)))
        ∙ as_read (Some h) o

    pub all_said : (i : ℕ) → x ≡ Some i → (j : ℕ) → y ≡ Some j → wait_on h i j ≡ wait_asked (channel_asked k) c d
    unfolding wait_asked
    all_said i p j q =
        let r : plain_number d ≡ true = said_plain d 4294967295 (Some j) (sym q ∙ f) in
        ap₂ (wait_on h) (acc_said c x e i p) (said_number d 4294967295 (Some j) (sym q ∙ f) r)
        ∙ sym (picked _ _ _ (ap₂ ◌&&◌ (plain_acc c x e i p) r)) ∙ as_read (Some h) o

-- what `why` does, test by test in the definition's order
module _ (n : ℕ) (k a b c d : List ℕ) {h i j : Bool} (p : h ≡ help_asked k a b) (q : i ≡ asks_help c) (r : j ≡ asks_help d) where
  asked : (h || i) || j ≡ (help_asked k a b || asks_help c) || asks_help d
  asked = ap₂ ◌||◌ (ap₂ ◌||◌ p q) r

  pub by_help : (h || i) || j ≡ true → Help ≡ why_asked n k a b c d
  unfolding why_asked
  by_help e = sym (picked _ _ _ (sym asked ∙ e))

  module _ (e : (h || i) || j ≡ false) {f : Bool} (t : f ≡ two_files a b) where
    pub by_words : eqb n 5 && f ≡ false → Usage ≡ why_asked n k a b c d
    unfolding why_asked
    by_words g = sym (passed _ _ _ (sym asked ∙ e) ∙ passed _ _ _ (ap (λ (x : Bool). eqb n 5 && x) (sym t) ∙ g))

    pub by_wait : eqb n 5 && f ≡ true → {x : Asked Transaction} → x ≡ wait_asked (channel_asked k) c d → x ≡ why_asked n k a b c d
    unfolding why_asked
    by_wait g w = w ∙ sym (passed _ _ _ (sym asked ∙ e) ∙ picked _ _ _ (ap (λ (x : Bool). eqb n 5 && x) (sym t) ∙ g))
