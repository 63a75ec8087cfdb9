-- The words of `split`: the tests are those of the definitions, by the contracts of the calls.
use Prim.Native.Nat.{ℕ}
use mathlib.Core.Bool.{Bool, true, false, ◌&&◌, ◌||◌, not, and-false}
use mathlib.Core.List.{List}
use mathlib.Core.Path.{◌≡◌, ap, ap₂, sym, ◌∙◌}
use lib.Dec.{eqb}
use Rattle.folds.proofs.Folds.{picked, passed}
use Rattle.std.specs.Prelude.{Option, Some, None}
use Rattle.usage.specs.declared.Asked.{Asked}
use Rattle.usage.specs.declared.Asked.TheVariants.{Usage, Help, Run}
use Rattle.burst.specs.declared.Burst.{Burst}
use Rattle.usage.specs.Usage.{asks_help, help_asked, is_option, plain_number, number_asked, address_asked}
use Rattle.usage.proofs.Numbers.{said_plain, said_number}
use Rattle.splitting.specs.Splitting.{most_number, burst_asked, split_asked}

-- the words ADDRESS, BEATS and SIZE, as they were read
module _ (b c d : List ℕ) (w : Option ℕ) (g : w ≡ address_asked b) where
  as_read : (v : Option ℕ) → w ≡ v → burst_asked v c d ≡ burst_asked (address_asked b) c d
  as_read v o = ap (λ (z : Option ℕ). burst_asked z c d) (sym o ∙ g)

  pub no_address : w ≡ None → Usage ≡ burst_asked (address_asked b) c d
  unfolding burst_asked
  no_address o = as_read None o

  module _ (h : ℕ) (o : w ≡ Some h) (x y : Option ℕ) (e : x ≡ number_asked c most_number) (f : y ≡ number_asked d most_number) where
    pub no_beats : x ≡ None → Usage ≡ burst_asked (address_asked b) c d
    unfolding burst_asked
    no_beats n =
        sym (passed _ _ _ (ap (λ (t : Bool). t && plain_number d) (said_plain c most_number None (sym n ∙ e)))) ∙ as_read (Some h) o

    pub no_size : y ≡ None → Usage ≡ burst_asked (address_asked b) c d
    unfolding burst_asked
    no_size n =
        sym (passed _ _ _ (ap (λ (t : Bool). plain_number c && t) (said_plain d most_number None (sym n ∙ f)) ∙ and-false (plain_number c)))
        ∙ as_read (Some h) o

    pub all_said : (i : ℕ) → x ≡ Some i → (j : ℕ) → y ≡ Some j
        → Run (record { start = h; beats = i; size = j }) ≡ burst_asked (address_asked b) c d
    unfolding burst_asked
    all_said i p j q =
        let r : plain_number c ≡ true = said_plain c most_number (Some i) (sym p ∙ e) in
        let s : plain_number d ≡ true = said_plain d most_number (Some j) (sym q ∙ f) in
        ap₂ (λ (k m : ℕ). Run (record { start = h; beats = k; size = m }))
        (said_number c most_number (Some i) (sym p ∙ e) r)
        (said_number d most_number (Some j) (sym q ∙ f) s)
        ∙ sym (picked _ _ _ (ap₂ ◌&&◌ r s)) ∙ as_read (Some h) o

-- what `split` does, test by test in the definition's order
module _ (n : ℕ) (a b c d : List ℕ) {h i : Bool} (p : h ≡ help_asked a b c) (q : i ≡ asks_help d) where
  asked : h || i ≡ help_asked a b c || asks_help d
  asked = ap₂ ◌||◌ p q

  pub by_help : h || i ≡ true → Help ≡ split_asked n a b c d
  unfolding split_asked
  by_help e = sym (picked _ _ _ (sym asked ∙ e))

  module _ (e : h || i ≡ false) {f : Bool} (t : f ≡ is_option a) where
    pub by_words : eqb n 4 && not f ≡ false → Usage ≡ split_asked n a b c d
    unfolding split_asked
    by_words g = sym (passed _ _ _ (sym asked ∙ e) ∙ passed _ _ _ (ap (λ (x : Bool). eqb n 4 && not x) (sym t) ∙ g))

    pub by_burst : eqb n 4 && not f ≡ true → {x : Asked Burst} → x ≡ burst_asked (address_asked b) c d → x ≡ split_asked n a b c d
    unfolding split_asked
    by_burst g w = w ∙ sym (passed _ _ _ (sym asked ∙ e) ∙ picked _ _ _ (ap (λ (x : Bool). eqb n 4 && not x) (sym t) ∙ g))
