-- The words of `simulate`: the tests are those of the definition.
use Prim.Native.Nat.{ℕ}
use mathlib.Core.Bool.{Bool, true, false, ◌&&◌, ◌||◌}
use mathlib.Core.List.{List}
use mathlib.Core.Path.{◌≡◌, ap, ap₂, sym, ◌∙◌}
use lib.Dec.{leb}
use borrow.Author.Tests.{eq-eqb, ne_eqb}
use Rattle.folds.specs.Fold.{within}
use Rattle.folds.proofs.Folds.{picked, passed}
use Rattle.model.specs.declared.Channel.{Channel}
use Rattle.std.specs.Prelude.{Option, Some, None}
use Rattle.usage.specs.declared.Asked.{Asked}
use Rattle.usage.specs.declared.Asked.TheVariants.{Usage, Help}
use Rattle.usage.specs.Usage.{asks_help, help_asked, two_files, channel_asked, plain_number, number_asked}
use Rattle.usage.proofs.Numbers.{said_plain, said_number}
use Rattle.simulation.specs.declared.Simulation.{Simulation}
use Rattle.simulation.specs.Simulation.{over_slots, slots_asked, run_asked, simulate_asked}

-- the word SLOTS, as it was read
module _ (h : Channel) (w : List ℕ) (x : Option ℕ) (e : x ≡ number_asked w 65537) where
  pub slots_none : x ≡ None → Usage ≡ slots_asked h w
  unfolding slots_asked
  slots_none n = sym (passed _ _ _ (said_plain w 65537 None (sym n ∙ e)))

  pub slots_said : (k : ℕ) → x ≡ Some k → over_slots h k ≡ slots_asked h w
  unfolding slots_asked
  slots_said k n =
      let p : plain_number w ≡ true = said_plain w 65537 (Some k) (sym n ∙ e) in
      ap (over_slots h) (said_number w 65537 (Some k) (sym n ∙ e) p) ∙ sym (picked _ _ _ p)

-- the words CHANNEL and SLOTS, the one as it was read
module _ (n : ℕ) (k c : List ℕ) (y : Option Channel) (e : y ≡ channel_asked k) where
  as_read : (z : Option Channel) → y ≡ z → run_asked n (channel_asked k) c ≡ run_asked n z c
  as_read z f = ap (λ (w : Option Channel). run_asked n w c) (sym e ∙ f)

  pub by_no_channel : y ≡ None → Usage ≡ run_asked n (channel_asked k) c
  by_no_channel f = sym (as_read None f)

  module _ (h : Channel) (f : y ≡ Some h) where
    pub by_default : n ≡ 3 → over_slots h 65536 ≡ run_asked n (channel_asked k) c
    by_default g = sym (as_read (Some h) f ∙ picked _ _ _ (eq-eqb _ _ g))

    pub by_slots : (n ≡ 3 → ⊥) → {x : Asked Simulation} → x ≡ slots_asked h c → x ≡ run_asked n (channel_asked k) c
    by_slots g w = w ∙ sym (as_read (Some h) f ∙ passed _ _ _ (ne_eqb _ _ g))

-- what `simulate` does, test by test in the definition's order
module _ (n : ℕ) (k a b c : List ℕ) {h j : Bool} (p : h ≡ help_asked k a b) (q : j ≡ asks_help c) where
  pub by_help : h || j ≡ true → Help ≡ simulate_asked n k a b c
  unfolding simulate_asked
  by_help e = sym (picked _ _ _ (sym (ap₂ ◌||◌ p q) ∙ e))

  module _ (e : h || j ≡ false) {f : Bool} (r : f ≡ two_files a b) where
    pub by_words : (leb 3 n && leb n 4) && f ≡ false → Usage ≡ simulate_asked n k a b c
    unfolding simulate_asked
    by_words g =
        sym (passed _ _ _ (sym (ap₂ ◌||◌ p q) ∙ e) ∙ passed _ _ _ (ap (λ (x : Bool). within 3 n 4 && x) (sym r) ∙ g))

    pub by_run : (leb 3 n && leb n 4) && f ≡ true → {x : Asked Simulation} → x ≡ run_asked n (channel_asked k) c → x ≡ simulate_asked n k a b c
    unfolding simulate_asked
    by_run g w =
        w ∙ sym (passed _ _ _ (sym (ap₂ ◌||◌ p q) ∙ e) ∙ picked _ _ _ (ap (λ (x : Bool). within 3 n 4 && x) (sym r) ∙ g))
