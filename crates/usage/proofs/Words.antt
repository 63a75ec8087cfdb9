-- What a program of one file does, test by test in the definition's order: each test is that of the definition, by the contracts of
-- the calls.
use Prim.Native.Nat.{ℕ}
use mathlib.Core.Bool.{Bool, true, false, ◌||◌}
use mathlib.Core.List.{List}
use mathlib.Core.Path.{◌≡◌, ap, sym, ◌∙◌}
use lib.Dec.{ltb}
use borrow.Author.Tests.{eq-eqb, ne_eqb}
use Rattle.folds.proofs.Folds.{picked, passed}
use Rattle.usage.specs.declared.Asked.TheVariants.{Usage, Help, Run}
use Rattle.usage.specs.declared.Source.TheVariants.{Input, File}
use Rattle.usage.specs.Usage.{help_asked, is_option, file_asked}

module _ (n : ℕ) (a b c : List ℕ) (t : Bool) where
  pub by_help : {h : Bool} → h ≡ help_asked a b c → h ≡ true → Help ≡ file_asked n a b c t
  unfolding file_asked
  by_help p e = sym (picked _ _ _ (sym p ∙ e))

  module _ {h o : Bool} (p : h ≡ help_asked a b c) (e : h ≡ false) (q : o ≡ is_option a) where
    pub by_words : ltb 1 n || o ≡ true → Usage ≡ file_asked n a b c t
    unfolding file_asked
    by_words f = sym (passed _ _ _ (sym p ∙ e) ∙ picked _ _ _ (ap (◌||◌ (ltb 1 n)) (sym q) ∙ f))

    module _ (f : ltb 1 n || o ≡ false) where
      pub by_name : n ≡ 1 → Run File ≡ file_asked n a b c t
      unfolding file_asked
      by_name g = sym (passed _ _ _ (sym p ∙ e) ∙ passed _ _ _ (ap (◌||◌ (ltb 1 n)) (sym q) ∙ f) ∙ picked _ _ _ (eq-eqb _ _ g))

      module _ (g : n ≡ 1 → ⊥) where
        pub by_terminal : t ≡ true → Usage ≡ file_asked n a b c t
        unfolding file_asked
        by_terminal k = sym (passed _ _ _ (sym p ∙ e) ∙ passed _ _ _ (ap (◌||◌ (ltb 1 n)) (sym q) ∙ f) ∙ passed _ _ _ (ne_eqb _ _ g) ∙ picked _ _ _ k)

        pub by_input : t ≡ false → Run Input ≡ file_asked n a b c t
        unfolding file_asked
        by_input k = sym (passed _ _ _ (sym p ∙ e) ∙ passed _ _ _ (ap (◌||◌ (ltb 1 n)) (sym q) ∙ f) ∙ passed _ _ _ (ne_eqb _ _ g) ∙ passed _ _ _ k)
