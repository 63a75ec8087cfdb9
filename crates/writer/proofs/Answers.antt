-- What the writer answers and leaves in the buffer, test by test in the definition's order.
use Prim.Native.Nat.{ℕ, ◌≤◌, ◌<◌}
use mathlib.Core.Bool.{Bool, true, false, not}
use mathlib.Core.List.{List, ◌++◌}
use mathlib.Core.Path.{◌≡◌, ap, ap₂, sym, ◌∙◌}
use native.Mathlib.Nat.{zero-add}
use native.Mathlib.Omega.{arith}
use lib.ListN.{length, take, drop}
use lib.Seq.{sets-eq, take_at}
use borrow.Author.Tests.{lt-ltb, le-ltb, not-false}
use Rattle.folds.proofs.Folds.{picked, passed}
use Rattle.model.specs.declared.Tree.{Tree}
use Rattle.rules.specs.Rules.{tree_keeps}
use Rattle.put.specs.Page.{laid}
use Rattle.writer.specs.Writer.{written_text, refused_at, denied, wrote, write_of, write_buffer, Stored}
use Rattle.writer.proofs.Length.{written_length}

-- a text that has room in a buffer stands at its start
pub stored_laid : (xs d e : List ℕ) (n : ℕ) → Stored xs d 0 e n → length xs ≤ length d → (n ≡ length xs) × (e ≡ laid xs d)
stored_laid xs d e n p h = (omega (arith, p.ends), p.stored ∙ sets-eq xs d 0 (omega arith) ∙ rw zero-add)

-- the text in a buffer of 2,048 bytes
module _ (t : Tree) (k : tree_keeps t ≡ true) (z f : List ℕ) (n : ℕ) (p : Stored (written_text t) z 0 f n) (l : length z ≡ 2048) where
  room : length (written_text t) ≤ length z
  room = omega (arith, written_length t k)

  pub text_length : n ≡ length (written_text t)
  text_length = (stored_laid (written_text t) z f n p room).0

  pub text_bytes : take n f ≡ written_text t
  text_bytes = ap (take n) (stored_laid (written_text t) z f n p room).1 ∙ take_at (written_text t) (drop (length (written_text t)) z) n (sym text_length)

module _ (t : Tree) (d : List ℕ) {keeps : Bool} (q : keeps ≡ tree_keeps t) where
  pub kept : not keeps ≡ false → tree_keeps t ≡ true
  kept b = sym q ∙ not-false _ b

  pub by_rules : not keeps ≡ true → (denied 11 ≡ write_of t (length d)) × (d ≡ write_buffer t d)
  unfolding write_of write_buffer
  by_rules b = let c = ap not (sym q) ∙ b in (sym (picked _ _ _ c), sym (picked _ _ _ c))

  module _ (b : not keeps ≡ false) where
    pub by_size : 65536 < length d → (refused_at 2 0 ≡ write_of t (length d)) × (d ≡ write_buffer t d)
    unfolding write_of write_buffer
    by_size h =
        let c = ap not (sym q) ∙ b in
        (sym (passed _ _ _ c ∙ picked _ _ _ (lt-ltb _ _ h)), sym (passed _ _ _ c ∙ picked _ _ _ (lt-ltb _ _ h)))

    module _ (h : length d ≤ 65536) {n : ℕ} (m : n ≡ length (written_text t)) where
      pub by_room : length d < n → (denied 13 ≡ write_of t (length d)) × (d ≡ write_buffer t d)
      unfolding write_of write_buffer
      by_room s =
          let c = ap not (sym q) ∙ b in
          let r = lt-ltb (length d) (length (written_text t)) (omega arith) in
          (sym (passed _ _ _ c ∙ passed _ _ _ (le-ltb _ _ h) ∙ picked _ _ _ r), sym (passed _ _ _ c ∙ passed _ _ _ (le-ltb _ _ h) ∙ picked _ _ _ r))

      pub by_text : n ≤ length d → (xs : List ℕ) → xs ≡ written_text t → (wrote n ≡ write_of t (length d)) × (xs ++ drop n d ≡ write_buffer t d)
      unfolding write_of write_buffer
      by_text s xs w =
          let c = ap not (sym q) ∙ b in
          let r = le-ltb (length d) (length (written_text t)) (omega arith) in (
            ap wrote m ∙ sym (passed _ _ _ c ∙ passed _ _ _ (le-ltb _ _ h) ∙ passed _ _ _ r),
            ap₂ (λ (l : List ℕ) (k : ℕ). l ++ drop k d) w m ∙ sym (passed _ _ _ c ∙ passed _ _ _ (le-ltb _ _ h) ∙ passed _ _ _ r),
          )
