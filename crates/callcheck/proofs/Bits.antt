-- A bit of the returns beside the slot in which that transaction comes home: by the test of the second machine.
use Rattle.std.proofs.Common.{◌≡◌, ℕ, Bool, true, false, not, List, sym, ap, ◌∙◌}
use Rattle.folds.proofs.Folds.{picked, passed}
use Rattle.second.specs.Machine.{is_due}
use Rattle.callcheck.specs.Same.{bit_is, same_return, same_bits}

pub bit_due : (x k a m : ℕ) (d : List ℕ) (e b : Bool) → e ≡ is_due d a m → e ≡ true → b ≡ bit_is x k → b ≡ same_return x k a m d
unfolding same_return
bit_due x k a m d e b f h g = g ∙ sym (picked _ _ _ (sym f ∙ h))

pub bit_not_due : (x k a m : ℕ) (d : List ℕ) (e b : Bool) → e ≡ is_due d a m → e ≡ false → b ≡ bit_is x k → not b ≡ same_return x k a m d
unfolding same_return
bit_not_due x k a m d e b f h g = ap not g ∙ sym (passed _ _ _ (sym f ∙ h))

-- As seen from another slot that is the same.
pub bit_in : (x k a m n : ℕ) (d : List ℕ) (b : Bool) → m ≡ n → b ≡ same_return x k a m d → b ≡ same_return x k a n d
bit_in x k a m n d b e f = f ∙ ap (λ (i : ℕ). same_return x k a i d) e

-- And of another number that is the same.
pub bits_of : (x y a n r : ℕ) (d : List ℕ) (b : Bool) → x ≡ y → b ≡ same_bits x a n r d → b ≡ same_bits y a n r d
bits_of x y a n r d b e f = f ∙ ap (λ (i : ℕ). same_bits i a n r d) e
