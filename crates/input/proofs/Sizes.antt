-- What one read or write did, by its answer: an error stays, and no more bytes are moved than were asked for.
use Rattle.std.proofs.Common.{◌≡◌, ◌≤◌, ℕ, arith, refl, subst}
use Rattle.std.specs.Prelude.{Result, Ok, Err, IfOk}
use Rattle.input.specs.Input.{answer_of}

pub read_within : {E : Type 0} {x : Result ℕ E} {n k : ℕ} → x ≡ Ok n → IfOk x (λ m. m ≤ k) → n ≤ k
read_within {E} {x} {n} {k} e h = subst (λ (y : Result ℕ E). IfOk y (λ m. m ≤ k)) e h

pub answer_failed : {E : Type 0} (e : E) (n : ℕ) → answer_of (Err e) n ≡ Err e
answer_failed e n = refl

pub answer_within : {E : Type 0} (x : Result ℕ E) (n : ℕ) → IfOk (answer_of x n) (λ m. m ≤ n)
answer_within (Ok k) n = omega arith
answer_within (Err e) n = tt
