-- A test of two numbers is that of what they are equal to.
use Rattle.std.proofs.Common.{◌≡◌, ℕ, eqb}

pub eqb_cong : {a b x y : ℕ} → a ≡ x → b ≡ y → eqb a b ≡ eqb x y
eqb_cong e f = cc
