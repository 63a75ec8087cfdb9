-- Bytes and admissions of two lists of events, one after the other. By induction on the first.
use Prim.Native.Nat.{ℕ, ◌+◌}
use mathlib.Core.List.{List, [], ◌∷◌, ◌++◌, append_assoc}
use mathlib.Core.Path.{◌≡◌, refl, sym, ◌∙◌, ap}
use native.Mathlib.Omega.{arith}
use Rattle.guarantee.specs.Guarantee.{Event}
use Rattle.guarantee.specs.Windows.{admissions_by}
use Rattle.runs.specs.Calls.{byte_in, bytes_in}

pub bytes_append : (es fs : List Event) → bytes_in (es ++ fs) ≡ bytes_in es ++ bytes_in fs
unfolding bytes_in
bytes_append [] fs = refl
bytes_append (e ∷ es) fs =
    ap (λ (bs : List ℕ). byte_in e.call e.answer ++ bs) (bytes_append es fs)
    ∙ sym (append_assoc (byte_in e.call e.answer) (bytes_in es) (bytes_in fs))

pub admissions_append : (a : ℕ) (es fs : List Event) → admissions_by a (es ++ fs) ≡ admissions_by a es + admissions_by a fs
unfolding admissions_by
admissions_append a [] fs = omega arith
admissions_append a (e ∷ es) fs = omega (arith, admissions_append a es fs)
