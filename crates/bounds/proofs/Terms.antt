-- A channel's time and a row are determined by their parts. By congruence.
use Prim.Native.Nat.{ℕ}
use mathlib.Core.Path.{◌≡◌, ap}
use Rattle.model.specs.declared.Bus.{Bus}
use Rattle.model.specs.declared.Accelerator.{Accelerator}
use Rattle.bounds.specs.Bounds.{interference, Contention, contention, channel_time, response_of, is_met, analysis_from}

pub channel : (n alone y held slot a i k s r : ℕ) → r ≡ channel_time n a i k s → a ≡ alone → i ≡ y → k ≡ held → s ≡ slot
    → r ≡ channel_time n alone y held slot
channel n alone y held slot a i k s r e f g h j = cc

pub met : (n share y : ℕ) → y ≡ interference n share → record { share = share; interference = y } ≡ contention n share
met n share y e = ap (λ (k : ℕ). record { share = share; interference = k }) e

pub row : (b : Bus) (x : Accelerator) (l sr sw response : ℕ) (reads writes : Contention) → reads ≡ contention x.reads sr
    → writes ≡ contention x.writes sw → response ≡ response_of b x l sr sw
    → record { level = l; reads = reads; writes = writes; response = response; period = x.period; meets = is_met x response }
    ≡ analysis_from b x l sr sw
row b x l sr sw response reads writes e f g = cc
