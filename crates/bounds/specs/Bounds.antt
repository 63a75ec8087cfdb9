-- The bounds of document 01, "Bounds", from interference on, sentence by sentence (capacity, D and share: `Shares.antt` of
-- the crate `shares`), and the wait for a new window (document 02, item 8). A count of interfering transactions is in slots, and so
-- is the wait for a new window; every time is in clock cycles, and `cycles_of` is the only step from the one to the other.
--
-- interference n share       "Interference of N transactions is N × (share - 1)", in slots
-- held_slots n b p            "a channel with N transactions and budget b adds ceil(N / b) × P", in slots; "with N 0 it adds 0"
-- alone_read b l              "alone, read: tA + L × dA + pR + L × dD + B × tD"
-- alone_write b l             "alone, write: tA + L × max(dA, dD) + B × tD + pW + tB + L × dB"
-- slot_read b                 "slot time: read tA + pR + B × tD"
-- slot_write b                "write tA + B × tD + pW + tB"
-- cycles_of y s               "a count becomes cycles only through the slot time"
-- channel_time n alone y h s  "N × alone .. + Y × slot", and the wait h for a new window "× slot time of that channel": what a channel adds
--                            to the response
-- read_time b x l share       what reads add to the response of accelerator x at level l: Nr × alone read + Yr × slot read, and
--                            ceil(Nr / b) × P × slot read
-- write_time b x l share      "the same for writes"
-- response_of b x l sr sw     "The response is C + Nr × alone read + Yr × slot read, plus the same for writes", with the shares of both
--                            channels, and for each the wait for a new window
-- is_met x r                  "An accelerator meets its period if the response is at most T"
-- Contention                 what a job's transactions meet on a channel: share and interference; contention n share: that of n of them
-- Analysis                   what is known of an accelerator: level, what its reads and its writes meet, response, period, verdict
-- analysis_from b x l sr sw   that of accelerator x at level l with these shares of its reads and its writes
-- analysis_of t a             that of accelerator a, "With L the level"
-- BoundResult                what a call of `bound` answers: refused by a number, or the analysis
-- on_channel_means f           what the figures of a channel of the code stand for; figures_mean f: those of an accelerator
-- meaning_of r                the answer that the result of `bound` stands for
-- bound_of t a                "a bound 11, 7", else the analysis
use Rattle.std.specs.Prelude.{ℕ, ◌+◌, ◌*◌, ◌-◌, max, Bool, not, leb, Result, Ok, Err}
use Rattle.model.specs.declared.Tree.{Tree}
use Rattle.model.specs.declared.Bus.{Bus}
use Rattle.model.specs.declared.Accelerator.{Accelerator}
use Rattle.model.specs.declared.Channel.TheVariants.{Read, Write}
use Rattle.model.specs.declared.Refusal.{Refusal}
use Rattle.folds.specs.Fold.{pick, ceiling}
use Rattle.model.specs.Tree.{home_of, level_of, accelerator_of}
use Rattle.rules.specs.Rules.{tree_keeps}
use Rattle.shares.specs.Shares.{share_of}
use Rattle.model.specs.Answer.{number_of}
use Rattle.bounds.specs.declared.OnChannel.{OnChannel}
use Rattle.bounds.specs.declared.Figures.{Figures}

abbrev pub interference : ℕ → ℕ → ℕ
interference n share = n * (share - 1)

abbrev pub held_slots : ℕ → ℕ → ℕ → ℕ
held_slots n b p = ceiling n b * p

abbrev pub alone_read : Bus → ℕ → ℕ
alone_read b l = b.ta + l * b.da + b.pr + l * b.dd + b.burst * b.td

abbrev pub alone_write : Bus → ℕ → ℕ
alone_write b l = b.ta + l * max b.da b.dd + b.burst * b.td + b.pw + b.tb + l * b.db

abbrev pub slot_read : Bus → ℕ
slot_read b = b.ta + b.pr + b.burst * b.td

abbrev pub slot_write : Bus → ℕ
slot_write b = b.ta + b.burst * b.td + b.pw + b.tb

abbrev pub cycles_of : ℕ → ℕ → ℕ
cycles_of y s = y * s

abbrev pub channel_time : ℕ → ℕ → ℕ → ℕ → ℕ → ℕ
channel_time n alone y h s = n * alone + cycles_of (y + h) s

abbrev pub read_time : Bus → Accelerator → ℕ → ℕ → ℕ
read_time b x l share =
    channel_time x.reads (alone_read b l) (interference x.reads share) (held_slots x.reads x.budget b.window) (slot_read b)

abbrev pub write_time : Bus → Accelerator → ℕ → ℕ → ℕ
write_time b x l share =
    channel_time x.writes (alone_write b l) (interference x.writes share) (held_slots x.writes x.budget b.window) (slot_write b)

abbrev pub response_of : Bus → Accelerator → ℕ → ℕ → ℕ → ℕ
response_of b x l sr sw = x.computing + read_time b x l sr + write_time b x l sw

abbrev pub is_met : Accelerator → ℕ → Bool
is_met x r = leb r x.period

pub record Contention : Type 0 where
  pub share : ℕ
  pub interference : ℕ

abbrev pub contention : ℕ → ℕ → Contention
contention n share = record { share = share; interference = interference n share }

pub record Analysis : Type 0 where
  pub level : ℕ
  pub reads : Contention
  pub writes : Contention
  pub response : ℕ
  pub period : ℕ
  pub meets : Bool

abbrev pub analysis_from : Bus → Accelerator → ℕ → ℕ → ℕ → Analysis
analysis_from b x l sr sw =
    record {
      level = l;
      reads = contention x.reads sr;
      writes = contention x.writes sw;
      response = response_of b x l sr sw;
      period = x.period;
      meets = is_met x (response_of b x l sr sw);
    }

abbrev pub analysis_of : Tree → ℕ → Analysis
analysis_of t a =
    analysis_from t.bus (accelerator_of t a) (level_of t (home_of t a)) (share_of t Read a) (share_of t Write a)

pub data BoundResult : Type 0 where
  refused : ℕ → BoundResult
  analysed : Analysis → BoundResult

abbrev pub on_channel_means : OnChannel → Contention
on_channel_means f = record { share = f.share; interference = f.interference.0 }

abbrev pub figures_mean : Figures → Analysis
figures_mean f =
    record {
      level = f.level;
      reads = on_channel_means f.reads;
      writes = on_channel_means f.writes;
      response = f.response.0;
      period = f.period.0;
      meets = f.meets;
    }

abbrev pub meaning_of : Result Figures Refusal → BoundResult
meaning_of (Err r) = refused (number_of r)
meaning_of (Ok f) = analysed (figures_mean f)

unfoldable pub bound_of : Tree → ℕ → BoundResult
bound_of t a =
    pick (not (tree_keeps t)) (refused 11)
    (pick (leb t.accs a) (refused 7)
    (analysed (analysis_of t a)))
