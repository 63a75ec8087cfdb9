-- What is shown of the splitter (document 02, item 6), for every burst that it splits and every limit on its beats.
--
-- beat_first b j        the first byte of beat j of the burst b, beats counted from 0: the first beat begins at the start address, each
--                       later one at a multiple of the beat size
-- beat_last b j         its last byte
-- Falls n b j           "Each beat falls in exactly one piece": beat j of the burst b is beat `beat` of piece `piece`, read as a burst of
--                       its own, byte for byte, and no other beat of a piece begins where it does
-- Splitting limit n b k what is shown of the k pieces of n beats
use Rattle.std.specs.Prelude.{ℕ, ◌+◌, ◌*◌, ◌-◌, ◌≤◌, ◌<◌, false, ◌≡◌, eqb}
use Rattle.folds.specs.Fold.{pick, sum, ceiling}
use Rattle.burst.specs.declared.Burst.{Burst}
use Rattle.burst.specs.Burst.{low_of, crosses_page, pieces_of, beats_of, start_of, piece_of}

abbrev pub beat_first : Burst → ℕ → ℕ
beat_first b j = pick (eqb j 0) b.start (low_of b + j * b.size)

abbrev pub beat_last : Burst → ℕ → ℕ
beat_last b j = low_of b + (j + 1) * b.size - 1

pub record Falls (n : ℕ) (b : Burst) (j : ℕ) : Type 0 where
  pub piece : ℕ
  pub beat : ℕ
  pub there : piece < pieces_of n b
  pub inside : beat < beats_of n b piece
  pub first : beat_first (piece_of n b piece) beat ≡ beat_first b j
  pub last : beat_last (piece_of n b piece) beat ≡ beat_last b j
  pub once : (i m : ℕ) → i < pieces_of n b → m < beats_of n b i → beat_first (piece_of n b i) m ≡ beat_first b j → (i ≡ piece) × (m ≡ beat)

pub record Splitting (limit n : ℕ) (b : Burst) (k : ℕ) : Type 0 where
  -- "each piece has B beats except perhaps the last, which has 1 to B"
  pub full : (i : ℕ) → i + 1 < k → beats_of n b i ≡ n
  pub last : (i : ℕ) → i + 1 ≡ k → (1 ≤ beats_of n b i) × (beats_of n b i ≤ n)
  -- "The first piece keeps the start address, and each later one starts at the start address rounded down to the beat size, plus
  -- beats before it × beat size"
  pub first_start : start_of n b 0 ≡ b.start
  pub later_start : (i : ℕ) → 1 ≤ i → i < k → start_of n b i ≡ low_of b + sum i (beats_of n b) * b.size
  -- "Each beat falls in exactly one piece"
  pub each_beat : (j : ℕ) → j < b.beats → Falls n b j
  -- "the beats total the original count"
  pub total : sum k (beats_of n b) ≡ b.beats
  -- "no piece crosses a multiple of 4,096 bytes"
  pub one_page : (i : ℕ) → i < k → crosses_page (piece_of n b i) ≡ false
  -- a start address has 32 bits, as the burst's has
  pub addresses : (i : ℕ) → i < k → b.start < 4294967296 → start_of n b i < 4294967296
  -- as many pieces as the beats need: at least one, and no more than beats
  pub count : (k ≡ ceiling b.beats n) × (1 ≤ k) × (k ≤ limit)
