-- The burst splitter (document 02, items 6 and 7). n is the nominal burst length B of the tree, and `limit` the most beats that a burst
-- may have: all that is said here and shown of it (`Splitting`) is "for a limit as parameter". A tree has one of two limits, `beat_limit`.
--
-- Burst                  a burst: "a start address of 32 bits, 1 to 256 beats, and a beat size"
-- most_beats             the greater of the two limits, "1 to 256 beats": no burst has more pieces, so the arrays have that many entries
-- is_size z              "a beat size of 1, 2, 4 up to 128 bytes, powers of two only"
-- low_of b               "the start address rounded down to the beat size"
-- last_byte b            "Its bytes run from the start address to the start address rounded down to the beat size, plus beats × beat size,
--                        less 1"
-- page_of x              which of the blocks of 4,096 bytes has the byte of address x
-- crosses_page b         "a burst that crosses a multiple of 4,096": its first and its last byte lie on two sides of one
-- is_burst limit b       neither "0 or over 256 beats" nor "a bad beat size"; with the older limit 16, as item 7 says: "Anything over the older
--                        limit gets the number it gets today for the newer one"
-- pieces_of n b          how many pieces of n beats, of which the last may have fewer, have the beats of the burst b
-- beats_of n b i         the beats of piece i, from 0 on: "each piece has B beats except perhaps the last", which has what is left
-- start_of n b i         its start address: "The first piece keeps the start address, and each later one starts at the start address
--                        rounded down to the beat size, plus beats before it × beat size"
-- piece_of n b i         piece i as a burst of its own
-- Split                  what the splitter answers: so many pieces, or refused by a number
-- split_of limit ok n b  "after 11, 15 for 0 or over 256 beats or a bad beat size, then 16 for a burst that crosses a multiple of 4,096";
--                        ok says that 11 is not the answer
-- split_by t b           the same on the tree t: where its bus line is named bus3, "the splitter takes at most 16 beats"
-- on_pieces x f z        f of the count where x answers pieces, else z
-- below k f i            f i where i is below k, else 0
-- listed k f             the entries of an array: f 0 .. f (k - 1), and 0 in the others
-- starts_after x n b d   the array of start addresses, d before, once the splitter has answered x; a refusal leaves it
-- beats_after x n b d    the array of beats alike
use Rattle.std.specs.Prelude.{ℕ, ◌+◌, ◌*◌, ◌-◌, ◌/◌, min, Bool, ◌&&◌, ◌||◌, not, List, ltb, eqb}
use Rattle.folds.specs.Fold.{pick, within, ceiling, entries}
use Rattle.model.specs.declared.Tree.{Tree}
use Rattle.model.specs.Tree.{beat_limit}
use Rattle.rules.specs.Rules.{tree_keeps}
use Rattle.burst.specs.declared.Burst.{Burst}

abbrev pub most_beats : ℕ
most_beats = 256

abbrev pub is_size : ℕ → Bool
is_size z = eqb z 1 || eqb z 2 || eqb z 4 || eqb z 8 || eqb z 16 || eqb z 32 || eqb z 64 || eqb z 128

abbrev pub low_of : Burst → ℕ
low_of b = b.start / b.size * b.size

abbrev pub last_byte : Burst → ℕ
last_byte b = low_of b + b.beats * b.size - 1

abbrev pub page_of : ℕ → ℕ
page_of x = x / 4096

abbrev pub crosses_page : Burst → Bool
crosses_page b = not (eqb (page_of b.start) (page_of (last_byte b)))

abbrev pub is_burst : ℕ → Burst → Bool
is_burst limit b = within 1 b.beats limit && is_size b.size

abbrev pub pieces_of : ℕ → Burst → ℕ
pieces_of n b = ceiling b.beats n

abbrev pub beats_of : ℕ → Burst → ℕ → ℕ
beats_of n b i = min n (b.beats - i * n)

abbrev pub start_of : ℕ → Burst → ℕ → ℕ
start_of n b i = pick (eqb i 0) b.start (low_of b + i * n * b.size)

abbrev pub piece_of : ℕ → Burst → ℕ → Burst
piece_of n b i = record { start = start_of n b i; beats = beats_of n b i; size = b.size }

pub data Split : Type 0 where
  pieces : ℕ → Split
  not_split : ℕ → Split

unfoldable pub split_of : ℕ → Bool → ℕ → Burst → Split
split_of limit ok n b =
    pick (not ok) (not_split 11)
    (pick (not (is_burst limit b)) (not_split 15)
    (pick (crosses_page b) (not_split 16)
    (pieces (pieces_of n b))))

abbrev pub split_by : Tree → Burst → Split
split_by t b = split_of (beat_limit t.bus) (tree_keeps t) t.bus.burst b

abbrev pub on_pieces : {A : Type 0} → Split → (ℕ → A) → A → A
on_pieces (pieces k) f z = f k
on_pieces (not_split m) f z = z

abbrev pub below : ℕ → (ℕ → ℕ) → ℕ → ℕ
below k f i = pick (ltb i k) (f i) 0

abbrev pub listed : ℕ → (ℕ → ℕ) → List ℕ
listed k f = entries most_beats (below k f)

abbrev pub starts_after : Split → ℕ → Burst → List ℕ → List ℕ
starts_after x n b d = on_pieces x (λ k. listed k (start_of n b)) d

abbrev pub beats_after : Split → ℕ → Burst → List ℕ → List ℕ
beats_after x n b d = on_pieces x (λ k. listed k (beats_of n b)) d
