-- The state that the second machine keeps in the store.
--
-- queued_of d a        how many tickets are in the queue of accelerator a: the admitted without the served, which go round
--                      at 2 to the 64th power
-- returning_of d a     how many transactions of accelerator a are returning: the served without those home
-- due_of d a k         the slot in which one of them comes home, the one served first at k = 0: thirty-two places go round
-- due_below k d a n    one of the first k of them comes home in slot n
-- is_due d a n         one of them, at most thirty-two, comes home in slot n
-- used_of d a          what accelerator a has used of its budget in this window
-- last_port_of d i     the last port of interconnect i
-- left_of d i          the allowance of interconnect i
-- slot_of d            the slot count
-- channel_of d         the channel: 0 reads, 1 writes
use Rattle.std.specs.Prelude.{ℕ, zero, suc, ◌+◌, ◌-◌, ◌*◌, ◌%◌, ◌^◌, min, Bool, false, ◌||◌, List, ◌==◌}
use Rattle.store.specs.Store.{number_at}

abbrev pub queued_of : List ℕ → ℕ → ℕ
queued_of d a = (number_at d 2080 a + 2 ^ 64 - number_at d 2112 a) % 2 ^ 64

abbrev pub returning_of : List ℕ → ℕ → ℕ
returning_of d a = (number_at d 2112 a + 2 ^ 64 - number_at d 2240 a) % 2 ^ 64

abbrev pub due_of : List ℕ → ℕ → ℕ → ℕ
due_of d a k = number_at d 5120 (a % 32 * 32 + (number_at d 2240 a + k) % 2 ^ 64 % 32)

unfoldable pub due_below : ℕ → List ℕ → ℕ → ℕ → Bool
due_below zero d a n = false
due_below (suc k) d a n = due_below k d a n || due_of d a k == n

abbrev pub is_due : List ℕ → ℕ → ℕ → Bool
is_due d a n = due_below (min (returning_of d a) 32) d a n

abbrev pub used_of : List ℕ → ℕ → ℕ
used_of d a = number_at d 2144 a

abbrev pub last_port_of : List ℕ → ℕ → ℕ
last_port_of d i = number_at d 2176 i

abbrev pub left_of : List ℕ → ℕ → ℕ
left_of d i = number_at d 2192 i

abbrev pub slot_of : List ℕ → ℕ
slot_of d = number_at d 2208 0

abbrev pub channel_of : List ℕ → ℕ
channel_of d = number_at d 2210 0
