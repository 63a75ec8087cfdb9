-- Which number of the store stands for which entry of the library's state: the state is the same if each entry is that number.
--
-- bit_is x k            bit k of x is 1: a transaction was served k slots ago
-- due_slot n r k        the slot in which one comes home that was served k slots before slot n, with return delay r: n + r + 1 - k, going
--                       round at 2 to the 64th power
-- same_return x k a m d one was served k slots ago exactly if one of accelerator a comes home in slot m
-- same_bits x a n r d   so it is with all thirty-two bits, as seen from slot n
-- same_returns s a r d  the returns of accelerator a: as many, and each due in the same slot
-- same_record s a r d   the record of accelerator a: what waits, what is admitted in this window, and what returns
-- same_turn s j d       the turn of interconnect j: its last port and its allowance
-- same_channel c d      the channel: reads stand as 0, writes as 1
-- same_state s r d      on a tree with return delay r the slot count, the records of all thirty-two accelerators, the turns of all fifteen interconnects,
--                       and the channel
use Rattle.std.specs.Prelude.{ℕ, ◌+◌, ◌-◌, ◌%◌, ◌^◌, Bool, not, ◌&&◌, List, ◌==◌}
use Rattle.folds.specs.Fold.{pick, all}
use Rattle.model.specs.declared.State.{State}
use Rattle.model.specs.declared.Channel.{Channel}
use Rattle.model.specs.declared.Channel.TheVariants.{Read, Write}
use Rattle.model.specs.Tree.{bit, waiting_of, returns_of, returning_of, admitted_of, last_of, allowance_of}
use Rattle.second.specs.Machine.{queued_of, is_due, used_of, last_port_of, left_of, slot_of, channel_of}
use Rattle.second.specs.Machine as second

abbrev pub bit_is : ℕ → ℕ → Bool
bit_is x k = bit k x == 1

abbrev pub due_slot : ℕ → ℕ → ℕ → ℕ
due_slot n r k = (n + r + 1 + 2 ^ 64 - k) % 2 ^ 64

unfoldable pub same_return : ℕ → ℕ → ℕ → ℕ → List ℕ → Bool
same_return x k a m d = pick (is_due d a m) (bit_is x k) (not (bit_is x k))

abbrev pub same_bits : ℕ → ℕ → ℕ → ℕ → List ℕ → Bool
same_bits x a n r d = all 32 (λ k. same_return x k a (due_slot n r k) d)

unfoldable pub same_returns : State → ℕ → ℕ → List ℕ → Bool
same_returns s a r d = returning_of s a == second.returning_of d a && same_bits (returns_of s a) a s.slot r d

unfoldable pub same_record : State → ℕ → ℕ → List ℕ → Bool
same_record s a r d = waiting_of s a == queued_of d a && admitted_of s a == used_of d a && same_returns s a r d

unfoldable pub same_turn : State → ℕ → List ℕ → Bool
same_turn s j d = last_of s j == last_port_of d j && allowance_of s j == left_of d j

abbrev pub same_channel : Channel → List ℕ → Bool
same_channel Read d = channel_of d == 0
same_channel Write d = channel_of d == 1

abbrev pub same_state : State → ℕ → List ℕ → Bool
same_state s r d =
    (s.slot == slot_of d)
    && all 32 (λ a. same_record s a r d)
    && all 15 (λ j. same_turn s j d)
    && same_channel s.channel d
