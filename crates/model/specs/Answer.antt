-- The numbers of document 01's table "What is refused", and those of document 02, items 5 and 6.
--
-- number_of r             the number of refusal r
use Rattle.std.specs.Prelude.{ℕ}
use Rattle.model.specs.declared.Refusal.{Refusal}
use Rattle.model.specs.declared.Refusal.TheVariants.{Shape, Limit, Order, Taken, Level, Falling, Unknown, Outstanding, Budget, LastSlot, Rules, NoJob, Burst, Page}

abbrev pub number_of : Refusal → ℕ
number_of Shape = 1
number_of Limit = 2
number_of Order = 3
number_of Taken = 4
number_of Level = 5
number_of Falling = 6
number_of Unknown = 7
number_of Outstanding = 8
number_of Budget = 9
number_of LastSlot = 10
number_of Rules = 11
number_of NoJob = 14
number_of Burst = 15
number_of Page = 16
