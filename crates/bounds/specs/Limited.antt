-- What the rules of a configuration leave to the figures that the bounds are made of.
--
-- Limited b x l         the limits of the bus line, and of a budget and a job ("The tree on paper"), and a level of at most 4
-- Share s               a share of 1 to 163,047,361 ("No share exceeds 163,047,361 (113 to the fourth power)")
use Rattle.std.specs.Prelude.{ℕ, ◌≤◌}
use Rattle.model.specs.declared.Bus.{Bus}
use Rattle.model.specs.declared.Accelerator.{Accelerator}

pub record Limited (b : Bus) (x : Accelerator) (l : ℕ) : Type 0 where
  pub window : b.window ≤ 65535
  pub ta : b.ta ≤ 255
  pub da : b.da ≤ 255
  pub dd : b.dd ≤ 255
  pub db : b.db ≤ 255
  pub pr : b.pr ≤ 4095
  pub pw : b.pw ≤ 4095
  pub td : b.td ≤ 255
  pub tb : b.tb ≤ 255
  pub burst : b.burst ≤ 256
  pub budget : 1 ≤ x.budget
  pub reads : x.reads ≤ 65535
  pub writes : x.writes ≤ 65535
  pub computing : x.computing ≤ 4294967295
  pub level : l ≤ 4

pub record Share (s : ℕ) : Type 0 where
  pub some : 1 ≤ s
  pub most : s ≤ 163047361
