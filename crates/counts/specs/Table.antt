-- What a run of a channel reads of a configuration in each slot, as plain arrays, so that no configuration is copied there.
--
-- port_number j p        port p of interconnect j among the 120 ports of fifteen interconnects
-- cell_of x             what a port carries, x, as an element of an array
-- carried_by t n        what the port of number n carries in t
-- carried_at w n        what it carries by the table w
-- parent_number t k      the number of the port that carries interconnect k in t
-- own_number t a         the number of the port that carries accelerator a
-- table_of t c          the table of t for channel c: what each port carries; the granularity of each interconnect, and the port
--                       of its parent that carries it; the port that carries each accelerator, its outstanding limit on the channel
--                       and its budget
use Rattle.std.specs.Prelude.{ℕ, ◌+◌, ◌*◌, ◌/◌, ◌%◌, get_or}
use Rattle.folds.specs.Fold.{entries}
use Rattle.model.specs.declared.Tree.{Tree}
use Rattle.model.specs.declared.Channel.{Channel}
use Rattle.model.specs.declared.Port.{Port}
use Rattle.model.specs.declared.PortCell.{PortCell}
use Rattle.model.specs.Tree.{empty_cell, port_of, granularity_of, parent_of, parent_port_of, home_of, home_port_of, limit_of, budget_of}
use Rattle.counts.specs.declared.Table.{Table}

abbrev pub port_number : ℕ → ℕ → ℕ
port_number j p = j * 8 + p

abbrev pub cell_of : Port → PortCell
cell_of x = record { port = x }

abbrev pub carried_by : Tree → ℕ → PortCell
carried_by t n = cell_of (port_of t (n / 8) (n % 8))

abbrev pub carried_at : Table → ℕ → Port
carried_at w n = (get_or w.carried n empty_cell).port

abbrev pub parent_number : Tree → ℕ → ℕ
parent_number t k = port_number (parent_of t k) (parent_port_of t k)

abbrev pub own_number : Tree → ℕ → ℕ
own_number t a = port_number (home_of t a) (home_port_of t a)

abbrev pub table_of : Tree → Channel → Table
table_of t c =
    record {
      carried = entries 120 (carried_by t);
      granularity = entries 15 (granularity_of t);
      parent_port = entries 15 (parent_number t);
      own_port = entries 32 (own_number t);
      limit = entries 32 (limit_of t c);
      budget = entries 32 (budget_of t);
    }
