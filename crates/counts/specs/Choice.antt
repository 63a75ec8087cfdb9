-- The choice of a slot, from the kept counts.
--
-- ports c v l o          what a run keeps of the ports: what waits under each, the live ones of each interconnect, the last ones and the
--                       allowances
-- more_at l d            one more waits under each of the ports l
-- count_at u j p         what waits under port p of interconnect j, by the counts u; nothing under a port past the eighth
-- port_on v l o          the port whose turn it is, of live ports v, last port l and allowance o
-- turn_on u j g v l o    the turn of interconnect j of granularity g, live ports v, last port l and allowance o, its port
--                       and its allowance
-- turn_at w d j          the same, by the table w and what is kept, d
-- pass j x d            one transaction passes interconnect j in its turn x: it waits no longer under the turn's port, and "One is
--                       taken off the allowance"
-- Choice                who is served, 255 for nobody, and what is kept then; choice a d: these two
-- below_on f x d         what a port leads to that carries x: an accelerator, or an interconnect, by f; an empty one leads nowhere
-- choose_on m w j d      the choice from interconnect j over at most m levels, on any arrays: one transaction passes, "and the choice
--                       goes on downward"; it ends where there is no such interconnect, and where the turn has no port
use Rattle.std.specs.Prelude.{ℕ, zero, suc, ◌-◌, min, List, ltb, get_or, set}
use Rattle.folds.specs.Fold.{pick}
use Rattle.model.specs.declared.Port.{Port}
use Rattle.model.specs.declared.Port.TheVariants.{Empty, Acc, Int}
use Rattle.turns.specs.declared.Turn.{Turn}
use Rattle.turns.specs.Turns.{next_port}
use Rattle.counts.specs.declared.Table.{Table}
use Rattle.counts.specs.declared.Ports.{Ports}
use Rattle.counts.specs.Table.{port_number, carried_at}
use Rattle.counts.specs.Counts.{raised, opened, lower, close_port}

abbrev pub ports : (c v l o : List ℕ) → Ports
ports c v l o = record { under = c; live = v; last = l; allowance = o }

abbrev pub more_at : List ℕ → Ports → Ports
more_at l d = ports (raised l d.under) (opened l d.live) d.last d.allowance

abbrev pub count_at : List ℕ → ℕ → ℕ → ℕ
count_at u j p = pick (ltb 7 p) 0 (get_or u (port_number j p) 0)

abbrev pub port_on : (v l o : ℕ) → ℕ
port_on v l o = pick (ltb 0 o) l (next_port v l)

abbrev pub turn_on : List ℕ → (j g v l o : ℕ) → Turn
turn_on u j g v l o = record { port = port_on v l o; allowance = pick (ltb 0 o) o (min g (count_at u j (port_on v l o))) }

abbrev pub turn_at : Table → Ports → ℕ → Turn
turn_at w d j =
    turn_on d.under j (min 255 (get_or w.granularity j 0)) (get_or d.live j 0) (get_or d.last j 0) (get_or d.allowance j 0)

abbrev pub pass : ℕ → Turn → Ports → Ports
pass j x d =
    ports (lower (port_number j x.port) d.under) (close_port (port_number j x.port) (get_or d.under (port_number j x.port) 0 - 1) d.live)
    (set d.last j x.port) (set d.allowance j (x.allowance - 1))

pub record Choice : Type 0 where
  pub served : ℕ
  pub ports : Ports

abbrev pub choice : ℕ → Ports → Choice
choice a d = record { served = a; ports = d }

abbrev pub below_on : (ℕ → Ports → Choice) → Port → Ports → Choice
below_on f Empty d = choice 255 d
below_on f (Acc a) d = choice a d
below_on f (Int k) d = f k d

unfoldable pub choose_on : ℕ → Table → ℕ → Ports → Choice
choose_on zero w j d = choice 255 d
choose_on (suc m) w j d =
    pick (ltb 14 j) (choice 255 d)
    (pick (ltb 7 (turn_at w d j).port) (choice 255 d)
    (below_on (choose_on m w) (carried_at w (port_number j (turn_at w d j).port)) (pass j (turn_at w d j) d)))
