-- What a run keeps beside the state, and brings up to date along the one path that an admission or a service touches: what
-- waits under each port, and the live ports of each interconnect.
--
-- up n u c              the ports from port number c on up to the root, at most n of them, where u has the parent's
--                       port of each interconnect
-- path_ports w a         the ports of the path of accelerator a, from its own up to the root, by the table w
-- with_port v p          the set v with port p in it; without_port v p: the set v without port p
-- raise c u             the counts u with one more at port c, at most 65,535; raised l u: at each port of l
-- open_port c v          the sets v with port c in its interconnect's set; opened l v: with each port of l
-- lower c u             the counts u with one less at port c
-- close_port c n v       the sets v without port c where n is 0
use Rattle.std.specs.Prelude.{ℕ, zero, suc, ◌+◌, ◌-◌, ◌/◌, ◌%◌, ◌^◌, min, List, [], ◌∷◌, get_or, set, ltb, eqb}
use Rattle.folds.specs.Fold.{pick}
use Rattle.turns.specs.Turns.{has_port}
use Rattle.counts.specs.declared.Table.{Table}

unfoldable pub up : ℕ → List ℕ → ℕ → List ℕ
up zero u c = []
up (suc n) u c = pick (ltb 119 c) [] (c ∷ pick (eqb (c / 8) 0) [] (up n u (get_or u (c / 8) 0)))

abbrev pub path_ports : Table → ℕ → List ℕ
path_ports w a = up 4 w.parent_port (get_or w.own_port a 0)

abbrev pub with_port : ℕ → ℕ → ℕ
with_port v p = pick (has_port v p) v (v + 2 ^ p)

abbrev pub without_port : ℕ → ℕ → ℕ
without_port v p = pick (has_port v p) (v - 2 ^ p) v

abbrev pub raise : ℕ → List ℕ → List ℕ
raise c u = set u c (min 65535 (get_or u c 0 + 1))

unfoldable pub raised : List ℕ → List ℕ → List ℕ
raised [] u = u
raised (c ∷ l) u = raised l (raise c u)

abbrev pub open_port : ℕ → List ℕ → List ℕ
open_port c v = set v (c / 8) (with_port (get_or v (c / 8) 0) (c % 8))

unfoldable pub opened : List ℕ → List ℕ → List ℕ
opened [] v = v
opened (c ∷ l) v = opened l (open_port c v)

abbrev pub lower : ℕ → List ℕ → List ℕ
lower c u = set u c (get_or u c 0 - 1)

abbrev pub close_port : ℕ → ℕ → List ℕ → List ℕ
close_port c n v = set v (c / 8) (pick (eqb n 0) (without_port (get_or v (c / 8) 0) (c % 8)) (get_or v (c / 8) 0))
