-- A loop over the two calls of a slot: its arrays are those of the run of the definition, the counts beside them are kept, and
-- but for the accelerator whose answer comes home none would have a held transaction admitted. Each call's contract gives one step.
use Prim.Native.Nat.{ℕ, ◌+◌, ◌-◌, ◌%◌, ◌^◌, ◌≤◌, ◌<◌}
use mathlib.Core.Bool.{Bool, true, false, ◌&&◌, ◌||◌}
use mathlib.Core.List.{List, [], ◌∷◌, ◌++◌}
use mathlib.Core.Path.{◌≡◌, refl, sym, ◌∙◌, ap, ap₂, subst, subst₂}
use native.Mathlib.Decide.{ℕ_discrete}
use native.Mathlib.Nat.{zero-div, mod-eq_of_lt}
use native.Mathlib.Omega.{arith}
use lib.Dec.{eqb, ltb, lit<}
use lib.ListN.{get_or, length, set, replicate, length-set}
use lib.Seq.{set_out, get_or-set_same, get_or-set_other}
use borrow.Author.Tests.{lt-ltb, le-ltb}
use Rattle.model.specs.declared.Tree.{Tree}
use Rattle.model.specs.declared.State.{State}
use Rattle.model.specs.declared.Channel.{Channel}
use Rattle.folds.specs.Fold.{pick}
use Rattle.model.specs.Tree.{delay_of, bit, waiting_of, outstanding_of, home_of, home_port_of}
use Rattle.rules.specs.Rules.{tree_keeps, keeps}
use Rattle.folds.proofs.Folds.{picked, passed, clash}
use Rattle.rules.proofs.Sound.{sound, sound_of}
use Rattle.rules.proofs.Beneath.{only, only_same, only_other}
use Rattle.model.specs.Beneath.{under, inside}
use Rattle.machine.specs.Machine.{Outcome, outcome, fresh_state, opens, tick, last_slot, slotted}
use Rattle.machine.proofs.Keeps.{zeros}
use Rattle.machine.proofs.Returns.{no_ones}
use Rattle.machine.specs.Calls.{slot}
use Rattle.machine.proofs.Laws.{offer_others, slot_keeps, fresh_keeps, step_channel}
use Rattle.machine.proofs.Steps.{slot_passed}
use Rattle.counts.specs.declared.Table.{Table}
use Rattle.counts.specs.Table.{port_number}
use Rattle.counts.proofs.Entries.{TableOf, LimitsOf}
use Rattle.counts.proofs.Counted.{Counted, counted_none}
use Rattle.trace.specs.declared.Request.{Request}
use Rattle.admit.specs.declared.Arrays.{Arrays}
use Rattle.admit.specs.Admitting.{is_in}
use Rattle.admit.proofs.Sets.{none_of, in_none}
use Rattle.runner.specs.declared.NextLine.{NextLine}
use Rattle.runner.specs.declared.SlotEnd.{SlotEnd}
use Rattle.runner.specs.Offers.{Offering, held_of, offering, offer_each}
use Rattle.runner.specs.Run.{Run, held_with, left_after, with_due, before_slot, byte_of, last_byte, next, none_held, is_done, start}
use Rattle.runner.specs.Places.{left_at, Accepts}
use Rattle.runner.specs.Due.{Taken, taken, due_on}
use Rattle.runner.proofs.Due.{due_others}
use Rattle.runner.specs.Arrays.{arrays_from, serve_on, opens_on, left_on, end_on, slot_end_on, after_on, home_in, home_on, ready_on, with_held, before_on, waiting_on}
use Rattle.runner.proofs.Held.{each_same, each_less}
use Rattle.runner.proofs.Trace.{Room, AtLine, NextOf, left_ends, due_taken}
use Rattle.runner.proofs.Settled.{Idles, Settled, settled_each, settled_home}
use Rattle.runner.proofs.Raised.{each_raises, idle_stays}
use Rattle.runner.proofs.Service.{served_from, slot_answer, served_frame, served_answer, served_outcome, served_known, left_in, left_first, left_next, left_opens}
use Rattle.runner.proofs.Returns.{ago_none, Past, past_none, past_same, home_one, past_next}
use Rattle.runner.proofs.Stored.{Stored, StoredOffering, StoredSlot, live_none, before_offered, serves}

-- from a later place on, a byte written, less of the buffer is left
pub fewer : (d : List ℕ) (n b m : ℕ) → n < length d → n < m → length (set d n b) - m < length d - n
fewer d n b m h l = omega (arith, length-set d n b)

-- where a run of trace s stands whose state is z, whose arrays are d and whose next line is x
abbrev pub run_of : List ℕ → State → Arrays → NextLine → Run
run_of s z d x = record { state = z; held = d.held; left = left_at s x.at }

and_none : (b : Bool) → (b && false) ≡ false
and_none true = refl
and_none false = refl

no_bits : (d : ℕ) → bit d 0 ≡ 0
no_bits d = ap (λ y. y % 2) (zero-div (2 ^ d))

-- what waits of an accelerator is what waits under its own port
own_waiting : (t : Tree) (w : Table) → tree_keeps t ≡ true → TableOf t w → (s : State) (c v : List ℕ) → Counted t (waiting_of s) c v
    → (a : ℕ) → a < t.accs → get_or c (get_or w.own_port (a % 32) 0 % 120) 0 ≡ waiting_of s a
own_waiting t w k T s c v C a l =
    let S = sound t k in
    let i : a % 32 ≡ a = omega (arith, S.most_accs) in
    let port : port_number (home_of t a) (home_port_of t a) < 120 = omega (arith, S.home a l, S.home_port a l, S.most_ints) in
    ap (λ (b : ℕ). get_or c (get_or w.own_port b 0 % 120) 0) i
    ∙ ap (λ (p : ℕ). get_or c (p % 120) 0) (T.own a (omega (arith, S.most_accs)))
    ∙ ap (λ (p : ℕ). get_or c p 0) (mod-eq_of_lt port)
    ∙ C.count (home_of t a) (home_port_of t a) (S.home a l) (S.home_port a l)
    ∙ ap (under (waiting_of s) (inside 3 t (waiting_of s))) (S.home_carries a l)

-- the arrays d, the next line x and the end e of the slot before are those of a run of trace s on channel c of t that stands at state z and has
-- written the bytes bs; in the arrays the answer that comes home before the next slot is still outstanding
pub record Shows (t : Tree) (c : Channel) (s : List ℕ) (z : State) (bs : List ℕ) (d : Arrays) (x : NextLine) (e : SlotEnd) : Type 0 where
  pub stored : Stored t c z (home_on (home_in (delay_of t) bs) d)
  pub line : AtLine s d.held x
  pub past : Past t z bs
  pub settled : e.opened ≡ false → Settled t z d.held (home_in (delay_of t) bs)

-- what a run does not change: w is a table of t, and k the set of its accelerators
pub record Fixed (t : Tree) (w : Table) (k : ℕ) : Type 0 where
  pub rules : tree_keeps t ≡ true
  pub table : TableOf t w
  pub accelerators : (a : ℕ) → is_in k a ≡ ltb a t.accs

-- after n slots, whose bytes are bs, the arrays d, the next line x and the end e of the slot before are those of a run of which Q holds
pub record Walk (t : Tree) (c : Channel) (s : List ℕ) (Q : Run → Type 0) (bs : List ℕ) (d : Arrays) (x : NextLine) (e : SlotEnd) (n : ℕ) : Type 0 where
  pub state : State
  pub shows : Shows t c s state bs d x e
  pub slot : state.slot ≡ n
  pub left : e.left ≡ left_in t.bus.window n
  pub holds : Q (run_of s state d x)

-- a run begins with nothing waiting, admitted or held, the first line next, as if a window had just opened
pub walk_start : (t : Tree) (c : Channel) (s : List ℕ) (f : State) (d : Arrays) (Q : Run → Type 0) → tree_keeps t ≡ true → f ≡ fresh_state t c → Accepts s 0
    → d ≡ arrays_from f.last → Q (start t c (left_at s 0))
    → Walk t c s Q [] d (record { at = 0; due = 0 }) (end_on 255 true t.bus.window) 0
walk_start t c s f d Q k e A i q = subst (λ (b : Arrays). Walk t c s Q [] b (record { at = 0; due = 0 }) (end_on 255 true t.bus.window) 0) (sym i) (record {
  state = fresh_state t c;
  shows = record {
    stored = record {
      rules = fresh_keeps t c k;
      channel = refl;
      size = length-set zero_counts (home_in (delay_of t) []) _;
      outstanding = λ a _. ap (λ (h : ℕ). get_or (set zero_counts h (get_or zero_counts h 0 - 1)) a 0) (ago_none (delay_of t + 1))
          ∙ ap (λ (l : List ℕ). get_or l a 0) (set_out zero_counts 255 0 (lit< tt)) ∙ zeros 32 a ∙ sym (none a);
      admitted = refl;
      last = ap (λ (x : State). x.last) e;
      allowance = refl;
      counts = counted_none t (sound t k) _ (λ a _. zeros 32 a);
    };
    line = record { accepts = A; room = λ a. omega (arith, zeros 32 a); due = omega arith };
    past = past_none t (fresh_state t c) (λ a d. ap (bit d) (zeros 32 a) ∙ no_bits d) (omega (arith, (sound t k).most_accs));
    settled = λ z. clash cc;
  };
  slot = refl;
  left = left_first t.bus.window (sound t k).window;
  holds = q;
})
  where
    zero_counts : List ℕ
    zero_counts = replicate 32 0

    none : (a : ℕ) → outstanding_of (fresh_state t c) a ≡ 0
    none a = omega (arith, zeros 32 a, no_ones (get_or (replicate 32 0) a 0) (zeros 32 a))

module _ (t : Tree) (c : Channel) (s : List ℕ) (z : State) (bs : List ℕ) (d : Arrays) (x : NextLine) (e : SlotEnd) (H : Shows t c s z bs d x e) where
  abbrev run : Run
  run = run_of s z d x

  -- the test before each slot is the definition's
  shows_done : (b : Bool) → b ≡ (eqb x.at (length s) && none_held d.held && eqb (get_or d.ports.live 0 0) 0) → b ≡ is_done run
  shows_done b q =
      q ∙ ap₂ (λ (y z : Bool). y && none_held d.held && z) (left_ends s x.at H.line.accepts)
      (live_none t z H.stored.rules d.ports.under d.ports.live H.stored.counts)

  module _ (w : Table) (k : ℕ) (F : Fixed t w k) (L : LimitsOf t c w) (n : ℕ) (N : z.slot ≡ n) where
    abbrev due : List ℕ
    due = (due_on n s x d.held).held

    abbrev line : NextLine
    line = (due_on n s x d.held).line

    T : NextOf n s d.held x.at (due_on n s x d.held)
    T = due_taken n s d.held x H.line

    abbrev home : ℕ
    home = home_in (delay_of t) bs

    abbrev before : Arrays
    before = before_on s n x e.opened k home w d

    abbrev ready : ℕ → Bool
    ready = ready_on e.opened k (due_on n s x d.held).accelerators

    -- those that offer are accelerators
    ready_known : (a : ℕ) → t.accs ≤ a → ready a ≡ false
    ready_known a l = ap (λ (b : Bool). b && (e.opened || is_in (due_on n s x d.held).accelerators a)) (F.accelerators a ∙ le-ltb _ _ l)

    -- where no window has opened, only the one whose answer comes home may have more admitted, and those whose lines are due
    rest_idles : (a : ℕ) → a < t.accs → ready a ≡ false → (a ≡ home → ⊥) → Idles t z due a
    rest_idles a l f o h =
        let z = (due_on n s x d.held).accelerators in
        let q = none_of e.opened (is_in z a) (sym (ap (λ (b : Bool). b && (e.opened || is_in z a)) (F.accelerators a ∙ lt-ltb _ _ l)) ∙ f) in
        H.settled q.0 a l o (omega (arith, h, due_others n s x d.held a q.1))

    same_before : offer_each t.accs t (offering z due) ≡ before_slot t run
    same_before =
        ap (λ (h : List ℕ). offer_each t.accs t (offering z h)) (T.held ∙ ap (λ (i : ℕ). held_with i d.held (left_at s x.at)) (sym N))

    due_stored : Stored t c z (with_held due (home_on home d))
    due_stored =
        let R = H.stored in record {
          rules = R.rules;
          channel = R.channel;
          size = R.size;
          outstanding = R.outstanding;
          admitted = R.admitted;
          last = R.last;
          allowance = R.allowance;
          counts = R.counts;
        }

    -- before a slot: the arrays are those of the definition once the offers are made
    before_shown : StoredOffering t c (before_slot t run) before
    before_shown =
        subst (λ (o : _). StoredOffering t c o before) same_before
        (before_offered t c w F.table L (offering z due) (with_held due (home_on home d)) (record { stored = due_stored; held = refl })
        home (H.past.known (delay_of t + 1)) ready rest_idles ready_known)

    abbrev mid : State
    mid = (before_slot t run).state

    mid_rules : keeps t mid ≡ true
    mid_rules = before_shown.stored.rules

    mid_slot : mid.slot ≡ n
    mid_slot = each_same (λ (y : State). y.slot) t (λ y a. (offer_others t y a).slot) t.accs (with_due run) ∙ N

    -- what waits then of an accelerator stands under its own port
    mid_waiting : (a : ℕ) → a < t.accs → waiting_on w before.ports.under a ≡ waiting_of mid a
    mid_waiting = own_waiting t w F.rules F.table mid before.ports.under before.ports.live before_shown.stored.counts

    -- where no window has opened and no line is due, nothing is admitted but of the one whose answer comes home
    mid_same : e.opened ≡ false → n < x.due → (a : ℕ) → a < t.accs → (a ≡ home → ⊥) → waiting_of mid a ≡ waiting_of z a
    unfolding due_on
    mid_same o l a la h =
        let none : (due_on n s x d.held).accelerators ≡ 0 = ap (λ (y : Taken). y.accelerators) (picked _ (taken d.held 0 x) _ (lt-ltb n x.due l)) in
        let rest : ready a ≡ false = ap₂ (λ (b : Bool) (i : ℕ). is_in k a && (b || is_in i a)) o none
        ∙ ap (λ (b : Bool). is_in k a && b) (in_none a) ∙ and_none (is_in k a) in
        ap (λ (y : Offering). waiting_of y.state a) (sym same_before)
        ∙ idle_stays t z due a H.stored.rules (rest_idles a la rest h) t.accs

    mid_past : Past t mid bs
    mid_past = past_same t z mid bs (each_same (λ (y : State). y.returning) t (λ y a. (offer_others t y a).returning) t.accs (with_due run)) H.past

    module _ (g : n < last_slot) (E : e.left ≡ left_in t.bus.window n) where
      abbrev window : Bool
      window = opens_on e.left

      abbrev left : ℕ
      left = left_on t.bus.window e.left

      abbrev after : Arrays
      after = after_on w e.left before

      abbrev byte : ℕ
      byte = (serve_on w before).byte

      Y : StoredSlot t mid before (serve_on w before)
      Y = serves t c w F.table mid before before_shown.stored

      abbrev service : State
      service = served_from t mid

      same_slot : service.slot ≡ n
      same_slot = (served_frame t mid mid_rules).1 ∙ mid_slot

      opened : window ≡ opens t service.slot
      opened = ap opens_on E ∙ left_opens t.bus.window n (sound_of t mid mid_rules).window ∙ ap (opens t) (sym same_slot)

      -- the slot of the definition
      slotted_as : outcome (slot_answer t mid mid_rules) (tick t service) ≡ slotted t mid
      slotted_as = served_outcome t mid mid_rules (λ f. omega (arith, mid_slot, f)) ∙ slot_passed t mid mid_rules

      abbrev then : State
      then = (slotted t mid).state

      then_is : tick t service ≡ then
      then_is = ap (λ (o : Outcome). o.state) slotted_as

      then_rules : keeps t then ≡ true
      then_rules = slot_keeps t mid mid_rules

      then_channel : then.channel ≡ c
      then_channel = step_channel t mid slot ∙ before_shown.stored.channel

      admitted_same : before.admitted ≡ service.admitted
      admitted_same = before_shown.stored.admitted ∙ sym (served_frame t mid mid_rules).0

      abbrev bytes : List ℕ
      bytes = bs ++ byte ∷ []

      byte_known : (byte ≡ 255 → ⊥) → byte < t.accs
      byte_known f = subst (λ (b : ℕ). b < t.accs) (sym Y.byte) (served_known t mid mid_rules (λ q. f (Y.byte ∙ q)))

      -- in the arrays all is outstanding that was so before the slot; then one comes home
      went_home : (a : ℕ) → a < t.accs → outstanding_of mid a ≡ outstanding_of (tick t service) a + only (home_in (delay_of t) bytes) a
      went_home a l = home_one t mid mid_rules bs mid_past byte Y.byte byte_known a l

      abbrev outstanding : List ℕ
      outstanding = after.outstanding

      home_size : length outstanding ≡ 32
      home_size = ap length Y.outstanding ∙ before_shown.stored.size

      home_stored : (a : ℕ) → a < t.accs
          → get_or (set outstanding (home_in (delay_of t) bytes) (get_or outstanding (home_in (delay_of t) bytes) 0 - 1)) a 0 ≡ outstanding_of (tick t service) a
      home_stored a l =
          let h = home_in (delay_of t) bytes in
          let x = get_or outstanding h 0 - 1 in
          let held = ap (λ (o : List ℕ). get_or o a 0) Y.outstanding ∙ before_shown.stored.outstanding a l in
          elim (ℕ_discrete h a) [
            | yes q ↦
                subst (λ (i : ℕ). get_or (set outstanding i x) a 0 ≡ outstanding_of (tick t service) a) (sym q)
                (get_or-set_same outstanding a x 0 (omega (arith, home_size, l, (sound_of t mid mid_rules).most_accs))
                ∙ omega (arith, held, went_home a l, only_same h a q, ap (λ (i : ℕ). get_or outstanding i 0) q))
            | no f ↦ get_or-set_other outstanding h a x 0 (λ q. f (sym q)) ∙ omega (arith, held, went_home a l, only_other h a f)
          ]

      ticked : Stored t c (tick t service) (home_on (home_in (delay_of t) bytes) after)
      unfolding tick
      ticked = record {
        rules = subst (λ (y : State). keeps t y ≡ true) (sym then_is) then_rules;
        channel = ap (λ (y : State). y.channel) then_is ∙ then_channel;
        size = length-set outstanding _ _ ∙ home_size;
        outstanding = home_stored;
        admitted = ap₂ (λ (b : Bool) (m : List ℕ). pick b (replicate 32 0) m) opened (Y.admitted ∙ admitted_same);
        last = Y.last;
        allowance = Y.allowance;
        counts = Y.counts;
      }

      ticked_slot : (tick t service).slot ≡ n + 1
      unfolding tick
      ticked_slot = ap (λ (i : ℕ). i + 1) same_slot

      -- after a slot: the arrays are those of the definition
      after_stored : Stored t c then (home_on (home_in (delay_of t) bytes) after)
      after_stored = subst (λ (y : State). Stored t c y (home_on (home_in (delay_of t) bytes) after)) then_is ticked

      after_past : Past t then bytes
      after_past = subst (λ (y : State). Past t y bytes) then_is (past_next t mid mid_rules bs mid_past byte Y.byte byte_known)

      after_held : after.held ≡ (before_slot t run).held
      after_held = Y.held ∙ before_shown.held

      -- where no window opens, only the accelerator whose answer comes home may have more admitted
      after_settled : window ≡ false → Settled t then after.held (home_in (delay_of t) bytes)
      after_settled a =
          settled_home t mid then after.held (home_in (delay_of t) bytes) mid_rules then_rules
          (λ b lb. subst (λ (h : List ℕ). Idles t mid h b) (sym after_held) (settled_each t z _ H.stored.rules b lb))
          (λ b lb q. omega (
            arith,
            went_home b lb,
            only_other (home_in (delay_of t) bytes) b (λ i. q (sym i)),
            ap (λ (y : State). outstanding_of y b) then_is,
          ))
          (λ b. ap (λ (l : List ℕ). get_or l b 0)
          (sym after_stored.admitted ∙ passed _ _ _ a ∙ Y.admitted ∙ before_shown.stored.admitted))
          (step_channel t mid slot)

      after_room : Room after.held line.at
      after_room a =
          omega (
            arith,
            ap (λ (h : List ℕ). held_of h a) after_held,
            each_less t.accs t (with_due run) a,
            T.line.room a,
            ap (λ (h : List ℕ). held_of h a) T.held,
            ap (λ (i : ℕ). held_of (held_with i d.held (left_at s x.at)) a) N,
          )

      -- the run one slot on, its byte, and what holds of its arrays
      shows_next : Shows t c s (next t run).state bytes after line (end_on byte window left)
      unfolding next
      shows_next = record {
        stored = after_stored;
        line = record { accepts = T.line.accepts; room = after_room; due = T.line.due };
        past = after_past;
        settled = after_settled;
      }

      run_next : run_of s (next t run).state after line ≡ next t run
      unfolding next
      run_next =
          ap₂ (λ (h : List ℕ) (l : List Request). record { state = then; held = h; left = l }) after_held
          (T.left ∙ ap (λ (i : ℕ). left_after i (left_at s x.at)) (sym N))

      byte_next : byte ≡ last_byte t run
      byte_next = Y.byte ∙ served_answer t mid mid_rules ∙ ap (λ (o : Outcome). byte_of o.answer) slotted_as

      slot_next : (next t run).state.slot ≡ n + 1
      unfolding next
      slot_next = ap (λ (y : State). y.slot) (sym then_is) ∙ ticked_slot

      walked : (P : Run → Type 0) → (byte ≡ last_byte t run → P (next t run)) → Walk t c s P bytes after line (end_on byte window left) (n + 1)
      walked P f = record {
        state = (next t run).state;
        shows = shows_next;
        slot = slot_next;
        left = ap (left_on t.bus.window) E ∙ left_next t.bus.window n (sound t F.rules).window;
        holds = subst P (sym run_next) (f byte_next);
      }

-- the test before each slot, and one slot, for any loop over a run
module _ (t : Tree) (c : Channel) (w : Table) (k : ℕ) (s : List ℕ) (F : Fixed t w k) (L : LimitsOf t c w) (Q : Run → Type 0) (bs : List ℕ) (d : Arrays) (x : NextLine) (e : SlotEnd)
    (n : ℕ) (G : Walk t c s Q bs d x e n) where
  abbrev pub here : Run
  here = run_of s G.state d x

  pub walk_done : (b : Bool) → b ≡ (eqb x.at (length s) && none_held d.held && eqb (get_or d.ports.live 0 0) 0) → b ≡ is_done here
  walk_done = shows_done t c s G.state bs d x e G.shows

  -- the line, the arrays and the slot's end are those of the two calls
  pub record Step (x₁ : NextLine) (e₂ : SlotEnd) (d₂ : Arrays) : Type 0 where
    pub home : ℕ
    pub home_is : home ≡ home_in (delay_of t) bs
    pub line : x₁ ≡ (due_on n s x d.held).line
    pub mid : Arrays
    pub before : mid ≡ before_on s n x e.opened k home w d
    pub window : ℕ
    pub window_is : window ≡ t.bus.window
    pub ends : e₂ ≡ slot_end_on w window e.left mid
    pub after : d₂ ≡ after_on w e.left mid

  pub walk_next : (x₁ : NextLine) (e₂ : SlotEnd) (d₂ : Arrays) → Step x₁ e₂ d₂ → n < last_slot → (bs₂ : List ℕ) → bs₂ ≡ bs ++ e₂.served ∷ []
      → (P : Run → Type 0) → (e₂.served ≡ last_byte t here → P (next t here)) → Walk t c s P bs₂ d₂ x₁ e₂ (n + 1)
  walk_next x₁ e₂ d₂ S g bs₂ B P f =
      let first = S.before ∙ ap (λ (h : ℕ). before_on s n x e.opened k h w d) S.home_is in
      let end = S.ends ∙ ap₂ (λ (i : ℕ) (y : Arrays). slot_end_on w i e.left y) S.window_is first in
      let byte = ap (λ (i : SlotEnd). i.served) end in
      let W = walked t c s G.state bs d x e G.shows w k F L n G.slot g G.left P (λ b. f (byte ∙ b)) in
      subst₂ (λ (l : NextLine) (b : List ℕ). Walk t c s P b d₂ l e₂ (n + 1)) (sym S.line) (sym B)
      (subst₂ (λ (y : Arrays) (i : SlotEnd). Walk t c s P (bs ++ i.served ∷ []) y (due_on n s x d.held).line i (n + 1))
      (sym (S.after ∙ ap (after_on w e.left) first)) (sym end) W)

  -- before it, once the offers are made: what waits of an accelerator stands under its own port, and is no less than before them; the same,
  -- where no window has opened and no line is due, but for the one whose answer comes home
  pub walk_offered : (mid : Arrays) → mid ≡ before_on s n x e.opened k (home_in (delay_of t) bs) w d → (a : ℕ) → a < t.accs
      → waiting_on w mid.ports.under a ≡ waiting_of (before_slot t here).state a
  walk_offered mid q a l =
      ap (λ (y : Arrays). waiting_on w y.ports.under a) q ∙ mid_waiting t c s G.state bs d x e G.shows w k F L n G.slot a l

  pub walk_raises : (a : ℕ) → waiting_of G.state a ≤ waiting_of (before_slot t here).state a
  walk_raises = each_raises t t.accs (with_due here)

  pub walk_same : e.opened ≡ false → n < x.due → (a : ℕ) → a < t.accs → (a ≡ home_in (delay_of t) bs → ⊥)
      → waiting_of (before_slot t here).state a ≡ waiting_of G.state a
  walk_same = mid_same t c s G.state bs d x e G.shows w k F L n G.slot

  -- after it what waits of an accelerator stands under its own port
  pub walk_waiting : (x₁ : NextLine) (e₂ : SlotEnd) (d₂ : Arrays) → Step x₁ e₂ d₂ → n < last_slot → (a : ℕ) → a < t.accs
      → get_or d₂.ports.under (get_or w.own_port (a % 32) 0 % 120) 0 ≡ waiting_of (next t here).state a
  walk_waiting x₁ e₂ d₂ S g a l =
      let W = walk_next x₁ e₂ d₂ S g _ refl (λ (r : Run). r ≡ next t here) (λ _. refl) in
      own_waiting t w F.rules F.table W.state d₂.ports.under d₂.ports.live W.shows.stored.counts a l ∙ ap (λ (r : Run). waiting_of r.state a) W.holds
