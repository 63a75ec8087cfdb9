-- `run_wait` meets its contract: each return is the ending that the tests before it pick, and what is told is told by a run alone.
use mathlib.Core.Path.{ap, sym, ◌∙◌}
use Rattle.lines.specs.Answer.{file_answer}
use Rattle.trace.proofs.Traces.{reads_kept}
use Rattle.runner.specs.Run.{start}
use Rattle.runner.specs.Places.{left_at}
use Rattle.runner.specs.Answers.{run_means}
use Rattle.runner.specs.Wait.{waits_after, used_by}
use Rattle.runner.proofs.Trace.{accepts_start}
use Rattle.runner.proofs.Telling.{asked_known}
use Rattle.runner.proofs.Endings.{begun, unbegun, ran_broken, ran_size, ran_read, refused_read, told_broken, told_size, told_read_lem}
use Rattle.runner.proofs.run_wait.Goals as goal

pub returns-in_default : goal.returns-in_default
returns-in_default c =
    let fresh = c in
    let x = fresh.args in
    let u = c.untold.ensures in
    let no = unbegun x.t x.channel _ fresh.fresh-start.ensures _ c.in_default.is in
    let r = ran_broken x.t x.channel x.trace.now x.out.now no in record {
      answer = ap run_means u.answer ∙ r.0;
      bytes = r.1;
      wait = u.wait ∙ told_broken x.t x.channel x.trace.now x.a x.k _ no;
    }

pub returns-then-out-gt65536 : goal.returns-then-out-gt65536
returns-then-out-gt65536 c =
    let large = c in
    let fresh = large in
    let x = fresh.args in
    let u = c.untold-then-out-gt65536.ensures in
    let g = begun x.t x.channel _ fresh.fresh-start.ensures _ large.in-Ok.is in
    let r = ran_size x.t x.channel x.trace.now x.out.now g.0 large.if-out-gt65536.true in record {
      answer = ap run_means u.answer ∙ r.0;
      bytes = r.1;
      wait = u.wait ∙ told_size x.t x.channel x.trace.now x.a x.k _ g.0 large.if-out-gt65536.true;
    }

pub run_slots-requires : goal.run_slots-requires
run_slots-requires c =
    let accepted = c in
    let read = accepted in
    let small = read in
    let fresh = small in
    let x = fresh.args in
    let g = begun x.t x.channel _ fresh.fresh-start.ensures _ small.in-Ok.is in
    let y = sym (read.read_requests.ensures ∙ reads_kept x.t _ g.0) ∙ ap file_answer accepted.in-Ok-read_requests.is in
    (g.0, g.1, small.if-out-gt65536.false, accepts_start x.t x.trace.now y, asked_known x.t x.a x.k _ c.number_asked-number.ensures)

pub returns-in-Ok-read_requests : goal.returns-in-Ok-read_requests
returns-in-Ok-read_requests c =
    let ran = c in
    let accepted = ran in
    let read = accepted in
    let small = read in
    let fresh = small in
    let x = fresh.args in
    let g = begun x.t x.channel _ fresh.fresh-start.ensures _ small.in-Ok.is in
    let y = sym (read.read_requests.ensures ∙ reads_kept x.t _ g.0) ∙ ap file_answer accepted.in-Ok-read_requests.is in
    let e = ran_read x.t x.channel x.trace.now x.out.now g.0 small.if-out-gt65536.false _ y in
    let w = told_read_lem x.t x.channel x.trace.now x.a x.k _ g.0 small.if-out-gt65536.false _ y in
    let r = ran.run_slots.ensures in
    let rs = left_at x.trace.now 0 in
    let asked = ap (waits_after x.t (start x.t x.channel rs) (used_by x.t x.channel rs _) x.a) ran.number_asked-number.ensures in record {
      answer = r.answer ∙ e.0;
      bytes = r.bytes ∙ e.1;
      wait = r.wait ∙ asked ∙ w;
    }

pub returns-in-Err : goal.returns-in-Err
returns-in-Err c =
    let x = c.args in
    let u = c.untold-in-Err.ensures in
    let g = begun x.t x.channel _ c.fresh-start.ensures _ c.in-Ok.is in
    let y = sym (c.read_requests.ensures ∙ reads_kept x.t _ g.0) ∙ ap file_answer c.in-Err.is in
    let e = ran_read x.t x.channel x.trace.now x.out.now g.0 c.if-out-gt65536.false _ y in
    let r = refused_read _ _ x.out.now _ in record {
      answer = ap run_means u.answer ∙ r.0 ∙ e.0;
      bytes = r.1 ∙ e.1;
      wait = u.wait ∙ r.2 ∙ told_read_lem x.t x.channel x.trace.now x.a x.k _ g.0 c.if-out-gt65536.false _ y;
    }
