-- The text of an outcome given in pages: those of a run are the run's, and a refusal has one.
use Prim.Native.Nat.{ℕ}
use mathlib.Core.Bool.{Bool, true, false}
use mathlib.Core.List.{List}
use mathlib.Core.Path.{◌≡◌, refl, ap, sym, ◌∙◌}
use lib.ListN.{length}
use Rattle.folds.specs.Fold.{pick}
use Rattle.folds.proofs.Folds.{picked, passed}
use Rattle.answers.specs.declared.Outcome.{Outcome}
use Rattle.listing.specs.Listing.{refusal_text}
use Rattle.put.specs.Page.{joined, Written}
use Rattle.put.proofs.Puts.{written_as}
use Rattle.journal.specs.Journal.{run_text, pages, page_text}
use Rattle.journal.proofs.Paged.{pages_whole as run-whole}
use Rattle.simulation.specs.Simulation.{is_run, is_done, used, simulation_text, page_count, simulation_page}

-- the pages of an outcome one after the other are its whole text
pub pages_whole : (o : Outcome) (bs : List ℕ) → joined (page_count o bs) (simulation_page o bs) ≡ simulation_text o bs
unfolding simulation_page simulation_text joined
pages_whole o bs = by (is_run o) where
  by : (b : Bool) → joined (pick b (pages (length (used o bs))) 1) (λ i. pick b (page_text (used o bs) i (is_done o)) (refusal_text o.number o.line))
      ≡ pick b (run_text (used o bs) (is_done o)) (refusal_text o.number o.line)
  by true = run-whole (used o bs) (is_done o)
  by false = refl

-- a page of a run, and of a refusal, is that of the outcome
module _ (o : Outcome) (bs : List ℕ) (i : ℕ) {d e : List ℕ} {m : ℕ} where
  pub page_of_run : {us : List ℕ} → is_run o ≡ true → us ≡ used o bs → Written (page_text us i (is_done o)) d e m → Written (simulation_page o bs i) d e m
  unfolding simulation_page
  page_of_run r q = written_as (ap (λ (us : List ℕ). page_text us i (is_done o)) q ∙ sym (picked _ _ _ r))

  pub page_of_refusal : is_run o ≡ false → Written (refusal_text o.number o.line) d e m → Written (simulation_page o bs i) d e m
  unfolding simulation_page
  page_of_refusal r = written_as (sym (passed _ _ _ r))
