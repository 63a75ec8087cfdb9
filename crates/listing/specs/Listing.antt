-- The report and the refusal of document 01 (the end of "Figures to check by").
--
-- head_line            "acc level share yr yw resp period verdict", with sr and sw in the place of share
-- verdict_of b         `meets` or `late`
-- row_text a r         "The columns are accelerator, L, share, both interferences, response, T and verdict", where "the report's
--                      share column becomes two, reads first, named sr and sw" (document 02, item 5)
-- all_line b           "the last line": `all` and the verdict
-- all_meet t           whether all accelerators meet their periods
-- refusal_text n l     "A refusal prints one line only: "refused", number and line, parted by tabs"
-- report_text t        the report: the head line, a row for each accelerator "rising by number", and "the last line says
--                      meets if all do"; for a configuration that breaks its rules (11) nothing is put
use Rattle.std.specs.Prelude.{ℕ, Bool, List, [], ◌++◌}
use Rattle.model.specs.declared.Tree.{Tree}
use Rattle.folds.specs.Fold.{pick, all}
use Rattle.rules.specs.Rules.{tree_keeps}
use Rattle.bounds.specs.Bounds.{Analysis, analysis_of}
use Rattle.text.specs.Write.{decimal_text}
use Rattle.put.specs.Page.{bytes, field, ended, joined}

abbrev pub head_line : List ℕ
head_line = bytes "acc\tlevel\tsr\tsw\tyr\tyw\tresp\tperiod\tverdict\n"

abbrev pub verdict_of : Bool → List ℕ
verdict_of b = pick b (bytes "meets") (bytes "late")

unfoldable pub row_text : ℕ → Analysis → List ℕ
row_text a r =
    field (decimal_text a)
    ++ field (decimal_text r.level)
    ++ field (decimal_text r.reads.share)
    ++ field (decimal_text r.writes.share)
    ++ field (decimal_text r.reads.interference)
    ++ field (decimal_text r.writes.interference)
    ++ field (decimal_text r.response)
    ++ field (decimal_text r.period)
    ++ ended (verdict_of r.meets)

unfoldable pub all_line : Bool → List ℕ
all_line b = field (bytes "all") ++ ended (verdict_of b)

abbrev pub all_meet : Tree → Bool
all_meet t = all t.accs (λ a. (analysis_of t a).meets)

unfoldable pub refusal_text : ℕ → ℕ → List ℕ
refusal_text n l = field (bytes "refused") ++ field (decimal_text n) ++ ended (decimal_text l)

unfoldable pub report_text : Tree → List ℕ
report_text t =
    pick (tree_keeps t)
    (head_line ++ joined t.accs (λ a. row_text a (analysis_of t a)) ++ all_line (all_meet t))
    []
