-- "The writer keeps the record name": an accepted file begins with a bus line of its tree, whose name has no tab inside, and the written
-- text is such a file of the same tree.
use Prim.Native.Nat.{ℕ}
use mathlib.Core.List.{List, ◌∷◌, ◌++◌, append_assoc}
use mathlib.Core.Path.{◌≡◌, refl, sym, ◌∙◌, ap}
use lib.Dec.{lit<}
use lib.ListN.{drop}
use borrow.Author.Tests.{ne_eqb}
use Rattle.text.specs.Text.{part_length}
use Rattle.text.specs.Write.{numbers, fields_text, line_text, file_text}
use Rattle.text.proofs.Written.{Clean, clean_none, clean_more}
use Rattle.model.specs.declared.Tree.{Tree}
use Rattle.lines.specs.declared.Kind.{Kind}
use Rattle.lines.specs.Answer.{Accepted}
use Rattle.lines.specs.Lines.{bus_kind, name_of}
use Rattle.lines.proofs.Written.{name_clean}
use Rattle.placing.specs.Placing.{TreeRead}
use Rattle.reader.specs.TreeFile.{read_tree}
use Rattle.writer.specs.Lines.{bus_front, bus_values, bus_name}
use Rattle.accepts.specs.TreeText.{WritesBus, with_delay, without_delay, Writes}
use Rattle.accepts.specs.RoundTrip.{rewritten}
use Rattle.accepts.specs.Names.{record_name, NameKept}
use Rattle.accepts.proofs.Exactly.{exactly_written}
use Rattle.accepts.proofs.RoundTrip.{accepted_given, rewritten_read}

before_tab : {l : List ℕ} (r : List ℕ) → Clean 9 l → record_name (l ++ (9 ∷ r)) ≡ l
unfolding part_length
before_tab r clean_none = refl
before_tab r (clean_more {b} {s} d C) = rw (ne_eqb b 9 d) (ap (λ (x : List ℕ). b ∷ x) (before_tab r C))

-- a line of numbers, and what comes after it
line_name : (k : Kind) (x : ℕ) (xs r : List ℕ) → record_name (line_text (name_of k) (numbers (x ∷ xs)) ++ r) ≡ name_of k
unfolding fields_text numbers
line_name k x xs r = ap record_name (append_assoc (name_of k) _ r) ∙ before_tab _ (name_clean 9 (lit< tt) k)

writes_name : {s : List ℕ} {t : Tree} → Writes s t → record_name s ≡ bus_name t.bus
unfolding file_text
writes_name {s} {t} W = ap record_name W.text ∙ go _ W.writes_bus where
  named : {l : List ℕ} (x : ℕ) (xs r : List ℕ) → l ≡ line_text (bus_name t.bus) (numbers (x ∷ xs)) → record_name (l ++ r) ≡ bus_name t.bus
  named x xs r q = ap (λ (l : List ℕ). record_name (l ++ r)) q ∙ line_name (bus_kind t.bus.axi3) x xs r

  go : {l : List ℕ} (r : List ℕ) → WritesBus t.bus l → record_name (l ++ r) ≡ bus_name t.bus
  go r (with_delay q) = named t.bus.window (drop 1 (bus_values t.bus)) r q
  go r (without_delay z q) = named t.bus.window (drop 1 (bus_front t.bus)) r q

said_by : (s : List ℕ) → (read_tree s).answer ≡ Accepted → record_name s ≡ bus_name (read_tree s).tree.bus
said_by s e = writes_name ((exactly_written s (read_tree s).tree).0 (accepted_given s e)).1

pub names_kept : (s : List ℕ) → (read_tree s).answer ≡ Accepted → NameKept s
names_kept s e =
    let same : (r : List ℕ) → (read_tree r).answer ≡ Accepted → (read_tree r).tree ≡ (read_tree s).tree → record_name r ≡ record_name s =
    λ r f q. said_by r f ∙ ap (λ (t : Tree). bus_name t.bus) q ∙ sym (said_by s e) in
    let again = rewritten_read s e in
    record {
      said = said_by s e;
      kept = same (rewritten s) (ap (λ (x : TreeRead). x.answer) again ∙ e) (ap (λ (x : TreeRead). x.tree) again);
      other = same;
    }
