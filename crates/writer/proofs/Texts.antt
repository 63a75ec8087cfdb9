-- Texts that are put one after the other, turn by turn: the fields of a line, the int lines and the acc lines. By the clauses of the
-- definitions.
use Prim.Native.Nat.{ℕ, zero, suc, ◌+◌, ◌≤◌, ◌<◌}
use mathlib.Core.List.{List, [], ◌∷◌, ◌++◌, map, append_assoc, append-nil}
use mathlib.Core.Path.{◌≡◌, refl, ap, sym, ◌∙◌, subst}
use native.Mathlib.Numerals.{add-one}
use native.Mathlib.Nat.{add-zero, zero-add, le_antisymm}
use native.Mathlib.Omega.{arith}
use lib.ListN.{length, take, get_or}
use lib.Seq.{take-suc, take-length}
use Rattle.text.specs.Write.{decimal_text, numbers, rows, fields_text, file_text}
use Rattle.put.specs.Page.{ended, joined}
use Rattle.put.specs.declared.Text.{Text}
use Rattle.put.specs.Texts.{Puts}
use Rattle.put.proofs.Texts.{puts_none, puts_then}
use Rattle.put.proofs.Lines.{joined_more}
use Rattle.model.specs.declared.Tree.{Tree}
use Rattle.model.specs.declared.Port.{Port}
use Rattle.writer.specs.Lines.{bus_text, int_text, acc_text}
use Rattle.writer.specs.Writer.{carried_by, port_order, written_text}
use Rattle.writer.specs.Adds.{Adds}

pub adds_none : (a : Text) → Adds a [] a
adds_none a = puts_none a

-- a text is as long as itself
pub adds_whole : {m : ℕ} {a b : Text} {xs : List ℕ} → Puts m a xs b → Adds a xs b
adds_whole p = let q = p.part in record { buffer = p.buffer; part = record { stored = q.stored; ends = q.ends; short = omega arith } }

pub adds_as : {a b : Text} {xs ys : List ℕ} → xs ≡ ys → Adds a xs b → Adds a ys b
adds_as {a} {b} h p = subst (λ (l : List ℕ). Adds a l b) h p

pub adds_then : {a b c : Text} {xs ys : List ℕ} → Adds a xs b → Adds b ys c → Adds a (xs ++ ys) c
adds_then p q = adds_whole (puts_then p q)

numbers_append : (xs ys : List ℕ) → numbers (xs ++ ys) ≡ numbers xs ++ numbers ys
unfolding numbers
numbers_append [] ys = refl
numbers_append (x ∷ xs) ys = ap (λ (l : List (List ℕ)). decimal_text x ∷ l) (numbers_append xs ys)

fields_append : (fs gs : List (List ℕ)) → fields_text (fs ++ gs) ≡ fields_text fs ++ fields_text gs
unfolding fields_text
fields_append [] gs = refl
fields_append (f ∷ fs) gs =
    ap (λ (l : List ℕ). 9 ∷ (f ++ l)) (fields_append fs gs) ∙ ap (λ (l : List ℕ). 9 ∷ l) (sym (append_assoc f (fields_text fs) (fields_text gs)))

one_field : (x : ℕ) → fields_text (numbers (x ∷ [])) ≡ 9 ∷ decimal_text x
unfolding fields_text numbers
one_field x = ap (λ (l : List ℕ). 9 ∷ l) (append-nil (decimal_text x))

-- the first i + 1 fields
pub field_more : (xs : List ℕ) (i : ℕ) → i < length xs
    → fields_text (numbers (take i xs)) ++ (9 ∷ decimal_text (get_or xs i 0)) ≡ fields_text (numbers (take (i + 1) xs))
field_more xs i h =
    let x = get_or xs i 0 in
    ap (λ (l : List ℕ). fields_text (numbers (take i xs)) ++ l) (sym (one_field x))
    ∙ sym (fields_append (numbers (take i xs)) (numbers (x ∷ [])))
    ∙ ap fields_text (sym (numbers_append (take i xs) (x ∷ [])))
    ∙ ap (λ (l : List ℕ). fields_text (numbers l)) (sym (take-suc xs i 0 h) ∙ rw add-one)

pub no_fields : (xs : List ℕ) → [] ≡ fields_text (numbers (take 0 xs))
unfolding fields_text numbers
no_fields xs = refl

pub file_append : (ls ms : List (List ℕ)) → file_text (ls ++ ms) ≡ file_text ls ++ file_text ms
unfolding file_text
file_append [] ms = refl
file_append (l ∷ ls) ms =
    ap (λ (k : List ℕ). l ++ (10 ∷ k)) (file_append ls ms) ∙ sym (append_assoc l (10 ∷ file_text ls) (file_text ms))

pub file_none : [] ≡ file_text []
unfolding file_text
file_none = refl

-- one line
pub file_one : (l : List ℕ) → ended l ≡ file_text (l ∷ [])
unfolding file_text
file_one l = refl

rows_last : (n k : ℕ) (f : ℕ → List ℕ) → rows (suc n) k f ≡ rows n k f ++ (f (k + n) ∷ [])
unfolding rows
rows_last zero k f = ap (λ (i : ℕ). f i ∷ []) (sym (add-zero k))
rows_last (suc n) k f = ap (λ (l : List (List ℕ)). f k ∷ l) (rows_last n (suc k) f ∙ ap (λ (i : ℕ). rows n (suc k) f ++ (f i ∷ [])) (omega arith))

pub no_rows : (f : ℕ → List ℕ) → [] ≡ file_text (rows 0 0 f)
unfolding file_text rows
no_rows f = refl

-- the lines of the first n + 1 numbers
pub row_more : (n : ℕ) (f : ℕ → List ℕ) → file_text (rows n 0 f) ++ ended (f n) ≡ file_text (rows (n + 1) 0 f)
row_more n f =
    ap (λ (l : List ℕ). file_text (rows n 0 f) ++ l) (file_one (f n))
    ∙ sym (file_append (rows n 0 f) (f n ∷ []))
    ∙ ap file_text (ap (λ (i : ℕ). rows n 0 f ++ (f i ∷ [])) (sym (zero-add n)) ∙ sym (rows_last n 0 f) ∙ rw add-one)

pub map_append : (f : ℕ → List ℕ) (xs ys : List ℕ) → map f (xs ++ ys) ≡ map f xs ++ map f ys
map_append f [] ys = refl
map_append f (x ∷ xs) ys = ap (λ (l : List (List ℕ)). f x ∷ l) (map_append f xs ys)

-- lines of numbers in an order that is joined of parts
module _ (f : ℕ → List ℕ) (g : ℕ → List ℕ) where
  pub no_parts : [] ≡ file_text (map f (joined 0 g))
  unfolding file_text joined
  no_parts = refl

  pub part_more : (n : ℕ) → file_text (map f (joined n g)) ++ file_text (map f (g n)) ≡ file_text (map f (joined (n + 1) g))
  part_more n =
      sym (file_append (map f (joined n g)) (map f (g n)))
      ∙ ap file_text (sym (map_append f (joined n g) (g n)) ∙ ap (map f) (sym (joined_more n g)))

-- the acc lines of a port
pub port_lines : (t : Tree) (x y : Port) → x ≡ y → file_text (map (acc_text t) (carried_by x)) ≡ file_text (map (acc_text t) (carried_by y))
port_lines t x y e = ap (λ (z : Port). file_text (map (acc_text t) (carried_by z))) e

-- the text of a tree: its bus line, its int lines and its acc lines
pub text_parts : (t : Tree) → ended (bus_text t) ++ file_text (rows t.ints 0 (int_text t)) ++ file_text (map (acc_text t) (port_order t)) ≡ written_text t
unfolding file_text written_text
text_parts t =
    let ints = rows t.ints 0 (int_text t) in
    ap (λ (l : List ℕ). l ++ file_text (map (acc_text t) (port_order t))) (append_assoc (bus_text t) (10 ∷ []) (file_text ints))
    ∙ sym (file_append (bus_text t ∷ ints) (map (acc_text t) (port_order t)))
