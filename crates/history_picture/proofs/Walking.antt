-- Means for the walk over the columns.
use Rattle.std.proofs.Common.{◌≡◌, ℕ, zero, suc, ◌+◌, ◌<◌, ◌≤◌, Bool, true, false, cond, List, [], ◌∷◌, ◌++◌, length, get_or, take, map, Option, Some, None, refl, sym, ap, subst, ◌∙◌, inl, inr, arith}
use Rattle.std.specs.List.{flat_map, slice_get}
use Rattle.std.proofs.lemmas.List.{take_more, take_all, map-append, append-nil}
use Rattle.std.proofs.lemmas.List.Concat.{flat_map-append}
use Rattle.std.proofs.lemmas.Option.{slice_get-get_or, slice_get_cases}
use Rattle.ring_model.specs.Ring.{Ring, ring_with, is_privileged}
use Rattle.saved_history.specs.declared.saved.SavedRing.{SavedRing}
use Rattle.saved_history.specs.Content.{Block}
use Rattle.ring_check.specs.declared.gauge.Gauge.{Gauge}
use Rattle.ring_check.specs.Gauges.{ring_of, IsGauge}
use Rattle.history_picture.specs.declared.stretches.Run.{Run}
use Rattle.history_picture.specs.declared.stretches.Row.{Row}
use Rattle.history_steps.specs.Steps.{HasRing}
use Rattle.history_picture.specs.Stretches.{Stretch, begin_after, ended_from, run_from, run_begin, runs_ended, stretches, pieces}
use Rattle.history_picture.specs.Picture.{privileged_in, rectangle, row_text, rows_text}
use Rattle.history_picture.specs.Walks.{stretch_of, IsLooked, AreLooked, IsRow, AreNew, AreRows, stretches_to, row_to, rows_to}

-- a gauge that went over to other values
pub followed : (ring : SavedRing) (q r : Ring) (g h : Gauge) (base : List ℕ) → HasRing ring q g → IsGauge h → ring_of h ≡ ring_with (ring_of g).k base → ring_with ring.k base ≡ r → length base ≡ ring.n → HasRing ring r h
followed ring q r g h base has is step e n = record {
  gauge = is;
  k = ap (λ (x : Ring). x.k) step ∙ has.k;
  machines = ap (λ (x : Ring). length x.values) step ∙ n;
  same = step ∙ ap (λ (x : ℕ). ring_with x base) has.k ∙ e;
}

-- its values as a copy
pub copied : (ring : SavedRing) (r : Ring) (g : Gauge) (base : List ℕ) → HasRing ring r g → base ≡ (ring_of g).values → ring_with ring.k base ≡ r
copied ring r g base has e = ap (λ (x : ℕ). ring_with x base) (sym has.k) ∙ ap (λ (s : List ℕ). ring_with (ring_of g).k s) e ∙ has.same

-- one new row more
pub new_at : (rows : List Row) (row : Row) (i : ℕ) (d : Row) (p : ℕ → Bool) → AreNew rows → IsRow p 0 row → i < length (rows ++ row ∷ []) → IsRow p 0 (get_or (rows ++ row ∷ []) i d)
new_at [] row zero d p h n lt = n
new_at [] row (suc i) d p h n lt = absurd (omega arith)
new_at (x ∷ rows) row zero d p h n lt = h 0 d p (omega arith)
new_at (x ∷ rows) row (suc i) d p h n lt = new_at rows row i d p (λ j e q l. h (suc j) e q (omega arith)) n (omega arith)

-- a row with one column more
row_more : (p : ℕ → Bool) (c : ℕ) (v : Bool) (a b : Row) → v ≡ p c → IsRow p c a → IsLooked c v a b → IsRow p (c + 1) b
row_more p c v a b e h l =
    let one : suc c ≡ c + 1 = omega arith in
    let begin : b.begin ≡ run_begin p (suc c) = l.begin ∙ ap (λ (x : ℕ). begin_after x c v) h.begin ∙ ap (begin_after (run_begin p c) c) e in
    let ended : map stretch_of b.ended.items ≡ runs_ended p (suc c) = l.ended ∙ ap (λ (x : List Stretch). x ++ ended_from a.begin c v) h.ended ∙ ap (λ (x : ℕ). runs_ended p c ++ ended_from x c v) h.begin ∙ ap (λ (x : Bool). runs_ended p c ++ ended_from (run_begin p c) c x) e in
    record { begin = begin ∙ ap (run_begin p) one; ended = ended ∙ ap (runs_ended p) one }

pub rows_new : (b : Block) (from : ℕ) (rows : List Row) → AreNew rows → AreRows b from 0 rows
rows_new b from rows h = λ i d lt. h i d (privileged_in b from i) lt

pub rows_more : (b : Block) (from c : ℕ) (values : List ℕ) (before behind : List Row) → length behind ≡ length before → ((i : ℕ) → is_privileged values i ≡ privileged_in b from i c) → AreRows b from c before → AreLooked c values before behind → AreRows b from (c + 1) behind
rows_more b from c values before behind n e h l = λ i d lt. row_more (privileged_in b from i) c (is_privileged values i) (get_or before i d) (get_or behind i d) (e i) (h i d (omega arith)) (l i d (omega arith))

-- the text of a row whose columns were all walked
row_is : (p : ℕ → Bool) (n columns machine : ℕ) (row : Row) → IsRow p columns row → flat_map (rectangle n columns machine) (stretches_to columns row) ≡ flat_map (rectangle n columns machine) (stretches p columns)
row_is p n columns machine row h = ap (λ (x : List Stretch). flat_map (rectangle n columns machine) (x ++ run_from row.begin columns)) h.ended ∙ ap (λ (x : ℕ). flat_map (rectangle n columns machine) (runs_ended p columns ++ run_from x columns)) h.begin

row_at : (b : Block) (from columns : ℕ) (rows : List Row) (d : Row) (i : ℕ) → AreRows b from columns rows → i < length rows → row_to b.n columns i (slice_get rows i) ≡ row_text b from columns i
row_at b from columns rows d i h lt = ap (row_to b.n columns i) (slice_get-get_or rows i d lt) ∙ row_is (privileged_in b from i) b.n columns i (get_or rows i d) (h i d lt)

pieces_same : (f g : ℕ → List ℕ) (m : ℕ) → ((i : ℕ) → i < m → f i ≡ g i) → pieces f m ≡ pieces g m
pieces_same f g zero e = refl
pieces_same f g (suc m) e = ap (λ (x : List ℕ). x ++ f m) (pieces_same f g m (λ i lt. e i (omega arith))) ∙ ap (λ (x : List ℕ). pieces g m ++ x) (e m (omega arith))

pub rows_are : (b : Block) (from columns : ℕ) (rows : List Row) → length rows ≡ b.n → AreRows b from columns rows → rows_to b.n columns rows ≡ rows_text b from columns
rows_are b from columns [] n h = ap (pieces (row_text b from columns)) n
rows_are b from columns (row ∷ rows) n h =
    pieces_same (λ i. row_to b.n columns i (slice_get (row ∷ rows) i)) (row_text b from columns) (length (row ∷ rows)) (λ i lt. row_at b from columns (row ∷ rows) row i h lt)
    ∙ ap (pieces (row_text b from columns)) n

-- the runs of a row, written one after the other
abbrev pub run_to : (Stretch → List ℕ) → Option Run → List ℕ
run_to g None = []
run_to g (Some run) = g (stretch_of run)

taken : (g : Stretch → List ℕ) (runs : List Run) (m : ℕ) → m ≤ length runs → pieces (λ i. run_to g (slice_get runs i)) m ≡ flat_map g (map stretch_of (take m runs))
taken g runs zero l = refl
taken g runs (suc m) l = elim ((slice_get_cases runs m).1) [
  | inl h ↦
      let x = h.0 in
      let one : suc m ≡ m + 1 = omega arith in
      let cut : take (suc m) runs ≡ take m runs ++ x ∷ [] = ap (λ (j : ℕ). take j runs) one ∙ take_more runs m x h.1 ∙ ap (λ (y : Run). take m runs ++ y ∷ []) h.3 in
      let all : flat_map g (map stretch_of (take (suc m) runs)) ≡ flat_map g (map stretch_of (take m runs)) ++ (g (stretch_of x) ++ []) =
      ap (λ (u : List Run). flat_map g (map stretch_of u)) cut ∙ ap (flat_map g) (map-append stretch_of (take m runs) (x ∷ [])) ∙ flat_map-append g (map stretch_of (take m runs)) (stretch_of x ∷ []) in
      let here : run_to g (slice_get runs m) ≡ g (stretch_of x) = ap (run_to g) h.2 in
      ap (λ (u : List ℕ). u ++ run_to g (slice_get runs m)) (taken g runs m (omega arith)) ∙ ap (λ (u : List ℕ). flat_map g (map stretch_of (take m runs)) ++ u) (here ∙ sym (append-nil (g (stretch_of x)))) ∙ sym all
  | inr past ↦ absurd (omega (arith, past.0))
]

pub runs_are : (g : Stretch → List ℕ) (runs : List Run) → pieces (λ i. run_to g (slice_get runs i)) (length runs) ≡ flat_map g (map stretch_of runs)
runs_are g runs = taken g runs (length runs) (omega arith) ∙ ap (λ (u : List Run). flat_map g (map stretch_of u)) (take_all (length runs) runs (omega arith))
