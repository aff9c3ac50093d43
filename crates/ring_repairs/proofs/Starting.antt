-- The loops that write the values of a start.
use Rattle.std.proofs.Common.{◌≡◌, ℕ, zero, suc, ◌+◌, ◌-◌, ◌<◌, ◌≤◌, true, false, cond, List, [], ◌∷◌, ◌++◌, length, drop, drop-cons, get_or, length-append, append_assoc, refl, sym, ◌∙◌, ap, subst, arith}
use Rattle.std.proofs.lemmas.Bool.{cond-true, cond-false, le-leb, lt-leb}
use Rattle.std.proofs.lemmas.List.{drop_all, append-nil}
use Rattle.std.proofs.Math.ListN.{set}
use Rattle.std.proofs.Math.Dec.{leb}
use Rattle.rand_pcg.specs.Lcg.{Lcg}
use Rattle.ring_state.specs.Sizes.{Size}
use Rattle.ring_repairs.specs.Draws.{draw}
use Rattle.ring_repairs.specs.Starts.{after_values, drawn_values, settled_value, Hits, hits_with, hit_by, hits, faulty}

-- a list whose first places are written, with one more

set_at : (xs ys : List ℕ) (y v : ℕ) → set (xs ++ (y ∷ ys)) (length xs) v ≡ xs ++ (v ∷ ys)
set_at [] ys y v = refl
set_at (x ∷ xs) ys y v = ap (λ (t : List ℕ). x ∷ t) (set_at xs ys y v)

pub set_next : (xs old : List ℕ) (i v : ℕ) → length xs ≡ i → i < length old → set (xs ++ drop i old) i v ≡ (xs ++ v ∷ []) ++ drop (i + 1) old
set_next xs old i v long l =
    let next : suc i ≡ i + 1 = omega arith in
    ap (λ (x : List ℕ). set (xs ++ x) i v) (drop-cons old i 0 l)
    ∙ ap (λ (x : ℕ). set (xs ++ (get_or old i 0 ∷ drop (suc i) old)) x v) (sym long)
    ∙ set_at xs (drop (suc i) old) (get_or old i 0) v
    ∙ ap (λ (x : ℕ). xs ++ (v ∷ drop x old)) next
    ∙ sym (append_assoc xs (v ∷ []) (drop (i + 1) old))

pub all_written : (xs old ys : List ℕ) (i : ℕ) → ys ≡ xs ++ drop i old → length old ≤ i → ys ≡ xs
all_written xs old ys i e l = e ∙ ap (λ (x : List ℕ). xs ++ x) (drop_all i old l) ∙ append-nil xs

-- ---- drawn values

pub drawn_none : (k : ℕ) (g : Lcg) (old : List ℕ) → old ≡ drawn_values k g 0 ++ drop 0 old
unfolding drawn_values
drawn_none k g old = refl

pub after_none : (k : ℕ) (g : Lcg) → g ≡ after_values k g 0
unfolding after_values
after_none k g = refl

drawn_suc : (k : ℕ) (g : Lcg) (i : ℕ) → drawn_values k g (suc i) ≡ drawn_values k g i ++ (draw k (after_values k g i)).0 ∷ []
unfolding drawn_values
drawn_suc k g i = refl

after_suc : (k : ℕ) (g : Lcg) (i : ℕ) → after_values k g (suc i) ≡ (draw k (after_values k g i)).1
unfolding after_values
after_suc k g i = refl

pub drawn_long : (k : ℕ) (g : Lcg) (i : ℕ) → length (drawn_values k g i) ≡ i
unfolding drawn_values
drawn_long k g zero = refl
drawn_long k g (suc i) =
    let ih = drawn_long k g i in
    let more = length-append (drawn_values k g i) ((draw k (after_values k g i)).0 ∷ []) in
    omega arith

-- one drawn value more
pub drawn_more : (k : ℕ) (g h h' : Lcg) (i v : ℕ) (old xs ys : List ℕ) → h ≡ after_values k g i → (v, h') ≡ draw k h → i < length old →
    xs ≡ drawn_values k g i ++ drop i old → ys ≡ set xs i v → ys ≡ drawn_values k g (i + 1) ++ drop (i + 1) old
drawn_more k g h h' i v old xs ys eh ev l ex ey =
    let value : v ≡ (draw k (after_values k g i)).0 = ap (λ (p : ℕ × Lcg). p.0) ev ∙ ap (λ (x : Lcg). (draw k x).0) eh in
    let next : suc i ≡ i + 1 = omega arith in
    ey ∙ ap (λ (x : List ℕ). set x i v) ex ∙ set_next (drawn_values k g i) old i v (drawn_long k g i) l
    ∙ ap (λ (x : ℕ). (drawn_values k g i ++ x ∷ []) ++ drop (i + 1) old) value
    ∙ ap (λ (x : List ℕ). x ++ drop (i + 1) old) (sym (drawn_suc k g i))
    ∙ ap (λ (x : ℕ). drawn_values k g x ++ drop (i + 1) old) next

pub after_more : (k : ℕ) (g h h' : Lcg) (i v : ℕ) → h ≡ after_values k g i → (v, h') ≡ draw k h → h' ≡ after_values k g (i + 1)
after_more k g h h' i v eh ev =
    let next : suc i ≡ i + 1 = omega arith in
    ap (λ (p : ℕ × Lcg). p.1) ev ∙ ap (λ (x : Lcg). (draw k x).1) eh ∙ sym (after_suc k g i) ∙ ap (after_values k g) next

-- ---- faults

-- a machine that is hit, and one that is not
pub hit_taken : (k old d left v : ℕ) (g h w : Lcg) (t : ℕ × Lcg) (xs : List ℕ) → (d, h) ≡ t → d < left → (v, w) ≡ draw k h →
    hits_with (xs ++ v ∷ []) (left - 1) w ≡ hit_by k old (hits_with xs left g) t
hit_taken k old d left v g h w t xs e l ev =
    let on : leb (suc d) left ≡ true = le-leb (suc d) left (omega arith) in
    let with_draw : ℕ × Lcg → Hits = λ p. hits_with (xs ++ p.0 ∷ []) (left - 1) p.1 in
    subst (λ (p : ℕ × Lcg). hits_with (xs ++ v ∷ []) (left - 1) w ≡ hit_by k old (hits_with xs left g) p) e
    (ap with_draw ev ∙ sym (cond-true (leb (suc d) left) (with_draw (draw k h)) (hits_with (xs ++ old ∷ []) left h) on))

pub hit_missed : (k old d left : ℕ) (g h : Lcg) (t : ℕ × Lcg) (xs : List ℕ) → (d, h) ≡ t → left ≤ d →
    hits_with (xs ++ old ∷ []) left h ≡ hit_by k old (hits_with xs left g) t
hit_missed k old d left g h t xs e l =
    let off : leb (suc d) left ≡ false = lt-leb (suc d) left (omega arith) in
    let with_draw : ℕ × Lcg → Hits = λ p. hits_with (xs ++ p.0 ∷ []) (left - 1) p.1 in
    subst (λ (p : ℕ × Lcg). hits_with (xs ++ old ∷ []) left h ≡ hit_by k old (hits_with xs left g) p) e
    (sym (cond-false (leb (suc d) left) (with_draw (draw k h)) (hits_with (xs ++ old ∷ []) left h) off))

hits_suc : (size : Size) (p f : ℕ) (g : Lcg) (i : ℕ) →
    hits size p f g (suc i) ≡ hit_by size.k (settled_value p i) (hits size p f g i) (draw (size.n - i) (hits size p f g i).words)
unfolding hits
hits_suc size p f g i = refl

-- the first machines are written
pub record Written (size : Size) (p f : ℕ) (g : Lcg) (old : List ℕ) (i : ℕ) (left : ℕ) (words : Lcg) (values : List ℕ) : Type 0 where
  pub left_is : left ≡ (hits size p f g i).left
  pub words_is : words ≡ (hits size p f g i).words
  pub values_is : values ≡ (hits size p f g i).values ++ drop i old
  pub long : length (hits size p f g i).values ≡ i

pub written_none : (size : Size) (p f : ℕ) (g : Lcg) (old : List ℕ) → Written size p f g old 0 f g old
unfolding hits
written_none size p f g old = record { left_is = refl; words_is = refl; values_is = refl; long = refl }

pub written_more : (size : Size) (p f : ℕ) (g : Lcg) (old : List ℕ) (i : ℕ) (left : ℕ) (words : Lcg) (values : List ℕ) (settled v left' : ℕ) (words' : Lcg) (values' : List ℕ) →
    Written size p f g old i left words values → i < length old → settled ≡ settled_value p i →
    ((xs : List ℕ) → hits_with (xs ++ v ∷ []) left' words' ≡ hit_by size.k settled (hits_with xs left words) (draw (size.n - i) words)) →
    values' ≡ set values i v → Written size p f g old (i + 1) left' words' values'
written_more size p f g old i left words values settled v left' words' values' inv l es step ev =
    let h : Hits = hits size p f g i in
    let next : suc i ≡ i + 1 = omega arith in
    let same : hits_with h.values left words ≡ h =
    ap (λ (x : ℕ). hits_with h.values x words) inv.left_is ∙ ap (λ (x : Lcg). hits_with h.values h.left x) inv.words_is in
    let all : hits_with (h.values ++ v ∷ []) left' words' ≡ hits size p f g (i + 1) =
    step h.values
    ∙ ap (λ (x : ℕ). hit_by size.k x (hits_with h.values left words) (draw (size.n - i) words)) es
    ∙ ap (λ (x : Hits). hit_by size.k (settled_value p i) x (draw (size.n - i) words)) same
    ∙ ap (λ (x : Lcg). hit_by size.k (settled_value p i) h (draw (size.n - i) x)) inv.words_is
    ∙ sym (hits_suc size p f g i) ∙ ap (hits size p f g) next in
    let more = length-append h.values (v ∷ []) in
    let long' = inv.long in
    let grown : h.values ++ v ∷ [] ≡ (hits size p f g (i + 1)).values = ap (λ (x : Hits). x.values) all in
    record {
      left_is = ap (λ (x : Hits). x.left) all;
      words_is = ap (λ (x : Hits). x.words) all;
      values_is =
          ev ∙ ap (λ (x : List ℕ). set x i v) inv.values_is ∙ set_next h.values old i v inv.long l
          ∙ ap (λ (x : List ℕ). x ++ drop (i + 1) old) grown;
      long = sym (ap (λ (x : List ℕ). length x) grown) ∙ omega arith;
    }

pub settled_at : (p i s : ℕ) → i ≤ p → s ≡ 1 → s ≡ settled_value p i
settled_at p i s l e = e ∙ sym (cond-true {A = ℕ} (leb i p) 1 0 (le-leb i p l))

pub settled_past : (p i s : ℕ) → p < i → s ≡ 0 → s ≡ settled_value p i
settled_past p i s l e = e ∙ sym (cond-false {A = ℕ} (leb i p) 1 0 (lt-leb i p l))

-- all machines are written
pub faulty_values : (size : Size) (p f : ℕ) (g h : Lcg) (old : List ℕ) (i left : ℕ) (words : Lcg) (values : List ℕ) →
    Written size p f h old i left words values → (let t : ℕ × Lcg = (p, h) in t) ≡ draw size.n g → i ≡ size.n → length old ≡ size.n →
    values ≡ (faulty size f g).values
faulty_values size p f g h old i left words values inv e at_end long =
    all_written (hits size p f h i).values old values i inv.values_is (omega arith)
    ∙ ap (λ (x : ℕ). (hits size p f h x).values) at_end
    ∙ ap (λ (t : ℕ × Lcg). (hits size t.0 f t.1 size.n).values) e

pub faulty_words : (size : Size) (p f : ℕ) (g h : Lcg) (old : List ℕ) (i left : ℕ) (words : Lcg) (values : List ℕ) →
    Written size p f h old i left words values → (let t : ℕ × Lcg = (p, h) in t) ≡ draw size.n g → i ≡ size.n →
    words ≡ (faulty size f g).words
faulty_words size p f g h old i left words values inv e at_end =
    inv.words_is
    ∙ ap (λ (x : ℕ). (hits size p f h x).words) at_end
    ∙ ap (λ (t : ℕ × Lcg). (hits size t.0 f t.1 size.n).words) e
