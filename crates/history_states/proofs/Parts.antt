-- One part of a table after another.
use Rattle.std.proofs.Common.{subst, ◌≡◌, ℕ, ◌+◌, ◌<◌, ◌≤◌, Bool, true, false, cond, List, [], ◌∷◌, ◌++◌, length, map, take, drop, get_or, Option, Result, Ok, Err, refl, sym, ap, ◌∙◌, arith, append_assoc, length-append}
use Rattle.std.specs.Io.KnownBytes.{Appends}
use Rattle.std.specs.List.{filter, flat_map, range_with_len}
use Rattle.std.proofs.lemmas.List.{append-nil, take_all, take_more, take-append-drop, drop_more}
use Rattle.std.proofs.lemmas.List.Elements.{filter_more}
use Rattle.std.proofs.lemmas.List.FromFn.{get_or-range_with_len, length-range_with_len}
use Rattle.std.proofs.lemmas.List.Concat.{flat_map-append}
use Rattle.text_lines.specs.Writing.{Wrote}
use Rattle.text_lines.proofs.Writing.{appends_then, wrote_none, pieces_more}
use Rattle.history_states.specs.declared.tables.StatesFault.{StatesFault}
use Rattle.history_states.specs.declared.tables.StatesFault.TheVariants.{Write, OutOfMemory}
use Rattle.std.proofs.lemmas.List.Folds.{flat_map-map}
use Rattle.ring_model.specs.Ring.{Ring}
use Rattle.saved_history.specs.Content.{Block, block_of}
use Rattle.history_steps.specs.Steps.{ring_at, calm_at}
use Rattle.history_states.specs.declared.calls.Call.{Call}
use Rattle.saved_history.specs.declared.saved.SavedRing.{SavedRing}
use Rattle.history_states.specs.declared.form.Form.{Form}
use Rattle.history_states.specs.Rows.{kind_of, call_of, last_event, row_text, row, rows}
use Rattle.history_states.specs.Tables.{HasTable}

-- what comes after a text that is written, with more to come
wrote_after : (a b c : Option (List ℕ)) (x y left : List ℕ) → Appends a b x → Wrote b c y left → Wrote a c (x ++ y) left
wrote_after a b c x y left p q = (x ++ q.0, ap (λ (u : List ℕ). x ++ u) q.1 ∙ sym (append_assoc x q.0 left), appends_then a b c x q.0 p q.2)

wrote_before : (a b : Option (List ℕ)) (x y left : List ℕ) → Wrote a b x left → Wrote a b (x ++ y) (left ++ y)
wrote_before a b x y left q = (q.0, ap (λ (u : List ℕ). u ++ y) q.1 ∙ append_assoc q.0 left y, q.2)

-- a part and then another
pub table_then : (a b c : Option (List ℕ)) (r : Result (Unit {0}) StatesFault) (x y : List ℕ) → Appends a b x → HasTable b c r y → HasTable a c r (x ++ y)
table_then a b c (Ok u) x y p q = appends_then a b c x y p q
table_then a b c (Err Write) x y p q = (q.0, q.1, wrote_after a b c x y q.0 p q.2)
table_then a b c (Err OutOfMemory) x y p q = (q.0, wrote_after a b c x y q.0 p q.1)

-- a fault in a part is one in what begins with it
pub table_err : (a b : Option (List ℕ)) (e : StatesFault) (x y : List ℕ) → HasTable a b (Err e) x → HasTable a b (Err e) (x ++ y)
table_err a b Write x y q = (q.0 ++ y, (let some = q.1 in omega (arith, length-append q.0 y, some)), wrote_before a b x y q.0 q.2)
table_err a b OutOfMemory x y q = (q.0 ++ y, wrote_before a b x y q.0 q.1)

-- nothing was written
pub table_none : (a : Option (List ℕ)) (text : List ℕ) → HasTable a a (Err OutOfMemory) text
table_none a text = (text, wrote_none a text)

-- the same text
pub table_same : (a b : Option (List ℕ)) (r : Result (Unit {0}) StatesFault) (x y : List ℕ) → x ≡ y → HasTable a b r x → HasTable a b r y
table_same a b r x y e h = let P : List ℕ → Type 0 = λ t. HasTable a b r t in subst P e h

-- a fault at the next part of many
pub table_fault : (X : Type 0) (f : X → List ℕ) (xs : List X) (i : ℕ) (d : X) → i < length xs → (a b c : Option (List ℕ)) → Appends a b (flat_map f (take i xs)) → (e : StatesFault) → HasTable b c (Err e) (f (get_or xs i d)) → HasTable a c (Err e) (flat_map f xs)
table_fault X f xs i d lt a b c so_far e h =
    let cut : flat_map f xs ≡ flat_map f (take i xs) ++ (f (get_or xs i d) ++ flat_map f (drop (i + 1) xs)) = ap (flat_map f) (sym (take-append-drop i xs)) ∙ flat_map-append f (take i xs) (drop i xs) ∙ ap (λ (u : List X). flat_map f (take i xs) ++ flat_map f u) (drop_more xs i d lt) in
    rw cut (table_then a b c (Err e) (flat_map f (take i xs)) (f (get_or xs i d) ++ flat_map f (drop (i + 1) xs)) so_far (table_err b c e (f (get_or xs i d)) (flat_map f (drop (i + 1) xs)) h))

-- ---- the privileged machines, one by one

-- the numbers below n that pass, with one more looked at
module _ (p : ℕ → Bool) (n : ℕ) where
  next_is : (i : ℕ) → i < n → filter p (take (i + 1) (range_with_len 0 n)) ≡ filter p (take i (range_with_len 0 n)) ++ cond (p i) (i ∷ []) []
  next_is i lt =
      let zero : 0 + i ≡ i = omega arith in
      let at : get_or (range_with_len 0 n) i 0 ≡ i = get_or-range_with_len 0 n i 0 lt ∙ zero in
      let within : i < length (range_with_len 0 n) = rw (length-range_with_len 0 n) lt in
      filter_more p (range_with_len 0 n) i 0 within
      ∙ ap (λ (x : ℕ). filter p (take i (range_with_len 0 n)) ++ cond (p x) (x ∷ []) []) at

  pub passes_more : (i : ℕ) (was is : List ℕ) → i < n → p i ≡ true → was ≡ filter p (take i (range_with_len 0 n)) → is ≡ was ++ i ∷ [] → is ≡ filter p (take (i + 1) (range_with_len 0 n))
  passes_more i was is lt on so_far grown =
      grown ∙ ap (λ (xs : List ℕ). xs ++ i ∷ []) so_far
      ∙ sym (next_is i lt ∙ ap (λ (b : Bool). filter p (take i (range_with_len 0 n)) ++ cond b (i ∷ []) []) on)

  pub fails_more : (i : ℕ) (was : List ℕ) → i < n → p i ≡ false → was ≡ filter p (take i (range_with_len 0 n)) → was ≡ filter p (take (i + 1) (range_with_len 0 n))
  fails_more i was lt off so_far =
      so_far ∙ sym (append-nil (filter p (take i (range_with_len 0 n))))
      ∙ sym (next_is i lt ∙ ap (λ (b : Bool). filter p (take i (range_with_len 0 n)) ++ cond b (i ∷ []) []) off)

  pub passes_all : (i : ℕ) (found : List ℕ) → n ≤ i → found ≡ filter p (take i (range_with_len 0 n)) → found ≡ filter p (range_with_len 0 n)
  passes_all i found past is = is ∙ ap (filter p) (take_all i (range_with_len 0 n) (rw (length-range_with_len 0 n) past))

-- ---- one text for each number below n, one after the other

module _ (f : ℕ → List ℕ) (n : ℕ) where
  at_place : (i : ℕ) → i < n → get_or (range_with_len 0 n) i 0 ≡ i
  at_place i lt = let zero : 0 + i ≡ i = omega arith in get_or-range_with_len 0 n i 0 lt ∙ zero

  within_places : (i : ℕ) → i < n → i < length (range_with_len 0 n)
  within_places i lt = rw (length-range_with_len 0 n) lt

  pub place_more : (i : ℕ) (a b c : Option (List ℕ)) → i < n → Appends a b (flat_map f (take i (range_with_len 0 n))) → Appends b c (f i) → Appends a c (flat_map f (take (i + 1) (range_with_len 0 n)))
  place_more i a b c lt so_far h =
      let P : ℕ → Type 0 = λ x. Appends b c (f x) in
      pieces_more ℕ f (range_with_len 0 n) i 0 (within_places i lt) a b c so_far (subst P (sym (at_place i lt)) h)

  pub place_fault : (i : ℕ) (a b c : Option (List ℕ)) (e : StatesFault) → i < n → Appends a b (flat_map f (take i (range_with_len 0 n))) → HasTable b c (Err e) (f i) → HasTable a c (Err e) (flat_map f (range_with_len 0 n))
  place_fault i a b c e lt so_far h =
      let P : ℕ → Type 0 = λ x. HasTable b c (Err e) (f x) in
      table_fault ℕ f (range_with_len 0 n) i 0 (within_places i lt) a b c so_far e (subst P (sym (at_place i lt)) h)

  -- and the last
  pub place_last : (i : ℕ) (a b c : Option (List ℕ)) (r : Result (Unit {0}) StatesFault) → i + 1 ≡ n → Appends a b (flat_map f (take i (range_with_len 0 n))) → HasTable b c r (f i) → HasTable a c r (flat_map f (range_with_len 0 n))
  place_last i a b c r last so_far h =
      let xs = range_with_len 0 n in
      let lt : i < n = omega arith in
      let whole : length xs ≤ i + 1 = rw (length-range_with_len 0 n) (omega arith) in
      let cut : xs ≡ take i xs ++ i ∷ [] = sym (take_all (i + 1) xs whole) ∙ take_more xs i 0 (within_places i lt) ∙ ap (λ (x : ℕ). take i xs ++ x ∷ []) (at_place i lt) in
      let texts : flat_map f (take i xs) ++ f i ≡ flat_map f xs =
      ap (λ (t : List ℕ). flat_map f (take i xs) ++ t) (sym (append-nil (f i))) ∙ sym (flat_map-append f (take i xs) (i ∷ [])) ∙ ap (flat_map f) (sym cut) in
      table_same a c r (flat_map f (take i xs) ++ f i) (flat_map f xs) texts (table_then a b c r (flat_map f (take i xs)) (f i) so_far h)

-- ---- the rows of rings

pub rings_all : (f : Form) (rings : List SavedRing) (i : ℕ) (a b : Option (List ℕ)) → length rings ≤ i → Appends a b (flat_map (λ (r : SavedRing). rows f (block_of r)) (take i rings)) → Appends a b (flat_map (rows f) (map block_of rings))
rings_all f rings i a b past h =
    let P : List ℕ → Type 0 = λ t. Appends a b t in
    subst P (ap (flat_map (λ (r : SavedRing). rows f (block_of r))) (take_all i rings past) ∙ sym (flat_map-map (rows f) block_of rings)) h

-- ---- a row by what it has

pub row_is : (f : Form) (b : Block) (index place : ℕ) (kind : List ℕ) (call : Call) (r : Ring) (calm : ℕ) → index ≡ b.index → kind ≡ kind_of (last_event b place) → call ≡ call_of (last_event b place) →
    r ≡ ring_at b place → calm ≡ calm_at b place → row_text f index place kind call r calm ≡ row f b place
row_is f b index place kind call r calm at named called here calmed =
    ap (λ (x : ℕ). row_text f x place kind call r calm) at
    ∙ ap (λ (x : List ℕ). row_text f b.index place x call r calm) named
    ∙ ap (λ (x : Call). row_text f b.index place (kind_of (last_event b place)) x r calm) called
    ∙ ap (λ (x : Ring). row_text f b.index place (kind_of (last_event b place)) (call_of (last_event b place)) x calm) here
    ∙ ap (λ (x : ℕ). row_text f b.index place (kind_of (last_event b place)) (call_of (last_event b place)) (ring_at b place) x) calmed
