-- Spoiled outcomes of an opened or a closed ring.
use Rattle.std.proofs.Common.{◌≡◌, ℕ, ◌+◌, ◌<◌, ◌≤◌, List, [], ◌∷◌, ◌++◌, length, Some, slice_get, slice_index_or, refl, ap, sym, ◌∙◌, subst, arith, length-append, eqb, eq-eqb, true}
use Rattle.std.specs.Prelude.{All}
use Rattle.std.proofs.lemmas.List.Elements.{filter-append}
use Rattle.std.proofs.lemmas.Option.{slice_get_within, get_or_from_slice_get}
use Rattle.ring_model.specs.History.{Works, State}
use Rattle.ring_model.specs.Logs.{Fits, calls_of, receipts_of}
use Rattle.ring_model.specs.declared.events.Op.{Op}
use Rattle.ring_model.specs.declared.events.Event.{Event}
use Rattle.ring_model.specs.declared.events.Entry.{Entry}
use Rattle.ring_model.specs.declared.events.Entry.TheVariants as entry
use Rattle.ring_model.specs.declared.events.Receipt.{Receipt}
use Rattle.ring_book.specs.BookView.{BookView, IsRecorded}
use Rattle.ring_shared.specs.Client.{Client}
use Rattle.ring_shared.specs.Closing.{HasLog, AreNumbered}
use Rattle.ring_shared.specs.Seats.{AreOfSeats}
use Rattle.ring_shared.specs.Log.{Log}
use Rattle.wrong_shared_bodies.proofs.Ends.{at_end, last_of, before_last, behind_it}

-- a book that made a call is another one
pub recorded_changes : {C : Type 0} (w : Works C) (old new : BookView C) (seat : ℕ) (op : Op) (r : Receipt) → IsRecorded w old new seat op r → new ≡ old → ⊥
recorded_changes {C} w old new seat op r h e =
    let n : length new.history ≡ length old.history = ap (λ (b : BookView C). length b.history) e in
    omega (arith, n, ap (λ (x : List Event). length x) h.grown, length-append old.history (r.event ∷ []))

pub numbered_swapped : (ls ms front : List Log) (l m : Log) → AreNumbered ls → AreNumbered ms → ls ≡ (front ++ l ∷ []) ++ m ∷ [] → ms ≡ (front ++ m ∷ []) ++ l ∷ [] → ⊥
numbered_swapped ls ms front l m a b e d =
    let here : l.seat ≡ length front = a (length front) l (before_last ls front l m e) in
    let there : l.seat ≡ length front + 1 = b (length front + 1) l (behind_it ms front m l d) in
    omega (arith, here, there)

pub numbered_last : (ls ms front : List Log) (l m : Log) → AreNumbered ls → AreNumbered ms → ls ≡ front ++ l ∷ [] → ms ≡ front ++ m ∷ [] → l.seat ≡ m.seat
numbered_last ls ms front l m a b e d = a (length front) l (last_of ls front l e) ∙ sym (b (length front) m (last_of ms front m d))

fits_last : {C : Type 0} (w : Works C) (a : State C) (h : List Event) (ls front : List Log) (l : Log) → All (λ (x : Log). Fits w a h x.seat x.entries.items) ls →
    ls ≡ front ++ l ∷ [] → Fits w a h l.seat l.entries.items
fits_last w a h ls front l all e =
    let FitsThere : Log → Type 0 = λ (x : Log). Fits w a h x.seat x.entries.items in
    let there : slice_get ls (length front) ≡ Some l = last_of ls front l e in
    subst FitsThere (get_or_from_slice_get ls (length front) l l there) (all (length front) l (slice_get_within ls (length front) l there))

receipts_more : (xs : List Entry) (r : Receipt) → length (receipts_of (xs ++ entry.Receipt r ∷ [])) ≡ length (receipts_of xs) + 1
receipts_more [] r = refl
receipts_more (entry.Receipt q ∷ xs) r = omega (arith, receipts_more xs r)
receipts_more (entry.Survey s ∷ xs) r = receipts_more xs r

-- the last log has all the receipts of its seat
pub receipt_lost : {C : Type 0} (w : Works C) (a : State C) (h : List Event) (ls ms front : List Log) (l m : Log) (r : Receipt) →
    All (λ (x : Log). Fits w a h x.seat x.entries.items) ls → All (λ (x : Log). Fits w a h x.seat x.entries.items) ms →
    ls ≡ front ++ l ∷ [] → ms ≡ front ++ m ∷ [] → l.entries.items ≡ m.entries.items ++ entry.Receipt r ∷ [] → l.seat ≡ m.seat → ⊥
receipt_lost w a h ls ms front l m r all some p q x same =
    let mine : receipts_of l.entries.items ≡ calls_of l.seat h = (fits_last w a h ls front l all p).calls in
    let yours : receipts_of m.entries.items ≡ calls_of m.seat h = (fits_last w a h ms front m some q).calls in
    let calls : receipts_of l.entries.items ≡ receipts_of m.entries.items = mine ∙ (ap (λ (k : ℕ). calls_of k h) same ∙ sym yours) in
    let more : receipts_of l.entries.items ≡ receipts_of (m.entries.items ++ entry.Receipt r ∷ []) = ap (λ (es : List Entry). receipts_of es) x in
    omega (arith, ap (λ (es : List Event). length es) calls, ap (λ (es : List Event). length es) more, receipts_more m.entries.items r)

-- a history of these seats has no event of another
pub of_no_seat : (seats : ℕ) (h : List Event) (e : Event) → AreOfSeats seats (h ++ e ∷ []) → e.seat < seats
of_no_seat seats h e all =
    let n : length h < length (h ++ e ∷ []) = omega (arith, length-append h (e ∷ [])) in
    subst (λ (x : Event). x.seat < seats) (get_or_from_slice_get (h ++ e ∷ []) (length h) e e (at_end h e [])) (all (length h) e n)

-- nor one that has recorded a call of another
pub unused_seat : {C : Type 0} (w : Works C) (old new : BookView C) (seat : ℕ) (op : Op) (r : Receipt) (n : ℕ) → IsRecorded w old new seat op r → n ≤ seat → AreOfSeats n new.history → ⊥
unused_seat w old new seat op r n h none all =
    let within : r.event.seat < n = of_no_seat n old.history r.event (subst (λ (x : List Event). AreOfSeats n x) h.grown all) in
    omega (arith, within, h.of_seat)

one_call : (seat : ℕ) (e : Event) → e.seat ≡ seat → length (calls_of seat (e ∷ [])) ≡ 1
one_call seat e same = let t : eqb e.seat seat ≡ true = eq-eqb e.seat seat same in rw t refl

-- a call more than the logs have
pub untold : (h : List Event) (e : Event) (logs : List Log) → 1 ≤ length logs → AreNumbered logs → e.seat ≡ 0 →
    All (λ (l : Log). length (calls_of l.seat h) ≡ length (receipts_of l.entries.items)) logs →
    All (λ (l : Log). length (calls_of l.seat (h ++ e ∷ [])) ≡ length (receipts_of l.entries.items)) logs → ⊥
untold h e [] some numbered seat a b = omega arith
untold h e (l ∷ logs) some numbered seat a b =
    let none : l.seat ≡ 0 = numbered 0 l refl in
    let mine : length (calls_of l.seat h) ≡ length (receipts_of l.entries.items) = a 0 l (omega arith) in
    let more : length (calls_of l.seat (h ++ e ∷ [])) ≡ length (receipts_of l.entries.items) = b 0 l (omega arith) in
    let split : calls_of l.seat (h ++ e ∷ []) ≡ calls_of l.seat h ++ calls_of l.seat (e ∷ []) = filter-append (λ (x : Event). eqb x.seat l.seat) h (e ∷ []) in
    omega (arith, mine, more, ap (λ (x : List Event). length x) split, length-append (calls_of l.seat h) (calls_of l.seat (e ∷ [])), one_call l.seat e (seat ∙ sym none))

-- where each log fits, so does the log of each seat
pub told_fits : {C : Type 0} (w : Works C) (a : State C) (h : List Event) (logs : List Log) (seats : List Client) → All (HasLog logs) seats →
    All (λ (l : Log). Fits w a h l.seat l.entries.items) logs → All (λ (s : Client). Fits w a h s.number s.log) seats
told_fits w a h logs seats have fit k d lt =
    let s : Client = slice_index_or seats k d in
    let has : HasLog logs (slice_index_or seats k d) = have k d lt in
    let within = slice_get_within logs (slice_index_or seats k d).number has.0 has.1 in
    let there : slice_index_or logs (slice_index_or seats k d).number has.0 ≡ has.0 = get_or_from_slice_get logs (slice_index_or seats k d).number has.0 has.0 has.1 in
    let FitsThere : Log → Type 0 = λ (x : Log). Fits w a h x.seat x.entries.items in
    let fits : Fits w a h has.0.seat has.0.entries.items = subst FitsThere there (fit (slice_index_or seats k d).number has.0 within) in
    let numbered : Fits w a h (slice_index_or seats k d).number has.0.entries.items = subst (λ (i : ℕ). Fits w a h i has.0.entries.items) has.2.0 fits in
    subst (λ (x : List Entry). Fits w a h (slice_index_or seats k d).number x) has.2.1 numbered

-- a book that recorded one more call of seat 0 than its logs have
pub told_nobody : {C : Type 0} (w : Works C) (old new : BookView C) (op : Op) (r : Receipt) (logs : List Log) → IsRecorded w old new 0 op r → 1 ≤ length logs → AreNumbered logs →
    All (λ (l : Log). length (calls_of l.seat old.history) ≡ length (receipts_of l.entries.items)) logs →
    All (λ (l : Log). length (calls_of l.seat new.history) ≡ length (receipts_of l.entries.items)) logs → ⊥
told_nobody w old new op r logs h some numbered a b =
    untold old.history r.event logs some numbered h.of_seat a
    (subst (λ (x : List Event). All (λ (l : Log). length (calls_of l.seat x) ≡ length (receipts_of l.entries.items)) logs) h.grown b)
