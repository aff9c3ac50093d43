-- A seat's log is what the history and the seat's surveys say, at its places.
use Rattle.std.proofs.Common.{◌≡◌, ℕ, zero, suc, ◌+◌, ◌-◌, ◌<◌, ◌≤◌, ◌==◌, Bool, true, false, cond, List, [], ◌∷◌, ◌++◌, Some, slice_get, length, length-append, length-drop, take, drop, refl, sym, ◌∙◌, ap, subst, arith}
use Rattle.std.specs.List.{slice_range}
use Rattle.std.proofs.lemmas.Bool.{cond-true, eq-eqb, eqb-true}
use Rattle.std.proofs.lemmas.List.{take-append-drop, drop-drop, take-take, length-take-le}
use Rattle.std.proofs.lemmas.Slice.{between_is}
use Rattle.std.proofs.lemmas.Option.{slice_get_within}
use Rattle.std.proofs.Math.Numerals.{add-one}
use Rattle.ring_model.specs.History.{Works, State}
use Rattle.ring_model.specs.Logs.{calls_of, receipts_of, IsFollowed, Fits}
use Rattle.ring_model.specs.declared.events.Event.{Event}
use Rattle.ring_model.specs.declared.events.Receipt.{Receipt}
use Rattle.ring_model.specs.declared.events.Survey.{Survey}
use Rattle.ring_model.specs.declared.events.Entry.{Entry}
use Rattle.ring_model.specs.declared.events.Entry.TheVariants as entry
use Rattle.ring_logs.proofs.Replaying.{drop_at}
use Rattle.one_thread_ring.specs.Clients.{receipts_by, log_from, StandInOrder}
use Rattle.one_thread_ring.proofs.Growing.{AreOf}
use Rattle.one_thread_ring.proofs.Telling.{receipts_more}

-- the surveys of a log
abbrev pub surveys_in : List Entry → List Survey
surveys_in [] = []
surveys_in (entry.Receipt r ∷ log) = surveys_in log
surveys_in (entry.Survey s ∷ log) = s ∷ surveys_in log

-- ---- the receipts of a seat's own events from a place on

abbrev own : ℕ → List Event → ℕ → List Entry
own seat h place = receipts_by seat place (drop place h)

nothing : (xs : List Entry) → length xs ≡ 0 → xs ≡ []
nothing [] e = refl
nothing (x ∷ xs) e = absurd (omega arith)

-- those up to a place, and those from it on
own_split : (seat front p : ℕ) (h : List Event) → front ≤ p → p ≤ length h → own seat h front ≡ receipts_by seat front (slice_range h front p) ++ own seat h p
own_split seat front p h le within =
    let d : ℕ = p - front in
    let part : List Event = take d (drop front h) in
    let sum : front + d ≡ p = omega arith in
    let size : front + length part ≡ p = omega (arith, length-take-le d (drop front h) (omega (arith, length-drop front h)), sum) in
    let rest : drop d (drop front h) ≡ drop p h = drop-drop d front h ∙ ap (λ (k : ℕ). drop k h) sum in
    ap (receipts_by seat front) (sym (take-append-drop d (drop front h))) ∙ (receipts_more seat front part (drop d (drop front h))
    ∙ λ i. receipts_by seat front part ++ receipts_by seat (size i) (rest i))

own_at : (seat p : ℕ) (h : List Event) (e : Event) → slice_get h p ≡ Some e → e.seat ≡ seat → own seat h p ≡ entry.Receipt (record { position = p; event = e }) ∷ own seat h (p + 1)
own_at seat p h e at is =
    let r : Entry = entry.Receipt (record { position = p; event = e }) in
    let there : drop p h ≡ e ∷ drop (p + 1) h = rw (add-one p) (drop_at p h e at) in
    ap (receipts_by seat p) there ∙ cond-true (e.seat == seat) (r ∷ own seat h (p + 1)) (own seat h (p + 1)) (eq-eqb _ _ is)

-- a log has no more receipts than there are
few : {C : Type 0} (w : Works C) (a : State C) (h : List Event) (seat front : ℕ) (log : List Entry) → IsFollowed w a h front log → AreOf seat (receipts_of log) →
    length (receipts_of log) ≤ length (own seat h front)
few w a h seat front [] i o = omega arith
few w a h seat front (entry.Receipt r ∷ log) i o =
    let more = few w a h seat (r.position + 1) log i.2 o.1 in
    let lt : r.position < length h = slice_get_within h r.position r.event i.1 in
    let split = ap length (own_split seat front r.position h i.0 (omega (arith, lt))) ∙ length-append (receipts_by seat front (slice_range h front r.position)) (own seat h r.position) in
    let here = ap length (own_at seat r.position h r.event i.1 o.0) in
    omega arith
few w a h seat front (entry.Survey s ∷ log) i o =
    let more = few w a h seat s.position log i.2 o in
    let split = ap length (own_split seat front s.position h i.0 i.1.0) ∙ length-append (receipts_by seat front (slice_range h front s.position)) (own seat h s.position) in
    omega arith

-- ---- the surveys of a log are in order

in_order : {C : Type 0} (w : Works C) (a : State C) (h : List Event) (front : ℕ) (log : List Entry) → front ≤ length h → IsFollowed w a h front log → StandInOrder front (length h) (surveys_in log)
in_order w a h front [] le i = le
in_order w a h front (entry.Receipt r ∷ log) le i =
    let lt : r.position < length h = slice_get_within h r.position r.event i.1 in
    earlier (surveys_in log) (in_order w a h (r.position + 1) log (omega (arith, lt)) i.2)
  where
    earlier : (ss : List Survey) → StandInOrder (r.position + 1) (length h) ss → StandInOrder front (length h) ss
    earlier [] o = le
    earlier (s ∷ ss) o = let one = o.0 in let two = i.0 in (omega (arith, one, two), o.1)
in_order w a h front (entry.Survey s ∷ log) le i = (i.0, in_order w a h s.position log i.1.0 i.2)

-- ---- a log from an earlier place

get_taken : (h : List Event) (n p : ℕ) → p < n → slice_get (take n h) p ≡ slice_get h p
get_taken h zero p lt = absurd (omega arith)
get_taken [] (suc n) p lt = refl
get_taken (x ∷ h) (suc n) zero lt = refl
get_taken (x ∷ h) (suc n) (suc p) lt = get_taken h n p (omega (arith, lt))

range_taken : (h : List Event) (n a b : ℕ) → b ≤ n → slice_range (take n h) a b ≡ slice_range h a b
range_taken h n a b le = between_is (take n h) a b ∙ (ap (drop a) (take-take b n h le) ∙ sym (between_is h a b))

-- the next receipt is the only one up to the place after it
next_own : (seat front : ℕ) (h : List Event) (r : Receipt) → front ≤ r.position → slice_get h r.position ≡ Some r.event → r.event.seat ≡ seat → receipts_by seat front (slice_range h front r.position) ≡ [] →
    entry.Receipt r ∷ own seat h (r.position + 1) ≡ own seat h front
next_own seat front h r le at is none =
    let lt : r.position < length h = slice_get_within h r.position r.event at in
    sym (own_split seat front r.position h le (omega (arith, lt)) ∙ (ap (λ (xs : List Entry). xs ++ own seat h r.position) none ∙ own_at seat r.position h r.event at is))

later : (seat front : ℕ) (h : List Event) (r : Receipt) (ss : List Survey) → front ≤ r.position → slice_get h r.position ≡ Some r.event → r.event.seat ≡ seat →
    receipts_by seat front (slice_range h front r.position) ≡ [] → StandInOrder (r.position + 1) (length h) ss → entry.Receipt r ∷ log_from seat (r.position + 1) h ss ≡ log_from seat front h ss
later seat front h r [] le at is none o = next_own seat front h r le at is none
later seat front h r (s ∷ ss) le at is none o =
    let past : r.position + 1 ≤ s.position = o.0 in
    let g : List Event = take s.position h in
    let at' : slice_get g r.position ≡ Some r.event = get_taken h s.position r.position (omega (arith, past)) ∙ at in
    let none' : receipts_by seat front (slice_range g front r.position) ≡ [] = ap (receipts_by seat front) (range_taken h s.position front r.position (omega (arith, past))) ∙ none in
    let both : entry.Receipt r ∷ own seat g (r.position + 1) ≡ own seat g front = next_own seat front g r le at' is none' in
    let left : slice_range h (r.position + 1) s.position ≡ drop (r.position + 1) g = between_is h (r.position + 1) s.position in
    let right : slice_range h front s.position ≡ drop front g = between_is h front s.position in
    let end : List Entry = entry.Survey s ∷ log_from seat s.position h ss in
    ap (λ (es : List Event). entry.Receipt r ∷ (receipts_by seat (r.position + 1) es ++ end)) left
    ∙ (ap (λ (xs : List Entry). xs ++ end) both ∙ ap (λ (es : List Event). receipts_by seat front es ++ end) (sym right))

-- ---- a log with all of a seat's receipts

log_is : {C : Type 0} (w : Works C) (a : State C) (h : List Event) (seat front : ℕ) (log : List Entry) → IsFollowed w a h front log → AreOf seat (receipts_of log) → front ≤ length h →
    length (receipts_of log) ≡ length (own seat h front) → log ≡ log_from seat front h (surveys_in log)
log_is w a h seat front [] i o le e = sym (nothing (own seat h front) (sym e))
log_is w a h seat front (entry.Receipt r ∷ log) i o le e =
    let lt : r.position < length h = slice_get_within h r.position r.event i.1 in
    let count = few w a h seat (r.position + 1) log i.2 o.1 in
    let split = ap length (own_split seat front r.position h i.0 (omega (arith, lt))) ∙ length-append (receipts_by seat front (slice_range h front r.position)) (own seat h r.position) in
    let here = ap length (own_at seat r.position h r.event i.1 o.0) in
    let none : receipts_by seat front (slice_range h front r.position) ≡ [] = nothing _ (omega arith) in
    let rest = log_is w a h seat (r.position + 1) log i.2 o.1 (omega (arith, lt)) (omega arith) in
    ap (λ (xs : List Entry). entry.Receipt r ∷ xs) rest ∙ later seat front h r (surveys_in log) i.0 i.1 o.0 none (in_order w a h (r.position + 1) log (omega (arith, lt)) i.2)
log_is w a h seat front (entry.Survey s ∷ log) i o le e =
    let count = few w a h seat s.position log i.2 o in
    let split = ap length (own_split seat front s.position h i.0 i.1.0) ∙ length-append (receipts_by seat front (slice_range h front s.position)) (own seat h s.position) in
    let none : receipts_by seat front (slice_range h front s.position) ≡ [] = nothing _ (omega arith) in
    let rest = log_is w a h seat s.position log i.2 o i.1.0 (omega arith) in
    ap (λ (xs : List Entry). entry.Survey s ∷ xs) rest ∙ ap (λ (xs : List Entry). xs ++ entry.Survey s ∷ log_from seat s.position h (surveys_in log)) (sym none)

-- ---- a log that fits

calls_are_of : (seat : ℕ) (h : List Event) → AreOf seat (calls_of seat h)
calls_are_of seat [] = tt
calls_are_of seat (e ∷ h) = go (e.seat == seat) refl (calls_are_of seat h)
  where
    go : (b : Bool) → (e.seat == seat) ≡ b → AreOf seat (calls_of seat h) → AreOf seat (cond b (e ∷ calls_of seat h) (calls_of seat h))
    go true p more = (eqb-true _ _ p, more)
    go false p more = more

as_many : (seat place : ℕ) (h : List Event) → length (calls_of seat h) ≡ length (receipts_by seat place h)
as_many seat place [] = refl
as_many seat place (e ∷ h) = go (e.seat == seat) (as_many seat (place + 1) h)
  where
    go : (b : Bool) → length (calls_of seat h) ≡ length (receipts_by seat (place + 1) h) →
        length (cond b (e ∷ calls_of seat h) (calls_of seat h)) ≡ length (cond b (entry.Receipt (record { position = place; event = e }) ∷ receipts_by seat (place + 1) h) (receipts_by seat (place + 1) h))
    go true more = ap suc more
    go false more = more

pub only_log : {C : Type 0} (w : Works C) (a : State C) (h : List Event) (seat : ℕ) (log : List Entry) → Fits w a h seat log → log ≡ log_from seat 0 h (surveys_in log)
only_log w a h seat log f = log_is w a h seat 0 log f.entries (subst (AreOf seat) (sym f.calls) (calls_are_of seat h)) (omega arith) (ap length f.calls ∙ as_many seat 0 h)
