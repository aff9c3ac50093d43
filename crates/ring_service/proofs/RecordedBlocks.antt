-- Blocks that record the state of rings, call by call.
use Rattle.std.proofs.Common.{◌≡◌, ℕ, zero, suc, ◌+◌, ◌<◌, ◌≤◌, List, [], ◌∷◌, ◌++◌, length, get_or, map, Some, None, refl, sym, ap, subst, ◌∙◌, inl, inr, arith, length-append, append_assoc, slice_get, slice_set}
use Rattle.std.specs.List.{filter, AllByRecursion}
use Rattle.std.proofs.lemmas.Bool.{cases_eq, eq-eqb, ne_eqb, cond-true, cond-false}
use Rattle.std.proofs.lemmas.List.{append-nil, map-append, length-map}
use Rattle.std.proofs.lemmas.List.Elements.{filter-append}
use Rattle.ring_model.specs.Limits.{seat_limit}
use Rattle.ring_model.specs.declared.events.Event.{Event}
use Rattle.ring_model.specs.declared.events.Survey.{Survey}
use Rattle.ring_model.specs.declared.events.Entry.{Entry}
use Rattle.ring_model.specs.declared.events.Entry.TheVariants as entry
use Rattle.ring_logs.specs.LogView.{LogView}
use Rattle.saved_history.specs.declared.saved.SavedEvent.{SavedEvent}
use Rattle.saved_history.specs.declared.saved.SavedSurvey.{SavedSurvey}
use Rattle.saved_history.specs.Content.{Block}
use Rattle.one_thread_ring.specs.SavedOf.{saved_event, saved_survey, entry_surveys}
use Rattle.one_thread_ring.specs.Journals.{line_of_event, line_of_survey}
use Rattle.journal.specs.declared.calls.Call.{Call}
use Rattle.journal.specs.declared.calls.Call.TheVariants as call
use Rattle.journal.specs.ContentAfter.{is_of, with_call, with_call_at, with_calls}
use Rattle.one_thread_ring.specs.Rings.{told_more}
use Rattle.one_thread_ring.specs.Texts.{surveys_told}
use Rattle.one_thread_ring.proofs.ToldBy.{told_by, told_besides, told_others}
use Rattle.ring_service.specs.Standings.{Standing}
use Rattle.ring_service.specs.Saved.{IsRight, block_at, blocks_from}

-- the block records a ring with this start and this history, and the surveys of its clients
pub record Tells (place : ℕ) (b : Block) (r : Standing) : Type 0 where
  pub index : b.index ≡ place
  pub n : b.n ≡ length r.start.values
  pub k : b.k ≡ r.start.k
  pub values : b.start ≡ r.start.values
  pub history : b.events ≡ map saved_event r.history
  pub said : b.events_said ≡ length r.history
  pub surveys : (seat : ℕ) → filter (is_of seat) b.surveys ≡ told_by r.clients seat
  pub seats : AllByRecursion (λ (s : SavedSurvey). s.seat < seat_limit) b.surveys

abbrev pub AllTell : ℕ → List Block → List Standing → Type 0
AllTell place [] [] = Unit {0}
AllTell place [] (r ∷ rs) = ⊥
AllTell place (b ∷ bs) [] = ⊥
AllTell place (b ∷ bs) (r ∷ rs) = Tells place b r × AllTell (place + 1) bs rs

-- ---- lists

took : (seat : ℕ) (s : SavedSurvey) (ss : List SavedSurvey) → s.seat ≡ seat → filter (is_of seat) (s ∷ ss) ≡ s ∷ filter (is_of seat) ss
took seat s ss e = cond-true (is_of seat s) (s ∷ filter (is_of seat) ss) (filter (is_of seat) ss) (eq-eqb s.seat seat e)

left_out : (seat : ℕ) (s : SavedSurvey) (ss : List SavedSurvey) → (s.seat ≡ seat → ⊥) → filter (is_of seat) (s ∷ ss) ≡ filter (is_of seat) ss
left_out seat s ss ne = cond-false (is_of seat s) (s ∷ filter (is_of seat) ss) (filter (is_of seat) ss) (ne_eqb s.seat seat ne)

all_append : (P : SavedSurvey → Type 0) (xs ys : List SavedSurvey) → AllByRecursion P xs → AllByRecursion P ys → AllByRecursion P (xs ++ ys)
all_append P [] ys a b = b
all_append P (x ∷ xs) ys a b = (a.0, all_append P xs ys a.1 b)

-- ---- the surveys in the clients' logs, seat by seat

own : (seat number : ℕ) (log : List Entry) → number ≡ seat → filter (is_of seat) (entry_surveys number log) ≡ entry_surveys number log
own seat number [] e = refl
own seat number (entry.Receipt r ∷ log) e = own seat number log e
own seat number (entry.Survey s ∷ log) e = took seat (saved_survey number s) (entry_surveys number log) e ∙ ap (λ (ss : List SavedSurvey). saved_survey number s ∷ ss) (own seat number log e)

others : (seat number : ℕ) (log : List Entry) → (number ≡ seat → ⊥) → filter (is_of seat) (entry_surveys number log) ≡ []
others seat number [] ne = refl
others seat number (entry.Receipt r ∷ log) ne = others seat number log ne
others seat number (entry.Survey s ∷ log) ne = left_out seat (saved_survey number s) (entry_surveys number log) ne ∙ others seat number log ne

-- clients whose numbers rise one by one from this one on
abbrev pub Numbered : ℕ → List LogView → Type 0
Numbered from [] = Unit {0}
Numbered from (c ∷ cs) = (c.number ≡ from) × Numbered (from + 1) cs

none_below : (from seat : ℕ) (cs : List LogView) → Numbered from cs → seat < from → filter (is_of seat) (surveys_told cs) ≡ []
none_below from seat [] n l = refl
none_below from seat (c ∷ cs) n l =
    let number : c.number ≡ from = n.0 in
    filter-append (is_of seat) (entry_surveys c.number c.log) (surveys_told cs)
    ∙ (ap (λ (ss : List SavedSurvey). ss ++ filter (is_of seat) (surveys_told cs)) (others seat c.number c.log (λ e. omega (arith, l, number, e)))
    ∙ none_below (from + 1) seat cs n.1 (omega (arith, l)))

abbrev nobody : ℕ → LogView
nobody seat = record { number = seat; log = [] }

told_at : (from i : ℕ) (cs : List LogView) (d : LogView) → d.log ≡ [] → Numbered from cs → filter (is_of (from + i)) (surveys_told cs) ≡ entry_surveys (from + i) (get_or cs i d).log
told_at from i [] d e n = sym (ap (λ (log : List Entry). entry_surveys (from + i) log) e)
told_at from zero (c ∷ cs) d e n =
    let number : c.number ≡ from + zero = n.0 ∙ omega arith in
    filter-append (is_of (from + zero)) (entry_surveys c.number c.log) (surveys_told cs)
    ∙ (ap (λ (ss : List SavedSurvey). filter (is_of (from + zero)) (entry_surveys c.number c.log) ++ ss) (none_below (from + 1) (from + zero) cs n.1 (omega arith))
    ∙ (append-nil (filter (is_of (from + zero)) (entry_surveys c.number c.log))
    ∙ (own (from + zero) c.number c.log number ∙ ap (λ (m : ℕ). entry_surveys m c.log) number)))
told_at from (suc i) (c ∷ cs) d e n =
    let number : c.number ≡ from = n.0 in
    let next : from + suc i ≡ from + 1 + i = omega arith in
    filter-append (is_of (from + suc i)) (entry_surveys c.number c.log) (surveys_told cs)
    ∙ (ap (λ (ss : List SavedSurvey). ss ++ filter (is_of (from + suc i)) (surveys_told cs)) (others (from + suc i) c.number c.log (λ f. omega (arith, number, f)))
    ∙ (ap (λ (m : ℕ). filter (is_of m) (surveys_told cs)) next ∙ (told_at (from + 1) i cs d e n.1 ∙ ap (λ (m : ℕ). entry_surveys m (get_or cs i d).log) (sym next))))

pub told_seat : (seat : ℕ) (cs : List LogView) → Numbered 0 cs → filter (is_of seat) (surveys_told cs) ≡ told_by cs seat
told_seat seat cs n =
    let same : 0 + seat ≡ seat = omega arith in
    ap (λ (m : ℕ). filter (is_of m) (surveys_told cs)) (sym same) ∙ (told_at 0 seat cs (nobody seat) refl n ∙ ap (λ (m : ℕ). entry_surveys m (get_or cs seat (nobody seat)).log) same)

log_seats : (number : ℕ) (log : List Entry) → number < seat_limit → AllByRecursion (λ (s : SavedSurvey). s.seat < seat_limit) (entry_surveys number log)
log_seats number [] l = tt
log_seats number (entry.Receipt r ∷ log) l = log_seats number log l
log_seats number (entry.Survey s ∷ log) l = (l, log_seats number log l)

all_seats : (from : ℕ) (cs : List LogView) → Numbered from cs → from + length cs ≤ seat_limit → AllByRecursion (λ (s : SavedSurvey). s.seat < seat_limit) (surveys_told cs)
all_seats from [] n l = tt
all_seats from (c ∷ cs) n l =
    let number : c.number ≡ from = n.0 in
    all_append (λ (s : SavedSurvey). s.seat < seat_limit) (entry_surveys c.number c.log) (surveys_told cs) (log_seats c.number c.log (omega (arith, number, l))) (all_seats (from + 1) cs n.1 (omega (arith, l)))

numbered : (from : ℕ) (cs : List LogView) → ((i : ℕ) (d : LogView) → i < length cs → (get_or cs i d).number ≡ from + i) → Numbered from cs
numbered from [] f = tt
numbered from (c ∷ cs) f =
    let first : from + 0 ≡ from = omega arith in
    (f 0 c (omega arith) ∙ first, numbered (from + 1) cs (λ i d l. let next : from + suc i ≡ from + 1 + i = omega arith in f (suc i) d (omega (arith, l)) ∙ next))

pub right_numbered : (r : Standing) → IsRight r → Numbered 0 r.clients × (length r.clients ≤ seat_limit)
right_numbered r k = subst (λ (x : Standing). Numbered 0 x.clients × (length x.clients ≤ seat_limit)) k.2
    (numbered 0 k.0.ring.clients (λ i d l. let same : 0 + i ≡ i = omega arith in (k.1.ring.each i d l).number ∙ sym same), k.1.ring.few)

-- ---- the saved block of a ring records its state

saved_tells : (place : ℕ) (r : Standing) → IsRight r → Tells place (block_at place r) r
saved_tells place r k =
    let n = right_numbered r k in
    let few = n.1 in
    record {
      index = refl;
      n = refl;
      k = refl;
      values = refl;
      history = refl;
      said = refl;
      surveys = λ seat. told_seat seat r.clients n.0;
      seats = all_seats 0 r.clients n.0 (omega (arith, few));
    }

pub all_saved_tell : (place : ℕ) (rs : List Standing) → AllByRecursion IsRight rs → AllTell place (blocks_from place rs) rs
all_saved_tell place [] all = tt
all_saved_tell place (r ∷ rs) all = (saved_tells place r all.0, all_saved_tell (place + 1) rs all.1)

-- ---- one call more

event_told : (place : ℕ) (b : Block) (r : Standing) (e : Event) → Tells place b r → Tells place (with_call b (call.Event (saved_event e))) (record { base = r.base; start = r.start; history = r.history ++ e ∷ []; clients = r.clients })
event_told place b r e t =
    let long : length b.events ≡ length r.history = ap (λ (es : List SavedEvent). length es) t.history ∙ length-map r.history saved_event in
    record {
      index = t.index;
      n = t.n;
      k = t.k;
      values = t.values;
      history = ap (λ (es : List SavedEvent). es ++ saved_event e ∷ []) t.history ∙ sym (map-append saved_event r.history (e ∷ []));
      said = omega (arith, long, length-append r.history (e ∷ []));
      surveys = t.surveys;
      seats = t.seats;
    }

clients_told : (place : ℕ) (b : Block) (r : Standing) (cs : List LogView) → ((seat : ℕ) → told_by cs seat ≡ told_by r.clients seat) → Tells place b r → Tells place b (record { base = r.base; start = r.start; history = r.history; clients = cs })
clients_told place b r cs same t = record {
  index = t.index;
  n = t.n;
  k = t.k;
  values = t.values;
  history = t.history;
  said = t.said;
  surveys = λ seat. t.surveys seat ∙ sym (same seat);
  seats = t.seats;
}

survey_told : (place : ℕ) (b : Block) (r : Standing) (seat : ℕ) (s : Survey) → seat < length r.clients → length r.clients ≤ seat_limit → Tells place b r →
    Tells place (with_call b (call.Survey (saved_survey seat s))) (record { base = r.base; start = r.start; history = r.history; clients = told_more r.clients seat (entry.Survey s ∷ []) })
survey_told place b r seat s within few t = record {
  index = t.index;
  n = t.n;
  k = t.k;
  values = t.values;
  history = t.history;
  said = t.said;
  surveys = λ i.
      filter-append (is_of i) b.surveys (saved_survey seat s ∷ [])
      ∙ elim (cases_eq i seat) [
        | inl e ↦
            ap (λ (ss : List SavedSurvey). filter (is_of i) b.surveys ++ ss) (took i (saved_survey seat s) [] (sym e) ∙ ap (λ (m : ℕ). saved_survey m s ∷ []) (sym e))
            ∙ (ap (λ (ss : List SavedSurvey). ss ++ saved_survey i s ∷ []) (t.surveys i) ∙ sym (told_besides r.clients seat (entry.Survey s ∷ []) i within e))
        | inr ne ↦
            ap (λ (ss : List SavedSurvey). filter (is_of i) b.surveys ++ ss) (left_out i (saved_survey seat s) [] (λ e. ne (sym e)))
            ∙ (append-nil (filter (is_of i) b.surveys) ∙ (t.surveys i ∙ sym (told_others r.clients seat (entry.Survey s ∷ []) i ne)))
      ];
  seats = all_append (λ (x : SavedSurvey). x.seat < seat_limit) b.surveys (saved_survey seat s ∷ []) t.seats (omega (arith, within, few), tt);
}

-- ---- among all rings

some_one : (x y : Standing) → Some x ≡ Some y → x ≡ y
some_one x y e = cc

some_none : (x : Standing) → None ≡ Some x → ⊥
some_none x e = cc

-- a call more of one ring
one_told : (place : ℕ) (bs : List Block) (rs : List Standing) (ring : ℕ) (was is : Standing) (c : Call) → slice_get rs ring ≡ Some was →
    ((p : ℕ) (b : Block) → Tells p b was → Tells p (with_call b c) is) → AllTell place bs rs → AllTell place (with_call_at bs ring c) (slice_set rs ring is)
one_told place [] [] ring was is c e f t = absurd (some_none was e)
one_told place [] (r ∷ rs) ring was is c e f t = absurd t
one_told place (b ∷ bs) [] ring was is c e f t = absurd t
one_told place (b ∷ bs) (r ∷ rs) zero was is c e f t = (f place b (subst (λ (x : Standing). Tells place b x) (some_one r was e) t.0), t.1)
one_told place (b ∷ bs) (r ∷ rs) (suc ring) was is c e f t = (t.0, one_told (place + 1) bs rs ring was is c e f t.1)

-- one ring described in other words
one_kept : (place : ℕ) (bs : List Block) (rs : List Standing) (ring : ℕ) (was is : Standing) → slice_get rs ring ≡ Some was →
    ((p : ℕ) (b : Block) → Tells p b was → Tells p b is) → AllTell place bs rs → AllTell place bs (slice_set rs ring is)
one_kept place [] [] ring was is e f t = absurd (some_none was e)
one_kept place [] (r ∷ rs) ring was is e f t = absurd t
one_kept place (b ∷ bs) [] ring was is e f t = absurd t
one_kept place (b ∷ bs) (r ∷ rs) zero was is e f t = (f place b (subst (λ (x : Standing). Tells place b x) (some_one r was e) t.0), t.1)
one_kept place (b ∷ bs) (r ∷ rs) (suc ring) was is e f t = (t.0, one_kept (place + 1) bs rs ring was is e f t.1)

pub set_twice : (rs : List Standing) (i : ℕ) (x y : Standing) → slice_set (slice_set rs i x) i y ≡ slice_set rs i y
set_twice [] i x y = refl
set_twice (r ∷ rs) zero x y = refl
set_twice (r ∷ rs) (suc i) x y = ap (λ (xs : List Standing). r ∷ xs) (set_twice rs i x y)

pub set_there : (rs : List Standing) (i : ℕ) (x y : Standing) → slice_get rs i ≡ Some x → slice_get (slice_set rs i y) i ≡ Some y
set_there [] i x y e = absurd (some_none x e)
set_there (r ∷ rs) zero x y e = refl
set_there (r ∷ rs) (suc i) x y e = set_there rs i x y e

set_is : (rs : List Standing) (i : ℕ) (x y : Standing) → slice_get rs i ≡ Some x → x ≡ y → slice_set rs i y ≡ rs
set_is [] i x y e same = refl
set_is (r ∷ rs) zero x y e same = ap (λ (z : Standing). z ∷ rs) (sym (some_one r x e ∙ same))
set_is (r ∷ rs) (suc i) x y e same = ap (λ (xs : List Standing). r ∷ xs) (set_is rs i x y e same)

abbrev longer : Standing → List Event → Standing
longer r es = record { base = r.base; start = r.start; history = r.history ++ es; clients = r.clients }

-- the events by which one history grew
events_told : (place : ℕ) (bs : List Block) (rs : List Standing) (ring : ℕ) (was : Standing) (es : List Event) → slice_get rs ring ≡ Some was →
    AllTell place bs rs → AllTell place (with_calls bs (map (line_of_event ring) es)) (slice_set rs ring (longer was es))
events_told place bs rs ring was [] e t =
    let same : was ≡ longer was [] = λ i. record { base = was.base; start = was.start; history = sym (append-nil was.history) i; clients = was.clients } in
    subst (λ (xs : List Standing). AllTell place bs xs) (sym (set_is rs ring was (longer was []) e same)) t
events_told place bs rs ring was (x ∷ es) e t =
    let one : Standing = longer was (x ∷ []) in
    let first : AllTell place (with_call_at bs ring (call.Event (saved_event x))) (slice_set rs ring one) = one_told place bs rs ring was one (call.Event (saved_event x)) e (λ p b. event_told p b was x) t in
    let more = events_told place (with_call_at bs ring (call.Event (saved_event x))) (slice_set rs ring one) ring one es (set_there rs ring was one e) first in
    let same : longer one es ≡ longer was (x ∷ es) = ap (λ (h : List Event). let s : Standing = record { base = was.base; start = was.start; history = h; clients = was.clients } in s) (append_assoc was.history (x ∷ []) es) in
    subst (λ (xs : List Standing). AllTell place (with_calls bs (map (line_of_event ring) (x ∷ es))) xs) (set_twice rs ring one (longer one es) ∙ ap (λ (s : Standing). slice_set rs ring s) same) more

-- and the receipts that the seat got of them
pub grown_told : (place : ℕ) (bs : List Block) (rs : List Standing) (ring : ℕ) (was : Standing) (es : List Event) (cs : List LogView) → slice_get rs ring ≡ Some was →
    ((seat : ℕ) → told_by cs seat ≡ told_by was.clients seat) → AllTell place bs rs →
    AllTell place (with_calls bs (map (line_of_event ring) es)) (slice_set rs ring (record { base = was.base; start = was.start; history = was.history ++ es; clients = cs }))
grown_told place bs rs ring was es cs e same t =
    let is : Standing = record { base = was.base; start = was.start; history = was.history ++ es; clients = cs } in
    subst (λ (xs : List Standing). AllTell place (with_calls bs (map (line_of_event ring) es)) xs) (set_twice rs ring (longer was es) is)
    (one_kept place (with_calls bs (map (line_of_event ring) es)) (slice_set rs ring (longer was es)) ring (longer was es) is (set_there rs ring was (longer was es) e)
    (λ p b. clients_told p b (longer was es) cs same) (events_told place bs rs ring was es e t))

-- a survey that a seat was given
pub looked_told : (place : ℕ) (bs : List Block) (rs : List Standing) (ring : ℕ) (was : Standing) (seat : ℕ) (s : Survey) → slice_get rs ring ≡ Some was →
    seat < length was.clients → length was.clients ≤ seat_limit → AllTell place bs rs →
    AllTell place (with_calls bs (line_of_survey ring seat s ∷ [])) (slice_set rs ring (record { base = was.base; start = was.start; history = was.history; clients = told_more was.clients seat (entry.Survey s ∷ []) }))
looked_told place bs rs ring was seat s e within few t =
    one_told place bs rs ring was (record { base = was.base; start = was.start; history = was.history; clients = told_more was.clients seat (entry.Survey s ∷ []) }) (call.Survey (saved_survey seat s)) e
    (λ p b. survey_told p b was seat s within few) t
