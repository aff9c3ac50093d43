-- The hold that is open in a history is found.
use Rattle.std.proofs.Common.{◌≡◌, ℕ, zero, suc, ◌+◌, ◌-◌, ◌<◌, ◌≤◌, Bool, true, false, cond, List, [], ◌∷◌, ◌++◌, map, drop, take, length, length-append, append_assoc, get_or, refl, sym, ◌∙◌, ap, subst, arith, Option, Some, None}
use Rattle.std.specs.Prelude.{◌==◌, slice_get, All}
use Rattle.std.specs.List.{slice_range}
use Rattle.std.proofs.lemmas.List.{append-nil, drop-map, map-append, take_more, take_rest, length-map, get_or-map}
use Rattle.std.proofs.lemmas.Option.{slice_get-get_or}
use Rattle.std.proofs.lemmas.List.Elements.{All-cons, All-take, All-drop}
use Rattle.ring_model.specs.Limits.{event_limit}
use Rattle.ring_model.specs.History.{State, next, opening, after, IsLegal}
use Rattle.ring_model.specs.Resources.{till}
use Rattle.ring_model.specs.declared.events.Event.{Event}
use Rattle.ring_model.specs.declared.events.Survey.{Survey as SurveyOf}
use Rattle.ring_model.specs.declared.events.Entry.{Entry}
use Rattle.ring_model.specs.declared.events.Entry.TheVariants as entry
use Rattle.ring_model.proofs.Histories.{grants-after}
use Rattle.ring_model.specs.Bases.{shifted_event, shifted}
use Rattle.ring_model.specs.Tallies.{IsInSegment}
use Rattle.ring_model.specs.declared.bases.Base.{Base}
use Rattle.ring_model.proofs.Shifts.{shifted_state, begins, after_shifted}
use Rattle.ring_logs.specs.LogView.{LogView}
use Rattle.one_thread_ring.specs.Clients.{ClientView, receipts_by, log_from, told_of, told_all}
use Rattle.endless_ring.specs.Endless.{EndlessView}
use Rattle.held_locks.specs.Queues.{Lock}
use Rattle.held_locks.specs.Locks.{Mark, Call, Survey}
use Rattle.held_locks.specs.Promises.{marks_of, events_of, open_behind, open_after, carries}
use Rattle.held_locks.specs.Kept.{state_of, IsKeptRing}
use Rattle.held_locks.specs.Opened.{events_in, last_survey, log_of, later, ended_before, open_in, holder_after, last_end, HoldsAreFound, RestartsAreRight}
use Rattle.held_locks.proofs.Shown.{open_append, segments_recover}
use Rattle.endless_ring.proofs.Segments.{grant_small}

-- ---- the last survey of a client

receipts_none : (place seat n : ℕ) (es : List Event) (more : List Entry) → last_survey place (receipts_by seat n es ++ more) ≡ last_survey place more
receipts_none place seat n [] more = refl
receipts_none place seat n (e ∷ es) more = go (e.seat == seat) (receipts_none place seat (n + 1) es more)
  where
    go : (b : Bool) → last_survey place (receipts_by seat (n + 1) es ++ more) ≡ last_survey place more →
        last_survey place (cond b (entry.Receipt (record { position = n; event = e }) ∷ receipts_by seat (n + 1) es) (receipts_by seat (n + 1) es) ++ more) ≡ last_survey place more
    go true q = q
    go false q = q

-- the place of the last of these surveys
abbrev place_of : ℕ → List SurveyOf → ℕ
place_of place [] = place
place_of place (s ∷ ss) = place_of s.position ss

last_of : (h : List Event) (seat place from : ℕ) (ss : List SurveyOf) → last_survey place (log_from seat from h ss) ≡ place_of place ss
last_of h seat place from [] =
    ap (λ (x : List Entry). last_survey place x) (sym (append-nil (receipts_by seat from (drop from h)))) ∙ receipts_none place seat from (drop from h) []
last_of h seat place from (s ∷ ss) =
    receipts_none place seat from (slice_range h from s.position) (entry.Survey s ∷ log_from seat s.position h ss) ∙ last_of h seat s.position s.position ss

last_get : (place : ℕ) (ss : List SurveyOf) (s : SurveyOf) → slice_get ss (length ss - 1) ≡ Some s → place_of place ss ≡ s.position
last_get place [] s e = absurd (nothing s e)
  where
    nothing : (s : SurveyOf) → ◌≡◌ {A = Option SurveyOf} None (Some s) → ⊥
    nothing s e = cc
last_get place (x ∷ []) s e = let p : ◌≡◌ {A = Option SurveyOf} (Some x) (Some s) = e in ap (λ (y : SurveyOf). y.position) (one x s p)
  where
    one : (x s : SurveyOf) → ◌≡◌ {A = Option SurveyOf} (Some x) (Some s) → x ≡ s
    one x s e = cc
last_get place (x ∷ y ∷ ss) s e =
    let n : length (x ∷ y ∷ ss) - 1 ≡ suc (length (y ∷ ss) - 1) = omega arith in
    last_get x.position (y ∷ ss) s (ap (λ (k : ℕ). slice_get (x ∷ y ∷ ss) k) (sym n) ∙ e)

pub last_is : (h : List Event) (c : ClientView) (ss : List SurveyOf) (d : SurveyOf) → ss ≡ c.surveys → 1 ≤ length ss → (get_or ss (length ss - 1) d).position ≡ last_survey 0 (told_of h c).log
last_is h c ss d is some =
    sym (last_of h c.number 0 0 c.surveys ∙ ap (λ (x : List SurveyOf). place_of 0 x) (sym is) ∙ last_get 0 ss (get_or ss (length ss - 1) d) (slice_get-get_or ss (length ss - 1) d (omega arith)))

pub none_is : (h : List Event) (c : ClientView) (ss : List SurveyOf) → ss ≡ c.surveys → length ss ≡ 0 → 0 ≡ last_survey 0 (told_of h c).log
none_is h c ss is none = sym (last_of h c.number 0 0 c.surveys ∙ ap (λ (x : List SurveyOf). place_of 0 x) (sym is) ∙ go ss none)
  where
    go : (xs : List SurveyOf) → length xs ≡ 0 → place_of 0 xs ≡ 0
    go [] e = refl
    go (x ∷ xs) e = absurd (omega (arith, e))

-- ---- the numbers of a segment

small_from : (a : State ℕ) (h : List Event) → IsLegal till a h → a.grants + length h ≤ event_limit → All (λ (e : Event). IsInSegment e.reply) h
small_from a [] l few = λ k d m. absurd (omega arith)
small_from a (e ∷ es) l few =
    let one : (after till a (e ∷ [])).grants ≤ a.grants + 1 = grants-after till a (e ∷ []) in
    All-cons (λ (x : Event). IsInSegment x.reply) e es (grant_small a e.op e.reply (next till a e.op) (a.grants + 1) l.0 (omega arith) (omega arith)) (small_from (next till a e.op) es l.1 (omega arith))

pub all_small : (e : EndlessView) → IsKeptRing e → All (λ (x : Event). IsInSegment x.reply) e.ring.book.history
all_small e k =
    let bounded = k.endless.ring.book.bounded in
    small_from (opening e.ring.book.start 0) e.ring.book.history k.endless.ring.book.legal (omega arith)

-- ---- the hold after the events

pub open_push : (b : Base) (token : Option ℕ) (es : List Event) (e : Event) → open_after token (map Call (shifted b (es ++ e ∷ []))) ≡ open_behind (open_after token (map Call (shifted b es))) (shifted_event b e)
open_push b token [] e = refl
open_push b token (x ∷ es) e = open_push b (open_behind token (shifted_event b x)) es e

pub open_more : (b : Base) (es : List Event) (i : ℕ) (d : Event) (held result : Option ℕ) → i < length es → held ≡ open_after None (map Call (shifted b (take i es))) → result ≡ open_behind held (shifted_event b (get_or es i d)) →
    result ≡ open_after None (map Call (shifted b (take (i + 1) es)))
open_more b es i d held result l e f =
    f ∙ ap (λ (t : Option ℕ). open_behind t (shifted_event b (get_or es i d))) e ∙ sym (open_push b None (take i es) (get_or es i d)) ∙ ap (λ (x : List Event). open_after None (map Call (shifted b x))) (sym (take_more es i d l))

-- ---- of a ring

pub small_rest : (e : EndlessView) (g : List Event) (from : ℕ) → IsKeptRing e → g ≡ e.ring.book.history → All (λ (x : Event). IsInSegment x.reply) (take (length g - from) (drop from g))
small_rest e g from k is =
    let all : All (λ (x : Event). IsInSegment x.reply) g = subst (λ (x : List Event). All (λ (y : Event). IsInSegment y.reply) x) (sym is) (all_small e k) in
    All-take (λ (x : Event). IsInSegment x.reply) (length g - from) (drop from g) (All-drop (λ (x : Event). IsInSegment x.reply) from g all)

-- the log of a client
pub log_is : (e : EndlessView) (h : List Event) (cs : List ClientView) (seat : ℕ) (c : ClientView) → IsKeptRing e → told_all h cs ≡ e.ring.clients → seat < 10 → c ≡ get_or cs seat c → (told_of h c).log ≡ log_of e seat
log_is e h cs seat c k t l is =
    let nobody : LogView = record { number = seat; log = [] } in
    let n : length (told_all h cs) ≡ length cs = length-map cs (told_of h) in
    let m : length (told_all h cs) ≡ length e.ring.clients = ap (λ (x : List LogView). length x) t in
    let seats = k.seats in
    let there : get_or (told_all h cs) seat nobody ≡ told_of h (get_or cs seat c) = get_or-map (told_of h) cs seat c nobody (omega arith) in
    ap (λ (x : ClientView). (told_of h x).log) is ∙ sym (ap (λ (x : LogView). x.log) there) ∙ ap (λ (x : List LogView). (get_or x seat nobody).log) t

pub found_is : (e : EndlessView) (b : Base) (g : List Event) (from first second : ℕ) (result : Option ℕ) → b ≡ e.base → g ≡ e.ring.book.history → first ≡ last_survey 0 (log_of e 1) → second ≡ last_survey 0 (log_of e 2) →
    drop from g ≡ drop (later first second) g → result ≡ open_after None (map Call (shifted b (take (length g - from) (drop from g)))) → result ≡ open_in e
found_is e b g from first second result base is one two rest r =
    let place : later first second ≡ ended_before e = ap (λ (x : ℕ). later x second) one ∙ ap (λ (x : ℕ). later (last_survey 0 (log_of e 1)) x) two in
    let events : take (length g - from) (drop from g) ≡ drop (ended_before e) e.ring.book.history =
    take_rest g from ∙ rest ∙ ap (λ (n : ℕ). drop n g) place ∙ ap (λ (x : List Event). drop (ended_before e) x) is in
    r ∙ ap (λ (x : List Event). open_after None (map Call (shifted b x))) events ∙ ap (λ (x : Base). open_after None (map Call (shifted x (drop (ended_before e) e.ring.book.history)))) base
    ∙ ap (λ (x : List Event). open_after None (map Call x)) (sym (drop-map (shifted_event e.base) (ended_before e) e.ring.book.history))

-- ---- marks in their order

drop_push : (n : ℕ) (xs : List Event) (x : Event) → n ≤ length xs → drop n (xs ++ x ∷ []) ≡ drop n xs ++ x ∷ []
drop_push zero xs x l = refl
drop_push (suc n) [] x l = absurd (omega arith)
drop_push (suc n) (y ∷ xs) x l = drop_push n xs x (omega arith)

drop_all : (xs : List Event) → drop (length xs) xs ≡ []
drop_all [] = refl
drop_all (x ∷ xs) = drop_all xs

calls_append : (xs ys : List Event) → map Call (xs ++ ys) ≡ map Call xs ++ map Call ys
calls_append xs ys = map-append Call xs ys

found : (xs : List Event) (last : ℕ) (marks : List Mark) → last ≤ length xs →
    open_after None (map Call (drop (last_end last (length xs) marks) (xs ++ events_of marks))) ≡ open_after (open_after None (map Call (drop last xs))) marks
found xs last [] l = ap (λ (x : List Event). open_after None (map Call (drop last x))) (append-nil xs)
found xs last (Call e ∷ ms) l =
    let n : length (xs ++ e ∷ []) ≡ length xs + 1 = length-append xs (e ∷ []) in
    let more = found (xs ++ e ∷ []) last ms (omega arith) in
    let one : open_after None (map Call (drop last (xs ++ e ∷ []))) ≡ open_behind (open_after None (map Call (drop last xs))) e =
    ap (λ (x : List Event). open_after None (map Call x)) (drop_push last xs e l)
    ∙ ap (λ (x : List Mark). open_after None x) (calls_append (drop last xs) (e ∷ [])) ∙ open_append None (map Call (drop last xs)) (Call e ∷ []) in
    ap (λ (x : List Event). open_after None (map Call (drop (last_end last (length xs + 1) ms) x))) (sym (append_assoc xs (e ∷ []) (events_of ms)))
    ∙ ap (λ (k : ℕ). open_after None (map Call (drop (last_end last k ms) ((xs ++ e ∷ []) ++ events_of ms)))) (sym n) ∙ more ∙ ap (λ (t : Option ℕ). open_after t ms) one
found xs last (Survey seat ∷ ms) l =
    found xs (length xs) ms (omega arith) ∙ ap (λ (x : List Event). open_after (open_after None (map Call x)) ms) (drop_all xs)

pub holds_are_found : HoldsAreFound
holds_are_found a marks e r =
    let history : List Event = e.ring.book.history in
    let token : open_in e ≡ open_after None (map Call (drop (last_end 0 0 marks) (events_of marks))) =
    ap (λ (n : ℕ). open_after None (map Call (drop n (events_in e)))) r.ends ∙ ap (λ (x : List Event). open_after None (map Call (drop (last_end 0 0 marks) x))) r.events in
    let now : after till (opening e.ring.book.start 0) history ≡ e.ring.book.now = r.endless.ring.book.current in (
      token ∙ found [] 0 marks (omega arith),
      ap (λ (x : State ℕ). shifted_state e.base x) (sym now) ∙ sym (after_shifted e.base (opening e.ring.book.start 0) history)
          ∙ ap (λ (x : State ℕ). after till x (events_in e)) (begins e.base e.ring.book.start r.amount ∙ r.start) ∙ ap (λ (x : List Event). after till a x) r.events,
    )

lock_is : (a b : State ℕ) (s t : Option ℕ) → a ≡ b → s ≡ t → ◌≡◌ {A = Lock} (record { ring = a; queue = []; holder = holder_after s }) (record { ring = b; queue = []; holder = holder_after t })
lock_is a b s t e f = ap (λ (x : State ℕ). record { ring = x; queue = []; holder = holder_after s }) e ∙ ap (λ (x : Option ℕ). record { ring = b; queue = []; holder = holder_after x }) f

pub restarts_are_right : RestartsAreRight
restarts_are_right ls is at l e r at_l k =
    let marks : List Mark = carries l ++ marks_of at ls is in
    let f = holds_are_found l.ring marks e k in
    segments_recover ls is at l r at_l ∙ ap (λ (x : Lock). Some x) (lock_is (after till l.ring (events_of marks)) (state_of e) (open_after None marks) (open_in e) (sym f.1) (sym f.0))
