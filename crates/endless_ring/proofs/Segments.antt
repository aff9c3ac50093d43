-- The tally of a ring's segment is right, its segments are a chain, and its answers are right.
use Rattle.std.proofs.Common.{◌≡◌, ℕ, ◌+◌, ◌≤◌, ◌==◌, Bool, true, false, cond, List, [], ◌∷◌, ◌++◌, length, length-append, take, refl, sym, ◌∙◌, ap, subst, arith}
use Rattle.std.proofs.lemmas.Bool.{ne_eqb}
use Rattle.std.proofs.lemmas.List.{take_all}
use Rattle.std.proofs.lemmas.List.Sums.{sum_by-append}
use Rattle.ring_model.specs.Limits.{event_limit}
use Rattle.ring_model.specs.Ring.{Ring}
use Rattle.ring_model.specs.Numbers.{bit}
use Rattle.ring_model.specs.History.{State, StepOf, IsLegal, opening, next, reply, after}
use Rattle.ring_model.specs.Resources.{till}
use Rattle.ring_model.specs.Groups.{IsHistory, AreMembers, move_order, left_after}
use Rattle.ring_model.specs.Logs.{IsSurvey}
use Rattle.ring_model.specs.Surveys.{is_corrupted, granted_count, corrupted_count, calm}
use Rattle.ring_model.specs.declared.events.Op.{Op}
use Rattle.ring_model.specs.declared.events.Op.TheVariants.{Pass, Member, Corrupt}
use Rattle.ring_model.specs.declared.events.Reply.{Reply}
use Rattle.ring_model.specs.declared.events.Reply.TheVariants.{Granted, NotPrivileged, Corrupted}
use Rattle.ring_model.specs.declared.events.Event.{Event}
use Rattle.ring_model.specs.declared.events.Receipt.{Receipt}
use Rattle.ring_model.specs.declared.events.Survey.{Survey}
use Rattle.ring_model.proofs.Histories.{StepOf-reply, grants-after}
use Rattle.ring_model.proofs.QuietRuns.{corrupted_count-cons}
use Rattle.ring_model.proofs.Wholes.{whole_left}
use Rattle.ring_book.specs.BookView.{IsFresh, IsRecorded}
use Rattle.ring_book.specs.GroupView.{IsGroupRecorded}
use Rattle.ring_book.specs.declared.books.groups.GroupReceipt.{GroupReceipt}
use Rattle.ring_model.specs.declared.events.Entry.TheVariants as entry
use Rattle.one_thread_ring.specs.Rings.{RingView, IsOneThreadRing, AreFresh, told_more}
use Rattle.ring_model.specs.declared.bases.Base.{Base}
use Rattle.ring_model.specs.declared.tallies.Tally.{Tally}
use Rattle.ring_model.specs.Bases.{IsBase, is_quiet, shifted_reply, shifted_survey, base_after}
use Rattle.ring_model.specs.Tallies.{empty_tally, tallied, base_with, IsInSegment}
use Rattle.ring_model.specs.Chains.{Segment, IsChainFrom, chain_history, IsSurveyAfter}
use Rattle.ring_model.proofs.Tallied.{kept_is, few_grants, calm_few, next_bases_are_right}
use Rattle.ring_model.proofs.Shifts.{grants_legal}
use Rattle.ring_model.proofs.ChainHistories.{Stands, stands, replies_are_right}
use Rattle.ring_model.proofs.Seen.{front_size, surveys_are_right}
use Rattle.endless_ring.specs.Endless.{EndlessView, IsEndless, IsKnown, IsSurveyed, IsNextRing, EndsChain, segment_of, local_survey, survey_now, ChainsGrow, ReceiptsAreRight, SurveysNowAreRight}

-- ---- the end of a segment

pub record IsSmall (t : Tally) (v : Survey) : Type 0 where
  pub grants : t.grants ≤ event_limit
  pub position : v.position ≤ event_limit
  pub calm : v.calm ≤ event_limit

pub few : (d : RingView ℕ) → IsOneThreadRing till 0 d → length d.book.history ≤ event_limit
few d i = omega (arith, i.book.bounded)

taken : (h : List Event) → take (length h) h ≡ h
taken h = take_all (length h) h (omega arith)

-- the survey of the end is right
pub end_is : (d : RingView ℕ) → IsOneThreadRing till 0 d → IsSurvey till (opening d.book.start 0) d.book.history (local_survey d)
end_is d i = (omega arith, refl, ap (λ (x : List Event). left_after x) (taken d.book.history) ∙ whole_left (length d.book.start.values) d.book.history i.book.whole)

pub end_small : (d : RingView ℕ) (t : Tally) → IsOneThreadRing till 0 d → t ≡ tallied empty_tally d.book.history → IsSmall t (local_survey d)
end_small d t i q =
    let h : List Event = d.book.history in
    let n : length h ≤ event_limit = few d i in
    let g : granted_count h ≤ length h = few_grants h in
    let is : t.grants ≡ granted_count h = ap (λ (x : Tally). x.grants) (q ∙ kept_is d.book.start h i.book.legal) in
    let c : calm h ≤ granted_count h = calm_few h in
    let same : calm (take (length h) h) ≡ calm h = ap (λ (x : List Event). calm x) (taken h) in
    record { grants = omega arith; position = omega arith; calm = omega arith }

-- the tally is that of the segment
pub tally_of : (b : Base) (d : RingView ℕ) (e : EndlessView) (t : Tally) → ◌≡◌ {A = EndlessView} (record { base = b; ring = d }) e → t ≡ tallied empty_tally e.ring.book.history → t ≡ tallied empty_tally d.book.history
tally_of b d e t view q = q ∙ sym (ap (λ (x : EndlessView). tallied empty_tally x.ring.book.history) view)

-- the passes of the segment
pub grants_now : (d : RingView ℕ) (t : Tally) → IsOneThreadRing till 0 d → t ≡ tallied empty_tally d.book.history → t.grants ≡ d.book.now.grants
grants_now d t i q =
    let h : List Event = d.book.history in
    let is : t.grants ≡ granted_count h = ap (λ (x : Tally). x.grants) (q ∙ kept_is d.book.start h i.book.legal) in
    let g : (after till (opening d.book.start 0) h).grants ≡ 0 + granted_count h = grants_legal till (opening d.book.start 0) h i.book.legal in
    let now : (after till (opening d.book.start 0) h).grants ≡ d.book.now.grants = ap (λ (x : State ℕ). x.grants) i.book.current in
    omega arith

-- the next base, of the tally
pub next_base_is : (b : Base) (t : Tally) (d : RingView ℕ) → IsOneThreadRing till 0 d → t ≡ tallied empty_tally d.book.history → base_with b t (local_survey d) ≡ base_after b d.book.start d.book.history
next_base_is b t d i q =
    ap (λ (x : Tally). base_with b x (local_survey d)) q
    ∙ next_bases_are_right b d.book.start d.book.history (local_survey d) i.book.legal (end_is d i) refl

-- and none if there is no room for it
pub no_next : (b : Base) (t : Tally) (d : RingView ℕ) (v : Survey) (e : EndlessView) → IsOneThreadRing till 0 d → t ≡ tallied empty_tally d.book.history → v ≡ local_survey d →
    ◌≡◌ {A = EndlessView} (record { base = b; ring = d }) e → ¬ IsBase (base_with b t v) → ¬ IsBase (base_after e.base e.ring.book.start e.ring.book.history)
no_next b t d v e i p q view none base =
    none (subst (λ (x : Base). IsBase x) (sym (ap (λ (x : Survey). base_with b t x) q ∙ next_base_is b t d i p))
    (subst (λ (x : EndlessView). IsBase (base_after x.base x.ring.book.start x.ring.book.history)) (sym view) base))

-- and where there is one, there is room for it
pub has_next : (b c : Base) (d : RingView ℕ) (e : EndlessView) → ◌≡◌ {A = EndlessView} (record { base = b; ring = d }) e → c ≡ base_after b d.book.start d.book.history → IsBase c → IsBase (base_after e.base e.ring.book.start e.ring.book.history)
has_next b c d e view p room =
    subst (λ (x : EndlessView). IsBase (base_after x.base x.ring.book.start x.ring.book.history)) view (subst (λ (x : Base). IsBase x) p room)

-- the next segment, of its parts
pub next_is : (b : Base) (d : RingView ℕ) (c : Base) (e : RingView ℕ) → c ≡ base_after b d.book.start d.book.history → IsFresh d.book.now.ring 0 e.book → AreFresh (length d.clients) e.clients →
    IsNextRing (record { base = b; ring = d }) (record { base = c; ring = e })
next_is b d c e q f a = record { base = q; start = f.0; history = f.2; clients = a }

-- ---- a call

pub grant_small : (a : State ℕ) (o : Op) (r : Reply) (t : State ℕ) (m : ℕ) → StepOf till a o r t → a.grants + 1 ≤ m → m ≤ event_limit → IsInSegment r
grant_small a (Pass i order) (Granted number result) t m h le most = omega (arith, h.2)
grant_small a (Pass i order) NotPrivileged t m h le most = tt
grant_small a (Pass i order) (Corrupted old) t m h le most = absurd h
grant_small a (Member i order left) (Granted number result) t m h le most = omega (arith, h.2)
grant_small a (Member i order left) NotPrivileged t m h le most = absurd h
grant_small a (Member i order left) (Corrupted old) t m h le most = absurd h
grant_small a (Corrupt i v) (Granted number result) t m h le most = absurd h
grant_small a (Corrupt i v) NotPrivileged t m h le most = absurd h
grant_small a (Corrupt i v) (Corrupted old) t m h le most = tt

-- the receipt's numbers are small
pub record IsSmallReceipt (r : Receipt) : Type 0 where
  pub position : r.position ≤ event_limit
  pub within : IsInSegment r.event.reply

pub receipt_small : (d e : RingView ℕ) (seat : ℕ) (o : Op) (r : Receipt) → IsOneThreadRing till 0 d → IsOneThreadRing till 0 e → IsRecorded till d.book e.book seat o r → IsSmallReceipt r
receipt_small d e seat o r i j c =
    let h : List Event = d.book.history in
    let longer : length e.book.history ≡ length (h ++ r.event ∷ []) = ap (λ (x : List Event). length x) c.grown in
    let one : length (h ++ r.event ∷ []) ≡ length h + 1 = length-append h (r.event ∷ []) in
    let most : length e.book.history ≤ event_limit = few e j in
    let g : (after till (opening d.book.start 0) h).grants ≤ 0 + length h = grants-after till (opening d.book.start 0) h in
    let now : (after till (opening d.book.start 0) h).grants ≡ d.book.now.grants = ap (λ (x : State ℕ). x.grants) i.book.current in
    record {
      position = omega (arith, c.position);
      within = grant_small d.book.now r.event.op r.event.reply e.book.now (length e.book.history) c.step (omega arith) most;
    }

-- ---- whether a corruption came

abbrev corrupts : Op → Bool
corrupts (Pass i order) = false
corrupts (Member i order left) = false
corrupts (Corrupt i v) = true

step_corrupts : (a : State ℕ) (o : Op) (r : Reply) (t : State ℕ) → StepOf till a o r t → is_corrupted r ≡ corrupts o
step_corrupts a (Pass i order) (Granted number result) t h = refl
step_corrupts a (Pass i order) NotPrivileged t h = refl
step_corrupts a (Pass i order) (Corrupted old) t h = absurd h
step_corrupts a (Member i order left) (Granted number result) t h = refl
step_corrupts a (Member i order left) NotPrivileged t h = absurd h
step_corrupts a (Member i order left) (Corrupted old) t h = absurd h
step_corrupts a (Corrupt i v) (Granted number result) t h = absurd h
step_corrupts a (Corrupt i v) NotPrivileged t h = absurd h
step_corrupts a (Corrupt i v) (Corrupted old) t h = refl

joined_count : (xs ys : List Event) → corrupted_count (xs ++ ys) ≡ corrupted_count xs + corrupted_count ys
joined_count xs ys = sum_by-append (λ (e : Event). cond {A = ℕ} (is_corrupted e.reply) 1 0) xs ys

one_count : (e : Event) → corrupted_count (e ∷ []) ≡ bit (is_corrupted e.reply)
one_count e = let c : corrupted_count (e ∷ []) ≡ bit (is_corrupted e.reply) + corrupted_count [] = corrupted_count-cons e [] in omega arith

-- the tally of the segment knows it
pub known_after : (b : Base) (d : RingView ℕ) (t : Tally) → IsBase b → IsOneThreadRing till 0 d → t ≡ tallied empty_tally d.book.history → IsKnown b t.quiet d
known_after b d t is i q = record {
  is = record { base = is; ring = i };
  quiet = ap (λ (x : Tally). x.quiet) (q ∙ kept_is d.book.start d.book.history i.book.legal);
}

-- no corruption came after it
known_more : (b : Base) (q : Bool) (d e : RingView ℕ) (es : List Event) → IsKnown b q d → IsOneThreadRing till 0 e → e.book.history ≡ d.book.history ++ es → corrupted_count es ≡ 0 → IsKnown b q e
known_more b q d e es k j grown none =
    let more : corrupted_count (d.book.history ++ es) ≡ corrupted_count d.book.history + corrupted_count es = joined_count d.book.history es in
    let same : corrupted_count d.book.history ≡ corrupted_count (d.book.history ++ es) = omega arith in
    record {
      is = record { base = k.is.base; ring = j };
      quiet = k.quiet ∙ ap (λ (n : ℕ). n == 0) same ∙ sym (ap (λ (x : List Event). is_quiet x) grown);
    }

reply_corrupts : (d e : RingView ℕ) (seat : ℕ) (o : Op) (r : Receipt) → IsRecorded till d.book e.book seat o r → is_corrupted r.event.reply ≡ corrupts o
reply_corrupts d e seat o r c = step_corrupts d.book.now r.event.op r.event.reply e.book.now c.step ∙ ap (λ (x : Op). corrupts x) c.of_call

pub known_pass : (b : Base) (q : Bool) (d e : RingView ℕ) (seat machine order : ℕ) (r : Receipt) → IsKnown b q d → IsOneThreadRing till 0 e → IsRecorded till d.book e.book seat (Pass machine order) r → IsKnown b q e
known_pass b q d e seat machine order r k j c =
    known_more b q d e (r.event ∷ []) k j c.grown (one_count r.event ∙ ap (λ (x : Bool). bit x) (reply_corrupts d e seat (Pass machine order) r c))

pub known_corrupt : (b : Base) (q : Bool) (d e : RingView ℕ) (seat machine value : ℕ) (r : Receipt) → IsKnown b q d → IsOneThreadRing till 0 e → IsRecorded till d.book e.book seat (Corrupt machine value) r → IsKnown b false e
known_corrupt b q d e seat machine value r k j c =
    let h : List Event = d.book.history in
    let one : corrupted_count (r.event ∷ []) ≡ 1 = one_count r.event ∙ ap (λ (x : Bool). bit x) (reply_corrupts d e seat (Corrupt machine value) r c) in
    let more : corrupted_count (h ++ r.event ∷ []) ≡ corrupted_count h + corrupted_count (r.event ∷ []) = joined_count h (r.event ∷ []) in
    record {
      is = record { base = k.is.base; ring = j };
      quiet = sym (ne_eqb (corrupted_count (h ++ r.event ∷ [])) 0 (λ z. absurd (omega arith))) ∙ sym (ap (λ (x : List Event). is_quiet x) c.grown);
    }

members_none : (a : State ℕ) (seat order : ℕ) (ms : List ℕ) (es : List Event) → AreMembers seat order ms es → IsLegal till a es → corrupted_count es ≡ 0
members_none a seat order [] es m l = ap (λ (x : List Event). corrupted_count x) m
members_none a seat order (i ∷ ms) [] m l = absurd m
members_none a seat order (i ∷ ms) (e ∷ es) m l =
    let no : is_corrupted e.reply ≡ false = step_corrupts a e.op e.reply (next till a e.op) l.0 ∙ ap (λ (x : Op). corrupts x) m.1 in
    let c : corrupted_count (e ∷ es) ≡ bit (is_corrupted e.reply) + corrupted_count es = corrupted_count-cons e es in
    let none : bit (is_corrupted e.reply) ≡ 0 = ap (λ (x : Bool). bit x) no in
    let ih : corrupted_count es ≡ 0 = members_none (next till a e.op) seat order ms es m.2 l.1 in
    omega arith

pub known_group : (b : Base) (q : Bool) (d e : RingView ℕ) (seat order : ℕ) (machines : List ℕ) (r : GroupReceipt) → IsKnown b q d → IsOneThreadRing till 0 e →
    IsGroupRecorded till d.book e.book seat order machines r → IsKnown b q e
known_group b q d e seat order machines r k j g =
    known_more b q d e g.moved.events k j g.moved.grown (members_none d.book.now seat order (move_order machines) g.moved.events g.moved.block.members g.moved.legal)

-- ---- surveys

pub survey_is : (b : Base) (q : Bool) (d : RingView ℕ) (v made : Survey) → IsKnown b q d → v ≡ local_survey d → made ≡ shifted_survey b q v → made ≡ survey_now (record { base = b; ring = d })
survey_is b q d v made k p m =
    m ∙ ap (λ (x : Survey). shifted_survey b q x) p ∙ ap (λ (x : Bool). shifted_survey b x (local_survey d)) k.quiet

pub surveyed_is : (b : Base) (q : Bool) (d e : RingView ℕ) (seat : ℕ) (v made : Survey) → IsKnown b q d → v ≡ local_survey d → e.clients ≡ told_more d.clients seat (entry.Survey v ∷ []) → e.book ≡ d.book →
    made ≡ shifted_survey b q v → IsSurveyed (record { base = b; ring = d }) (record { base = b; ring = e }) seat made
surveyed_is b q d e seat v made k p logged book m = record {
  shifted = survey_is b q d v made k p m;
  logged = logged ∙ ap (λ (x : Survey). told_more d.clients seat (entry.Survey x ∷ [])) p;
  book = book;
  base = refl;
}

-- ---- the chain

ring_history : (e : EndlessView) → IsEndless e → IsHistory till (opening e.ring.book.start 0) e.ring.book.history
ring_history e i = (i.ring.book.legal, i.ring.book.whole)

-- the last segment of a chain may have another history, of the same ring after the same base
pub goes_on : (b : Base) (r : Ring) (front : List Segment) (old new : EndlessView) → IsEndless new → new.base ≡ old.base → new.ring.book.start ≡ old.ring.book.start →
    IsChainFrom b r (front ++ segment_of old ∷ []) → IsChainFrom b r (front ++ segment_of new ∷ [])
goes_on b r [] old new i p q c =
    (p ∙ c.0, q ∙ c.1, subst (λ (x : Ring). IsHistory till (opening x 0) new.ring.book.history) (q ∙ c.1) (ring_history new i), tt)
goes_on b r (s ∷ front) old new i p q c = (c.0, c.1, c.2, goes_on (base_after b r s.history) (after till (opening r 0) s.history).ring front old new i p q c.3)

-- and it may have one segment more
pub goes_further : (b : Base) (r : Ring) (front : List Segment) (old new : EndlessView) → IsEndless old → IsEndless new → IsNextRing old new →
    EndsChain b r front old → EndsChain b r (front ++ segment_of old ∷ []) new
goes_further b r [] old new i j n c =
    let h : List Event = old.ring.book.history in
    let base : new.base ≡ base_after b r h =
    n.base ∙ ap (λ (x : Base). base_after x old.ring.book.start h) c.0 ∙ ap (λ (x : Ring). base_after b x h) c.1 in
    let start : new.ring.book.start ≡ (after till (opening r 0) h).ring =
    n.start ∙ ap (λ (x : State ℕ). x.ring) (sym i.ring.book.current) ∙ ap (λ (x : Ring). (after till (opening x 0) h).ring) c.1 in
    (c.0, c.1, c.2, (base, start, subst (λ (x : Ring). IsHistory till (opening x 0) new.ring.book.history) start (ring_history new j), tt))
goes_further b r (s ∷ front) old new i j n c = (c.0, c.1, c.2, goes_further (base_after b r s.history) (after till (opening r 0) s.history).ring front old new i j n c.3)

pub chains_grow : ChainsGrow
chains_grow b r front old new i j c = ((λ p q. goes_on b r front old new j p q c), λ n. goes_further b r front old new i j n c)

-- ---- answers

pub receipts_are_right : ReceiptsAreRight
receipts_are_right b r front old new seat op receipt am i c is =
    let at : Stands b r front (segment_of old) = stands b r front (segment_of old) [] am c in
    let h : List Event = old.ring.book.history in
    let step : is.local.event.reply ≡ reply till old.ring.book.now is.local.event.op = StepOf-reply till old.ring.book.now is.local.event.op is.local.event.reply new.ring.book.now is.recorded.step in
    let local : is.local.event.reply ≡ reply till (after till (opening old.ring.book.start 0) h) op =
    step ∙ ap (λ (x : Op). reply till old.ring.book.now x) is.recorded.of_call ∙ ap (λ (x : State ℕ). reply till x op) (sym i.ring.book.current) in
    let place : receipt.position ≡ old.base.events + is.local.position = ap (λ (x : Receipt). x.position) is.shifted in
    let size : length (chain_history (front ++ segment_of old ∷ [])) ≡ length (chain_history front) + length h = front_size front (segment_of old) in
    let counted : old.base.events ≡ b.events + length (chain_history front) = at.events in
    let end : is.local.position ≡ length h = is.recorded.position in (
      ap (λ (x : Receipt). x.event.reply) is.shifted ∙ ap (λ (x : Reply). shifted_reply old.base x) local ∙ replies_are_right b r front (segment_of old) op am c,
      omega arith,
    )

pub surveys_now_are_right : SurveysNowAreRight
surveys_now_are_right b r front e am i c =
    let h : List Event = e.ring.book.history in
    subst (λ (x : List Event). IsSurveyAfter b r (chain_history (front ++ segment_of e ∷ [])) (shifted_survey e.base (is_quiet x) (local_survey e.ring))) (taken h)
    (surveys_are_right b r front (segment_of e) [] (local_survey e.ring) am c (end_is e.ring i.ring))
