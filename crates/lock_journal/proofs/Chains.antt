-- Calls of a journal, one after the other, and the rings that it records after each.
use Rattle.std.proofs.Common.{◌≡◌, ℕ, List, [], ◌∷◌, ◌++◌, map, length, Option, Some, refl, sym, ◌∙◌, ap, subst, inl, inr, slice_get, ◌<◌, ◌^◌, append_assoc, slice_set}
use Rattle.std.specs.List.{AllByRecursion}
use Rattle.std.proofs.lemmas.List.{append-nil, length-set, map-append}
use Rattle.std.proofs.lemmas.Option.{slice_get_within}
use Rattle.ring_model.specs.declared.events.Event.{Event}
use Rattle.saved_history.specs.Versions.{latest_version}
use Rattle.journal.specs.declared.calls.JournalLine.{JournalLine}
use Rattle.journal.specs.Spelling.{JournalLineFits}
use Rattle.one_thread_ring.specs.Journals.{line_of_survey, line_of_event}
use Rattle.endless_ring.specs.Endless.{EndlessView}
use Rattle.ring_service.specs.Standings.{Standing, survey_now, with_survey, with_events}
use Rattle.ring_service.specs.Saved.{IsRight}
use Rattle.ring_service.specs.Turns.{Turn, events, surveyed}
use Rattle.ring_service.specs.Recovered.{HaveGrown}
use Rattle.ring_service.proofs.Effects.{Changed, changed_right}
use Rattle.ring_service.proofs.Journaling.{Stands, turned, turn_stands}
use Rattle.ring_service.proofs.RecordedFits.{SmallCall, grew_fits, looked_fits}
use Rattle.ring_service.proofs.Grown.{have_same, have_then, have_set, with_more, looked_more}
use Rattle.ring_model.specs.Bases.{shifted_event, shifted}
use Rattle.held_locks.specs.Locks.{Mark, Survey, Call}
use Rattle.held_locks.specs.Promises.{Alternate, events_of, open_after}
use Rattle.held_locks.proofs.Shown.{events_append, open_append, alternate_append}
use Rattle.held_locks.proofs.Standing.{get_set_other}
use Rattle.ring_service.proofs.RecordedBlocks.{set_there}
use Rattle.std.proofs.lemmas.Bool.{cases_eq}
use Rattle.lock_journal.proofs.Shadows.{open_of, called_turn, ended_turn, IsCalledSo, IsEndedSo}
use Rattle.ring_service.specs.declared.answers.Answer.TheVariants as answer

-- ---- how a ring continues

-- the ring has gone on by these marks: grants and ends of holds alternate, and the hold that is open is the last one's
pub record GoesOnBy (was is : Standing) : Type 0 where
  pub marks : List Mark
  pub events : shifted is.base is.history ≡ shifted was.base was.history ++ events_of marks
  pub alternate : Alternate (open_of was) marks
  pub hold : open_of is ≡ open_after (open_of was) marks

goes_same : (r : Standing) → GoesOnBy r r
goes_same r = record { marks = []; events = sym (append-nil (shifted r.base r.history)); alternate = tt; hold = refl }

goes_then : (r s t : Standing) → GoesOnBy r s → GoesOnBy s t → GoesOnBy r t
goes_then r s t p q = record {
  marks = p.marks ++ q.marks;
  events = q.events
      ∙ (ap (λ (x : List Event). x ++ events_of q.marks) p.events ∙ (append_assoc (shifted r.base r.history) (events_of p.marks) (events_of q.marks) ∙ ap (λ (x : List Event). shifted r.base r.history ++ x) (sym (events_append p.marks q.marks))));
  alternate = alternate_append (open_of r) p.marks q.marks p.alternate (subst (λ (x : Option ℕ). Alternate x q.marks) p.hold q.alternate);
  hold = q.hold ∙ (ap (λ (x : Option ℕ). open_after x q.marks) p.hold ∙ sym (open_append (open_of r) p.marks q.marks));
}

-- each of the rings has
abbrev pub HaveGoneOn : List Standing → List Standing → Type 0
HaveGoneOn rs ss = (i : ℕ) (r : Standing) → slice_get rs i ≡ Some r → (s : Standing) × (slice_get ss i ≡ Some s) × GoesOnBy r s

goes_set : (rings : List Standing) (ring : ℕ) (s t : Standing) → slice_get rings ring ≡ Some s → GoesOnBy s t → HaveGoneOn rings (slice_set rings ring t)
goes_set rings ring s t there g i r e = elim (cases_eq i ring) [
  | inl q ↦
      let same : s ≡ r = one s r (sym there ∙ (ap (λ (k : ℕ). slice_get rings k) (sym q) ∙ e)) in (
        t,
        subst (λ (k : ℕ). slice_get (slice_set rings ring t) k ≡ Some t) (sym q) (set_there rings ring s t there),
        subst (λ (x : Standing). GoesOnBy x t) same g,
      )
  | inr q ↦ (r, get_set_other rings ring i t q ∙ e, goes_same r)
]
  where
    one : (x y : Standing) → ◌≡◌ {A = Option Standing} (Some x) (Some y) → x ≡ y
    one x y e = cc

-- ---- calls

-- one call
pub record OneCall (rings : List Standing) (r : JournalLine) (behind : List Standing) : Type 0 where
  pub turn : Turn (List Standing)
  pub changed : Changed rings turn
  pub calls : turned turn ≡ r ∷ []
  pub leaves : turn.leaves ≡ behind
  pub fits : JournalLineFits latest_version (length rings) r
  pub grown : HaveGrown rings behind
  pub goes : HaveGoneOn rings behind
  pub many : length behind ≡ length rings

-- and calls
abbrev pub Chain : List Standing → List JournalLine → List Standing → Type 0
Chain rings [] behind = behind ≡ rings
Chain rings (r ∷ rs) behind = (mid : List Standing) × OneCall rings r mid × Chain mid rs behind

pub called_one : (rings : List Standing) (ring : ℕ) (s : Standing) (old new : EndlessView) (seat : ℕ) (shown : Event) → length rings < 2 ^ 32 → slice_get rings ring ≡ Some s → IsRight s → (c : IsCalledSo ring s old new seat shown) → Alternate (open_of s) (Call shown ∷ []) →
    OneCall rings (line_of_event ring c.local) (slice_set rings ring (with_events s seat (c.local ∷ [])))
called_one rings ring s old new seat shown few there right c alternate =
    let fits : AllByRecursion (JournalLineFits latest_version (length rings)) (line_of_event ring c.local ∷ []) =
    subst (λ (es : List Event). AllByRecursion (JournalLineFits latest_version (length rings)) (map (line_of_event ring) es)) c.of_call
    (grew_fits (length rings) ring s (called_turn ring s seat c.local) right c.grew (slice_get_within rings ring s there) few (subst (λ (es : List Event). AllByRecursion SmallCall es) (sym c.of_call) (c.small, tt))) in record {
      turn = record { answer = answer.Waits; recorded = events ring (c.local ∷ []) ∷ []; leaves = slice_set rings ring (with_events s seat (c.local ∷ [])) };
      changed = record { ring = ring; was = s; there = there; one = called_turn ring s seat c.local; effect = inl c.grew; recorded = refl; leaves = refl };
      calls = refl;
      leaves = refl;
      fits = fits.0;
      grown = have_set rings ring s (with_events s seat (c.local ∷ [])) there (with_more s seat (c.local ∷ []));
      goes = goes_set rings ring s (with_events s seat (c.local ∷ [])) there (record {
        marks = Call shown ∷ [];
        events = map-append (shifted_event s.base) s.history (c.local ∷ []) ∙ ap (λ (x : Event). shifted s.base s.history ++ x ∷ []) c.is_shown;
        alternate = alternate;
        hold = c.open_hold;
      });
      many = length-set rings ring (with_events s seat (c.local ∷ []));
    }

pub ended_one : (rings : List Standing) (ring : ℕ) (s : Standing) (e : EndlessView) (seat : ℕ) → length rings < 2 ^ 32 → slice_get rings ring ≡ Some s → IsRight s → (c : IsEndedSo ring s e seat) → Alternate (open_of s) (Survey seat ∷ []) →
    OneCall rings (line_of_survey ring seat (survey_now s)) (slice_set rings ring (with_survey s seat (survey_now s)))
ended_one rings ring s e seat few there right c alternate = record {
  turn = record { answer = answer.Waits; recorded = surveyed ring seat (survey_now s) ∷ []; leaves = slice_set rings ring (with_survey s seat (survey_now s)) };
  changed = record { ring = ring; was = s; there = there; one = ended_turn ring s seat; effect = inr c.looked; recorded = refl; leaves = refl };
  calls = refl;
  leaves = refl;
  fits = looked_fits (length rings) ring seat s right (subst (λ (k : ℕ). k < length s.clients) c.of_seat c.looked.within) (slice_get_within rings ring s there) few;
  grown = have_set rings ring s (with_survey s seat (survey_now s)) there (looked_more s seat);
  goes = goes_set rings ring s (with_survey s seat (survey_now s)) there (record {
    marks = Survey seat ∷ [];
    events = sym (append-nil (shifted s.base s.history));
    alternate = alternate;
    hold = c.open_hold;
  });
  many = length-set rings ring (with_survey s seat (survey_now s));
}

-- ---- what calls do

pub chain_append : (a b c : List Standing) (xs ys : List JournalLine) → Chain a xs b → Chain b ys c → Chain a (xs ++ ys) c
chain_append a b c [] ys p q = subst (λ (x : List Standing). Chain x ys c) p q
chain_append a b c (x ∷ xs) ys p q = (p.0, p.1, chain_append p.0 b c xs ys p.2 q)

-- the first of them
pub chain_front : (a c : List Standing) (xs ys : List JournalLine) → Chain a (xs ++ ys) c → (b : List Standing) × Chain a xs b × Chain b ys c
chain_front a c [] ys p = (a, refl, p)
chain_front a c (x ∷ xs) ys p =
    let more = chain_front p.0 c xs ys p.2 in
    (more.0, (p.0, p.1, more.1), more.2)

pub chain_many : (a b : List Standing) (xs : List JournalLine) → Chain a xs b → length b ≡ length a
chain_many a b [] p = ap (λ (x : List Standing). length x) p
chain_many a b (x ∷ xs) p = chain_many p.0 b xs p.2 ∙ p.1.many

pub chain_right : (a b : List Standing) (xs : List JournalLine) → AllByRecursion IsRight a → Chain a xs b → AllByRecursion IsRight b
chain_right a b [] all p = subst (λ (x : List Standing). AllByRecursion IsRight x) (sym p) all
chain_right a b (x ∷ xs) all p = chain_right p.0 b xs (subst (λ (y : List Standing). AllByRecursion IsRight y) p.1.leaves (changed_right a p.1.turn all (inr p.1.changed))) p.2

pub chain_grown : (a b : List Standing) (xs : List JournalLine) → Chain a xs b → HaveGrown a b
chain_grown a b [] p = subst (λ (x : List Standing). HaveGrown a x) (sym p) (have_same a)
chain_grown a b (x ∷ xs) p = have_then a p.0 b p.1.grown (chain_grown p.0 b xs p.2)

pub chain_goes : (a b : List Standing) (xs : List JournalLine) → Chain a xs b → HaveGoneOn a b
chain_goes a b [] p i r e = (r, ap (λ (x : List Standing). slice_get x i) p ∙ e, goes_same r)
chain_goes a b (x ∷ xs) p i r e =
    let one = p.1.goes i r e in
    let more = chain_goes p.0 b xs p.2 i one.0 one.1 in
    (more.0, more.1, goes_then r one.0 more.0 one.2 more.2)

pub chain_fits : (a b : List Standing) (xs : List JournalLine) → Chain a xs b → AllByRecursion (JournalLineFits latest_version (length a)) xs
chain_fits a b [] p = tt
chain_fits a b (x ∷ xs) p = (p.1.fits, subst (λ (n : ℕ). AllByRecursion (JournalLineFits latest_version n) xs) p.1.many (chain_fits p.0 b xs p.2))

-- what the journal records after them
pub chain_stands : (old : List Standing) (done : List JournalLine) (a b : List Standing) (xs : List JournalLine) → Stands old done a → Chain a xs b → Stands old (done ++ xs) b
chain_stands old done a b [] s p = subst (λ (x : List Standing). Stands old (done ++ []) x) (sym p) (subst (λ (x : List JournalLine). Stands old x a) (sym (append-nil done)) s)
chain_stands old done a b (x ∷ xs) s p =
    let one = (turn_stands old done a s p.1.turn (inr p.1.changed)).0 in
    let here : Stands old (done ++ x ∷ []) p.0 = subst (λ (y : List Standing). Stands old (done ++ x ∷ []) y) p.1.leaves (subst (λ (y : List JournalLine). Stands old (done ++ y) p.1.turn.leaves) p.1.calls one) in
    subst (λ (y : List JournalLine). Stands old y b) (append_assoc done (x ∷ []) xs) (chain_stands old (done ++ x ∷ []) p.0 b xs here p.2)
