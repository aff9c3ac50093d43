-- The journal of rings that are served is right at each moment, and records their state.
use Rattle.std.proofs.Common.{◌≡◌, ℕ, ◌+◌, ◌<◌, Bool, true, false, cond, List, [], ◌∷◌, ◌++◌, length, get_or, drop, map, refl, sym, ap, subst, ◌∙◌, ◌⊎◌, inl, inr, arith, append_assoc, slice_get, slice_set, Some}
use Rattle.std.specs.Prelude.{◌&&◌}
use Rattle.std.specs.List.{AllByRecursion, flat_map}
use Rattle.std.proofs.lemmas.List.{append-nil, length-set}
use Rattle.std.proofs.lemmas.List.Folds.{list_all-append}
use Rattle.std.proofs.lemmas.Grind.{flat_map-append}
use Rattle.ring_model.specs.declared.events.Event.{Event}
use Rattle.saved_history.specs.Versions.{latest_version}
use Rattle.saved_history.specs.Content.{Block, Content}
use Rattle.ring_check.specs.Legal.{IsLegalText}
use Rattle.one_thread_ring.specs.Journals.{line_of_event, line_of_survey}
use Rattle.journal.specs.declared.calls.JournalLine.{JournalLine}
use Rattle.journal.specs.ContentAfter.{is_open, are_open, whole, with_call_at, with_calls, in_order, content_after}
use Rattle.one_thread_ring.specs.Rings.{told_more}
use Rattle.one_thread_ring.proofs.ToldBy.{told_by, told_besides, told_others}
use Rattle.std.proofs.lemmas.Bool.{cases_eq}
use Rattle.saved_history.specs.declared.saved.SavedSurvey.{SavedSurvey}
use Rattle.ring_logs.specs.LogView.{LogView}
use Rattle.one_thread_ring.specs.SavedOf.{entry_surveys}
use Rattle.ring_logs.specs.Seats.{receipts_from}
use Rattle.ring_service.specs.Standings.{Standing, survey_now, with_events, with_survey}
use Rattle.ring_service.specs.Turns.{Turn, RingTrace, events, surveyed}
use Rattle.ring_service.specs.Saved.{IsRight, blocks_from, content_of}
use Rattle.journal.specs.Spelling.{JournalFits}
use Rattle.journal.specs.Prefixes.{IsRightJournal}
use Rattle.ring_service.specs.Recording.{calls_of, journal_of, AreTurns}
use Rattle.ring_service.proofs.Effects.{Closes, Grew, Looked, Changed, EffectAmong, turn_effect, changed_right, right_at}
use Rattle.ring_service.proofs.RecordedBlocks.{AllTell, all_saved_tell, grown_told, looked_told, right_numbered}
use Rattle.ring_service.proofs.Ordering.{all_saved}

-- ---- calls that are open, all but the last

abbrev pub CloseAt : List JournalLine → Type 0
CloseAt [] = ⊥
CloseAt (r ∷ []) = is_open r.call ≡ false
CloseAt (r ∷ s ∷ rs) = (is_open r.call ≡ true) × CloseAt (s ∷ rs)

close_events : (ring : ℕ) (es : List Event) → Closes es → CloseAt (map (line_of_event ring) es)
close_events ring [] c = absurd c
close_events ring (e ∷ []) c = c
close_events ring (e ∷ f ∷ es) c = (c.0, close_events ring (f ∷ es) c.1)

-- a prefix of them, which lacks a call, is open
pub front_open : (front : List JournalLine) (r : JournalLine) (back : List JournalLine) → CloseAt (front ++ r ∷ back) → are_open front ≡ true
front_open [] r back c = refl
front_open (x ∷ []) r back c = rw c.0 refl
front_open (x ∷ y ∷ front) r back c = rw c.0 (front_open (y ∷ front) r back c.1)

-- ---- whole calls

not_open : (a b : Bool) → b ≡ false → (a && b) ≡ false
not_open true b e = e
not_open false b e = refl

shut : (x : JournalLine) (rs : List JournalLine) → CloseAt (x ∷ rs) → are_open (x ∷ rs) ≡ false
shut x [] c = rw c refl
shut x (y ∷ rs) c = not_open (is_open x.call) (are_open (y ∷ rs)) (shut y rs c.1)

-- the open members after calls are left out
pub whole_front : (rs os : List JournalLine) → are_open os ≡ true → whole (rs ++ os) ≡ whole rs
whole_front [] [] o = refl
whole_front [] (x ∷ os) o = rw o refl
whole_front (r ∷ rs) os o =
    let same : are_open ((r ∷ rs) ++ os) ≡ are_open (r ∷ rs) = list_all-append (λ (x : JournalLine). is_open x.call) (r ∷ rs) os ∙ with_true (are_open (r ∷ rs)) (are_open os) o in
    ap (λ (b : Bool). cond b [] (r ∷ whole (rs ++ os))) same ∙ ap (λ (xs : List JournalLine). cond (are_open (r ∷ rs)) [] (r ∷ xs)) (whole_front rs os o)
  where
    with_true : (a b : Bool) → b ≡ true → (a && b) ≡ a
    with_true true b e = e
    with_true false b e = refl

-- closed calls are whole
whole_closed : (cs : List JournalLine) → CloseAt cs → whole cs ≡ cs
whole_closed [] c = absurd c
whole_closed (r ∷ []) c = rw c refl
whole_closed (r ∷ s ∷ cs) c =
    ap (λ (b : Bool). cond b [] (r ∷ whole (s ∷ cs))) (shut r (s ∷ cs) c) ∙ ap (λ (xs : List JournalLine). r ∷ xs) (whole_closed (s ∷ cs) c.1)

whole_more : (rs cs : List JournalLine) → CloseAt cs → whole (rs ++ cs) ≡ rs ++ cs
whole_more [] cs c = whole_closed cs c
whole_more (r ∷ rs) [] c = absurd c
whole_more (r ∷ rs) (x ∷ cs) c =
    let closed : are_open ((r ∷ rs) ++ x ∷ cs) ≡ false = list_all-append (λ (y : JournalLine). is_open y.call) (r ∷ rs) (x ∷ cs) ∙ not_open (are_open (r ∷ rs)) (are_open (x ∷ cs)) (shut x cs c) in
    ap (λ (b : Bool). cond b [] (r ∷ whole (rs ++ x ∷ cs))) closed ∙ ap (λ (xs : List JournalLine). r ∷ xs) (whole_more rs (x ∷ cs) c)

with_all : (bs : List Block) (xs ys : List JournalLine) → with_calls bs (xs ++ ys) ≡ with_calls (with_calls bs xs) ys
with_all bs [] ys = refl
with_all bs (x ∷ xs) ys = with_all (with_call_at bs x.ring x.call) xs ys

-- ---- receipts have no survey

receipts_tell_none : (seat n : ℕ) (es : List Event) → entry_surveys seat (receipts_from n es) ≡ []
receipts_tell_none seat n [] = refl
receipts_tell_none seat n (e ∷ es) = receipts_tell_none seat (n + 1) es

receipts_told : (cs : List LogView) (seat n : ℕ) (es : List Event) (i : ℕ) → seat < length cs → told_by (told_more cs seat (receipts_from n es)) i ≡ told_by cs i
receipts_told cs seat n es i l = elim (cases_eq i seat) [
  | inl e ↦ told_besides cs seat (receipts_from n es) i l e ∙ (ap (λ (ss : List SavedSurvey). told_by cs i ++ ss) (receipts_tell_none i n es) ∙ append-nil (told_by cs i))
  | inr ne ↦ told_others cs seat (receipts_from n es) i ne
]

-- ---- one turn

-- after the saved text of some rings these calls are whole, and record the state of the rings, which are right
pub record Stands (old : List Standing) (done : List JournalLine) (now : List Standing) : Type 0 where
  pub right : AllByRecursion IsRight now
  pub tell : AllTell 0 (with_calls (blocks_from 0 old) done) now
  pub closed : whole done ≡ done
  pub many : length now ≡ length old

-- the calls of a turn
abbrev pub turned : Turn (List Standing) → List JournalLine
turned turn = flat_map calls_of turn.recorded

module _ (old : List Standing) (done : List JournalLine) (now : List Standing) (s : Stands old done now) where
  abbrev began : List Block
  began = blocks_from 0 old

  grew : (ring : ℕ) (was : Standing) (one : Turn Standing) → slice_get now ring ≡ Some was → (g : Grew ring was one) → AllTell 0 (with_calls began (done ++ calls_of (events ring g.es))) (slice_set now ring one.leaves)
  grew ring was one there g =
      let told : AllTell 0 (with_calls (with_calls began done) (map (line_of_event ring) g.es)) (slice_set now ring (with_events was g.seat g.es)) = grown_told 0 (with_calls began done) now ring was g.es
      (told_more was.clients g.seat (receipts_from (length was.history) g.es)) there (λ i. receipts_told was.clients g.seat (length was.history) g.es i g.within) s.tell in
      subst (λ (x : Standing). AllTell 0 (with_calls began (done ++ map (line_of_event ring) g.es)) (slice_set now ring x)) (sym g.leaves)
      (subst (λ (bs : List Block). AllTell 0 bs (slice_set now ring (with_events was g.seat g.es))) (sym (with_all began done (map (line_of_event ring) g.es))) told)

  looked : (ring : ℕ) (was : Standing) (one : Turn Standing) → slice_get now ring ≡ Some was → (l : Looked ring was one) → AllTell 0 (with_calls began (done ++ calls_of (surveyed ring l.seat (survey_now was)))) (slice_set now ring one.leaves)
  looked ring was one there l =
      let few = (right_numbered was (right_at now ring was s.right there)).1 in
      let told : AllTell 0 (with_calls (with_calls began done) (line_of_survey ring l.seat (survey_now was) ∷ [])) (slice_set now ring (with_survey was l.seat (survey_now was))) = looked_told 0 (with_calls began done) now ring was l.seat (survey_now was) there l.within few s.tell in
      subst (λ (x : Standing). AllTell 0 (with_calls began (done ++ line_of_survey ring l.seat (survey_now was) ∷ [])) (slice_set now ring x)) (sym l.leaves)
      (subst (λ (bs : List Block). AllTell 0 bs (slice_set now ring (with_survey was l.seat (survey_now was)))) (sym (with_all began done (line_of_survey ring l.seat (survey_now was) ∷ []))) told)

  changed : (turn : Turn (List Standing)) → (c : Changed now turn) → CloseAt (turned turn) × AllTell 0 (with_calls began (done ++ turned turn)) turn.leaves
  changed turn c = go c.effect
    where
      at : (rec : RingTrace) → turn.recorded ≡ rec ∷ [] → CloseAt (calls_of rec) → AllTell 0 (with_calls began (done ++ calls_of rec)) (slice_set now c.ring c.one.leaves) → CloseAt (turned turn) × AllTell 0 (with_calls began (done ++ turned turn)) turn.leaves
      at rec e close told =
          let same : turned turn ≡ calls_of rec = ap (λ (x : List RingTrace). flat_map calls_of x) e ∙ append-nil (calls_of rec) in (
            subst CloseAt (sym same) close,
            subst (λ (x : List JournalLine). AllTell 0 (with_calls began (done ++ x)) turn.leaves) (sym same) (subst (λ (x : List Standing). AllTell 0 (with_calls began (done ++ calls_of rec)) x) (sym c.leaves) told),
          )

      go : Grew c.ring c.was c.one ⊎ Looked c.ring c.was c.one → CloseAt (turned turn) × AllTell 0 (with_calls began (done ++ turned turn)) turn.leaves
      go (inl g) = at (events c.ring g.es) (c.recorded ∙ g.recorded) (close_events c.ring g.es g.closes) (grew c.ring c.was c.one c.there g)
      go (inr l) = at (surveyed c.ring l.seat (survey_now c.was)) (c.recorded ∙ l.recorded) refl (looked c.ring c.was c.one c.there l)

  -- the calls are whole after a turn, too; those of the turn are none, or close
  pub turn_stands : (turn : Turn (List Standing)) → EffectAmong now turn → Stands old (done ++ turned turn) turn.leaves × ((turned turn ≡ []) ⊎ CloseAt (turned turn))
  turn_stands turn (inl kept) =
      let none : turned turn ≡ [] = ap (λ (x : List RingTrace). flat_map calls_of x) kept.0 in
      let same : done ++ turned turn ≡ done = ap (λ (x : List JournalLine). done ++ x) none ∙ append-nil done in (
        subst (λ (x : List JournalLine). Stands old x turn.leaves) (sym same) (subst (λ (x : List Standing). Stands old done x) (sym kept.1) s),
        inl none,
      )
  turn_stands turn (inr c) =
      let both = changed turn c in
      let many : length turn.leaves ≡ length now = ap (λ (x : List Standing). length x) c.leaves ∙ length-set now c.ring c.one.leaves in (
        record { right = changed_right now turn s.right (inr c); tell = both.1; closed = whole_more done (turned turn) both.0; many = many ∙ s.many },
        inr both.0,
      )

  -- they record the saved text of the rings as they are
  pub stands_tell : content_after (content_of old) done ≡ content_of now
  stands_tell =
      let blocks : map in_order (with_calls began (whole done)) ≡ blocks_from 0 now = ap (λ (x : List JournalLine). map in_order (with_calls began x)) s.closed ∙ all_saved 0 (with_calls began done) now s.right s.tell in
      λ i. record { version = latest_version; rings = blocks i; rings_said = sym s.many i }

-- ---- all turns

cons_head : (x y : JournalLine) (xs ys : List JournalLine) → x ∷ xs ≡ y ∷ ys → x ≡ y
cons_head x y xs ys e = ap (λ (zs : List JournalLine). get_or zs 0 x) e

cons_tail : (x y : JournalLine) (xs ys : List JournalLine) → x ∷ xs ≡ y ∷ ys → xs ≡ ys
cons_tail x y xs ys e = ap (λ (zs : List JournalLine). drop 1 zs) e

abbrev Within : List JournalLine → List JournalLine → List JournalLine → List JournalLine → Type 0
Within xs ys front back = ((f : List JournalLine) × (front ≡ xs ++ f) × (ys ≡ f ++ back)) ⊎ ((r : JournalLine) × (b : List JournalLine) × (xs ≡ front ++ r ∷ b))

split : (xs ys front back : List JournalLine) → xs ++ ys ≡ front ++ back → Within xs ys front back
split [] ys front back e = inl (front, refl, e)
split (x ∷ xs) ys [] back e = inr (x, xs, refl)
split (x ∷ xs) ys (f ∷ front) back e = go (split xs ys front back (cons_tail x f (xs ++ ys) (front ++ back) e))
  where
    same : x ≡ f
    same = cons_head x f (xs ++ ys) (front ++ back) e

    go : Within xs ys front back → Within (x ∷ xs) ys (f ∷ front) back
    go (inl w) = inl (w.0, (λ i. sym same i ∷ w.1 i), w.2)
    go (inr w) = inr (w.0, w.1, (λ i. same i ∷ w.2 i))

cons_none : (x : JournalLine) (xs : List JournalLine) → x ∷ xs ≡ [] → ⊥
cons_none x xs e = let l = ap (λ (zs : List JournalLine). length zs) e in omega (arith, l)

cons_some : (xs : List JournalLine) (y : JournalLine) (ys : List JournalLine) → xs ++ y ∷ ys ≡ [] → ⊥
cons_some [] y ys e = cons_none y ys e
cons_some (x ∷ xs) y ys e = cons_none x (xs ++ y ∷ ys) e

pub begins : (old : List Standing) → AllByRecursion IsRight old → Stands old [] old
begins old all = record { right = all; tell = all_saved_tell 0 old all; closed = refl; many = refl }

ends : (faults : Bool) (old : List Standing) (lines : List (List ℕ)) (done : List JournalLine) (now : List Standing) (records : List RingTrace) (new : List Standing) → Stands old done now → AreTurns faults now lines records new →
    Stands old (done ++ flat_map calls_of records) new
ends faults old [] done now records new s t =
    let none : flat_map calls_of records ≡ [] = ap (λ (x : List RingTrace). flat_map calls_of x) t.0 in
    subst (λ (x : List Standing). Stands old (done ++ flat_map calls_of records) x) (sym t.1) (subst (λ (x : List JournalLine). Stands old x now) (sym (ap (λ (x : List JournalLine). done ++ x) none ∙ append-nil done)) s)
ends faults old (line ∷ lines) done now records new s t =
    let turn : Turn (List Standing) = t.0 in
    let one = turn_stands old done now s turn (turn_effect faults now line turn s.right t.2) in
    let more = ends faults old lines (done ++ turned turn) turn.leaves t.1 new one.0 t.4 in
    let all : flat_map calls_of records ≡ turned turn ++ flat_map calls_of t.1 = ap (λ (x : List RingTrace). flat_map calls_of x) t.3 ∙ flat_map-append calls_of turn.recorded t.1 in
    subst (λ (x : List JournalLine). Stands old x new) (append_assoc done (turned turn) (flat_map calls_of t.1) ∙ ap (λ (x : List JournalLine). done ++ x) (sym all)) more

module _ (legal : (rs : List Standing) → AllByRecursion IsRight rs → IsLegalText (content_of rs)) where
  stands_legal : (old : List Standing) (done : List JournalLine) (now : List Standing) → Stands old done now → IsLegalText (content_after (content_of old) done)
  stands_legal old done now s = subst IsLegalText (sym (stands_tell old done now s)) (legal now s.right)

  fronts : (faults : Bool) (old : List Standing) (lines : List (List ℕ)) (done : List JournalLine) (now : List Standing) (records : List RingTrace) (new : List Standing) → Stands old done now → AreTurns faults now lines records new →
      (front back : List JournalLine) → flat_map calls_of records ≡ front ++ back → IsLegalText (content_after (content_of old) (done ++ front))
  fronts faults old [] done now records new s t [] back e = subst (λ (x : List JournalLine). IsLegalText (content_after (content_of old) x)) (sym (append-nil done)) (stands_legal old done now s)
  fronts faults old [] done now records new s t (f ∷ front) back e = absurd (cons_none f (front ++ back) (sym e ∙ ap (λ (x : List RingTrace). flat_map calls_of x) t.0))
  fronts faults old (line ∷ lines) done now records new s t front back e =
      let turn : Turn (List Standing) = t.0 in
      let one = turn_stands old done now s turn (turn_effect faults now line turn s.right t.2) in
      let all : flat_map calls_of records ≡ turned turn ++ flat_map calls_of t.1 = ap (λ (x : List RingTrace). flat_map calls_of x) t.3 ∙ flat_map-append calls_of turn.recorded t.1 in
      elim (split (turned turn) (flat_map calls_of t.1) front back (sym all ∙ e)) [
        | inl w ↦
            let here : (done ++ turned turn) ++ w.0 ≡ done ++ front = append_assoc done (turned turn) w.0 ∙ ap (λ (x : List JournalLine). done ++ x) (sym w.1) in
            subst (λ (x : List JournalLine). IsLegalText (content_after (content_of old) x)) here (fronts faults old lines (done ++ turned turn) turn.leaves t.1 new one.0 t.4 w.0 back w.2)
        | inr w ↦
            let closed_in : are_open front ≡ true = inside turn front w.0 w.1 w.2 one.1 in
            let same : content_after (content_of old) (done ++ front) ≡ content_after (content_of old) done = ap (λ (x : List JournalLine). let c : Content = record { version = latest_version; rings = map in_order (with_calls (blocks_from 0 old) x); rings_said = length old } in c) (whole_front done front closed_in) in
            subst IsLegalText (sym same) (stands_legal old done now s)
      ]
    where
      inside : (turn : Turn (List Standing)) (front : List JournalLine) (r : JournalLine) (b : List JournalLine) → turned turn ≡ front ++ r ∷ b → (turned turn ≡ []) ⊎ CloseAt (turned turn) → are_open front ≡ true
      inside turn front r b e (inl none) = absurd (cons_some front r b (sym e ∙ none))
      inside turn front r b e (inr close) = front_open front r b (subst CloseAt e close)

  pub journals_right : (faults : Bool) (old new : List Standing) (lines : List (List ℕ)) (records : List RingTrace) → AllByRecursion IsRight old → AreTurns faults old lines records new → JournalFits (journal_of old records) →
      IsRightJournal (journal_of old records) × (content_after (content_of old) (flat_map calls_of records) ≡ content_of new)
  journals_right faults old new lines records all t fits = (
    record { fits = fits; began = legal old all; legal = fronts faults old lines [] old records new (begins old all) t },
    stands_tell old (flat_map calls_of records) new (ends faults old lines [] old records new (begins old all) t),
  )
