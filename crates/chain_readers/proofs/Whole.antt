-- The whole of a chain of files is one legal history.
use Rattle.std.proofs.Common.{◌≡◌, ℕ, zero, suc, ◌+◌, ◌-◌, ◌^◌, ◌<◌, ◌≤◌, Bool, true, false, cond, List, [], ◌∷◌, ◌++◌, length, length-append, map, take, drop, min, refl, sym, ap, subst, ◌∙◌, arith}
use Rattle.std.specs.Prelude.{Option, Some, None, slice_get}
use Rattle.std.specs.List.{All, AllByRecursion, filter}
use Rattle.std.proofs.lemmas.List.{map-append, length-map, length-take}
use Rattle.std.proofs.lemmas.List.Elements.{All-nil, All-append, All-map, All-head, All-tail, All-from_recursion, filter-append}
use Rattle.ring_model.specs.Limits.{machine_limit, value_limit, seat_limit, event_limit}
use Rattle.ring_model.specs.Ring.{Ring, ring_with}
use Rattle.ring_model.specs.History.{State, opening, after}
use Rattle.ring_model.specs.Resources.{till}
use Rattle.ring_model.specs.Surveys.{calm}
use Rattle.ring_model.specs.Groups.{IsHistory}
use Rattle.ring_model.specs.Logs.{IsSurvey}
use Rattle.ring_model.specs.declared.events.Event.{Event}
use Rattle.ring_model.specs.declared.events.Survey.{Survey}
use Rattle.ring_model.proofs.Wholes.{whole_none}
use Rattle.saved_history.specs.declared.saved.SavedEvent.{SavedEvent}
use Rattle.saved_history.specs.declared.saved.SavedSurvey.{SavedSurvey}
use Rattle.saved_history.specs.Content.{Block, Content}
use Rattle.saved_history.specs.Versions.{latest_version}
use Rattle.ring_check.specs.Table.{event_of}
use Rattle.ring_check.specs.Legal.{history}
use Rattle.ring_check.specs.Meaning.{survey_of, IsRightSurvey, IsRightBlock, AreRightBlocks, IsRightText, HasItsStarts}
use Rattle.ring_check.proofs.Blocks.{machine_limit_most, value_limit_most}
use Rattle.ring_check.proofs.Meanings.{legal_means, to_order}
use Rattle.journal.specs.ContentAfter.{is_of, by_seats, in_order}
use Rattle.ring_model.specs.declared.bases.Base.{Base}
use Rattle.ring_model.specs.Bases.{no_base, IsBase, shifted, is_quiet, shifted_survey as moved_survey, base_after}
use Rattle.ring_model.specs.Chains.{Segment, chain_history}
use Rattle.ring_model.proofs.Tallied.{few_grants, calm_few}
use Rattle.segment_files.specs.Sums.{capped}
use Rattle.segment_files.specs.Files.{File, Place, Link, segments_of, place_after, link_after, first_link, AreBases, AreStarts, IsShort, Follows, AreChainedAfter}
use Rattle.segment_files.proofs.Starts.{file_starts}
use Rattle.chain_readers.specs.Joining.{shifted_event, counted_survey, shifted_survey, with_segment, without_events, opened, extended, with_file, with_files, content_of, joined}
use Rattle.chain_readers.specs.JoinLaws.{JoinedIsLegal}
use Rattle.chain_readers.proofs.ShiftedEvents.{uncapped, events_move}
use Rattle.chain_readers.proofs.Continuing.{surveyed, whole_on, ring_on, base_on, survey_on, survey_kept}
use Rattle.chain_readers.proofs.Ordering.{Onward, Ordered, AtMost, Seats, onward_both, ordered_of, by_seats_onward, all_filter, all_both, all_by_seats, shifted_onward}

abbrev pub start_of : Block → Ring
start_of k = ring_with k.k k.start

-- a survey by one of the seats, which is right for a history
abbrev pub Right : Ring → List Event → SavedSurvey → Type 0
Right r h s = (s.seat < seat_limit) × IsSurvey till (opening r 0) h (survey_of s)

-- a block that is right except for the order of its surveys, which is right for each seat
pub record IsSound (place : ℕ) (k : Block) : Type 0 where
  pub index : k.index ≡ place
  pub long : length k.start ≡ k.n
  pub two : 2 ≤ k.n
  pub enough : k.n ≤ k.k
  pub most_machines : k.n ≤ machine_limit
  pub most : k.k ≤ value_limit
  pub below : All (λ v. v < k.k) k.start
  pub seats : All (λ (e : Event). e.seat < seat_limit) (history k)
  pub whole : IsHistory till (opening (start_of k) 0) (history k)
  pub said : k.events_said ≡ length k.events
  pub surveys : AllByRecursion (Right (start_of k) (history k)) k.surveys
  pub order : Ordered k.surveys

-- where its history ends
pub record Stands (k : Block) (b : Base) (r : Ring) : Type 0 where
  pub base : b ≡ base_after no_base (start_of k) (history k)
  pub ring : r ≡ (after till (opening (start_of k) 0) (history k)).ring

-- ---- a ring that is without_events

pub sound_begun : (version place : ℕ) (f : Block) → IsRightBlock version place f → length f.start ≡ f.n → IsSound place (without_events f)
sound_begun version place f h long =
    let machines = h.most_machines in
    let values = h.most in
    record {
      index = h.index;
      long = long;
      two = h.two;
      enough = h.enough;
      most_machines = omega (arith, machines, machine_limit_most version);
      most = omega (arith, values, value_limit_most version);
      below = h.below;
      seats = All-nil (λ (e : Event). e.seat < seat_limit);
      whole = (tt, whole_none (length f.start));
      said = refl;
      surveys = tt;
      order = λ seat. tt;
    }

pub stands_begun : (f : Block) → Stands (without_events f) no_base (start_of f)
stands_begun f = record { base = refl; ring = refl }

-- ---- a ring with its next segment

-- the calm counts events
calm_within : (r : Ring) (h : List Event) (v : Survey) → IsSurvey till (opening r 0) h v → v.calm ≤ length h
calm_within r h v i =
    let c : v.calm ≡ calm (take v.position h) = ap (λ (s : Survey). s.calm) i.1 in
    let few = calm_few (take v.position h) in
    let grants = few_grants (take v.position h) in
    let long = length-take v.position h in
    let at = i.0 in
    omega (arith, c, few, grants, long, at)

mapped : (P Q : SavedSurvey → Type 0) → ((s : SavedSurvey) → P s → Q s) → (ss : List SavedSurvey) → AllByRecursion P ss → AllByRecursion Q ss
mapped P Q on [] a = tt
mapped P Q on (s ∷ ss) a = (on s a.0, mapped P Q on ss a.1)

moved : (P Q : SavedSurvey → Type 0) (g : SavedSurvey → SavedSurvey) → ((s : SavedSurvey) → P s → Q (g s)) → (ss : List SavedSurvey) → AllByRecursion P ss → AllByRecursion Q (map g ss)
moved P Q g on [] a = tt
moved P Q g on (s ∷ ss) a = (on s a.0, moved P Q g on ss a.1)

pub to_recursion : {X : Type 0} (P : X → Type 0) (xs : List X) → All P xs → AllByRecursion P xs
to_recursion P [] a = tt
to_recursion P (x ∷ xs) a = (All-head P x xs a, to_recursion P xs (All-tail P x xs a))

module _ (version place : ℕ) (k f : Block) (b : Base) (sound : IsSound place k) (stands : Stands k b (start_of f)) (right : IsRightBlock version place f) (short : IsShort f) (room : IsBase b) where
  abbrev next : List Event
  next = history f

  whole_next : IsHistory till (opening ((after till (opening (start_of k) 0) (history k)).ring) 0) next
  whole_next = subst (λ (x : Ring). IsHistory till (opening x 0) next) stands.ring right.legal_and_whole

  long_next : length next ≡ length f.events
  long_next = length-map f.events event_of

  abbrev grown : Block
  grown = with_segment k b f

  abbrev on : List Event
  on = history k ++ shifted (base_after no_base (start_of k) (history k)) next

  room_for : b.grants + (0 + length f.events) ≤ 2 ^ 64 - 1
  room_for = let r = room.room in let g = room.grants in omega (arith, r, g, short)

  pub events_more : history grown ≡ history k ++ shifted b next
  events_more =
      map-append event_of k.events (map (shifted_event b) f.events)
      ∙ ap (λ (x : List Event). history k ++ x) (events_move b (opening (start_of f) 0) f.events room_for right.legal_and_whole.0)

  events_are : history grown ≡ on
  events_are = events_more ∙ ap (λ (x : Base). history k ++ shifted x next) stands.base

  seats_next : All (λ (e : Event). e.seat < seat_limit) on
  seats_next = All-append (λ (e : Event). e.seat < seat_limit) (history k) (shifted (base_after no_base (start_of k) (history k)) next) sound.seats
      (All-map (λ (e : Event). e.seat < seat_limit) _ next right.seats)

  kept : (s : SavedSurvey) → Right (start_of k) (history k) s → Right (start_of k) (history grown) s
  kept s h = (h.0, subst (λ (x : List Event). IsSurvey till (opening (start_of k) 0) x (survey_of s)) (sym events_are) (survey_kept (start_of k) (history k) sound.whole next whole_next (survey_of s) h.1))

  -- a survey of the segment needs no cap
  plain_calm : (q : Bool) (c : ℕ) → c ≤ event_limit → cond q (capped (b.calm + c)) c ≡ cond q (b.calm + c) c
  plain_calm true c le = let r = room.room in let g = room.grants in let m = room.calm in uncapped b.calm c (omega (arith, r, g, m, le))
  plain_calm false c le = refl

  plain : (s : SavedSurvey) → IsSurvey till (opening (start_of f) 0) next (survey_of s) → survey_of (shifted_survey b f.events s) ≡ moved_survey b (is_quiet (take s.position next)) (survey_of s)
  plain s i =
      let r = room.room in
      let within = i.0 in
      let calms = calm_within (start_of f) next (survey_of s) i in
      ap (λ (x : ℕ). surveyed (survey_of s) x (cond (is_quiet (take s.position next)) (capped (b.calm + s.calm)) s.calm)) (uncapped b.events s.position (omega (arith, r, within, long_next, short)))
      ∙ ap (λ (x : ℕ). surveyed (survey_of s) (b.events + s.position) x) (plain_calm (is_quiet (take s.position next)) s.calm (omega (arith, calms, long_next, short)))

  put : (s : SavedSurvey) → IsRightSurvey f s → Right (start_of k) (history grown) (shifted_survey b f.events s)
  put s h =
      let q : Bool = is_quiet (take s.position next) in
      let there : IsSurvey till (opening (after till (opening (start_of k) 0) (history k)).ring 0) next (survey_of s) = subst (λ (x : Ring). IsSurvey till (opening x 0) next (survey_of s)) stands.ring h.right in (
        h.seat,
        subst (λ (x : List Event). IsSurvey till (opening (start_of k) 0) x (survey_of (shifted_survey b f.events s))) (sym events_are)
            (subst (λ (v : Survey). IsSurvey till (opening (start_of k) 0) on v) (sym (plain s h.right ∙ ap (λ (x : Base). moved_survey x q (survey_of s)) stands.base))
            (survey_on (start_of k) (history k) sound.whole next whole_next (survey_of s) there)),
      )

  position_of : (s : SavedSurvey) → IsRightSurvey f s → (shifted_survey b f.events s).position ≡ b.events + s.position
  position_of s h = let r = room.room in let within = h.right.0 in uncapped b.events s.position (omega (arith, r, within, long_next, short))

  most_of : (s : SavedSurvey) → Right (start_of k) (history k) s → s.position ≤ b.events + 0
  most_of s h = let within = h.1.0 in let at = ap (λ (x : Base). x.events) stands.base in omega (arith, within, at)

  ordered : Ordered grown.surveys
  ordered seat =
      let surveys : AllByRecursion (IsRightSurvey f) f.surveys = to_recursion (IsRightSurvey f) f.surveys right.surveys in
      let before : AtMost (b.events + 0) k.surveys = mapped (Right (start_of k) (history k)) (λ s. s.position ≤ b.events + 0) most_of k.surveys sound.surveys in
      let more : Onward (b.events + 0) (filter (is_of seat) (map (shifted_survey b f.events) f.surveys)) =
      shifted_onward (shifted_survey b f.events) b.events seat 0 f.surveys (λ s. refl) (mapped (IsRightSurvey f) (λ s. (shifted_survey b f.events s).position ≡ b.events + s.position) position_of f.surveys surveys) (ordered_of f.surveys right.order seat) in
      subst (λ (u : List SavedSurvey). Onward 0 u) (sym (filter-append (is_of seat) k.surveys (map (shifted_survey b f.events) f.surveys)))
      (onward_both 0 (b.events + 0) (filter (is_of seat) k.surveys) (filter (is_of seat) (map (shifted_survey b f.events) f.surveys)) (omega arith) (all_filter (λ (s : SavedSurvey). s.position ≤ b.events + 0) (is_of seat) k.surveys before) (sound.order seat) more)

  sound_grown : IsSound place grown
  sound_grown =
      let both = length-append k.events (map (shifted_event b) f.events) in
      let same = length-map f.events (shifted_event b) in
      record {
        index = sound.index;
        long = sound.long;
        two = sound.two;
        enough = sound.enough;
        most_machines = sound.most_machines;
        most = sound.most;
        below = sound.below;
        seats = subst (λ (x : List Event). All (λ (e : Event). e.seat < seat_limit) x) (sym events_are) seats_next;
        whole = subst (λ (x : List Event). IsHistory till (opening (start_of k) 0) x) (sym events_are) (whole_on (start_of k) (history k) sound.whole next whole_next);
        said = omega (arith, both, same);
        surveys = all_both (Right (start_of k) (history grown)) k.surveys (map (shifted_survey b f.events) f.surveys)
            (mapped (Right (start_of k) (history k)) (Right (start_of k) (history grown)) kept k.surveys sound.surveys)
            (moved (IsRightSurvey f) (Right (start_of k) (history grown)) (shifted_survey b f.events) put f.surveys (to_recursion (IsRightSurvey f) f.surveys right.surveys));
        order = ordered;
      }

  stands_grown : Stands grown (base_after b (start_of f) next) (after till (opening (start_of f) 0) next).ring
  stands_grown = record {
    base = ap (λ (x : Base). base_after x (start_of f) next) stands.base
        ∙ ap (λ (x : Ring). base_after (base_after no_base (start_of k) (history k)) x next) stands.ring
        ∙ base_on (start_of k) (history k) sound.whole next whole_next
        ∙ ap (λ (x : List Event). base_after no_base (start_of k) x) (sym events_are);
    ring = ap (λ (x : Ring). (after till (opening x 0) next).ring) stands.ring
        ∙ ring_on (start_of k) (history k) sound.whole next whole_next
        ∙ ap (λ (x : List Event). (after till (opening (start_of k) 0) x).ring) (sym events_are);
  }

-- ---- all rings

-- the blocks are sound, and their histories end at these places
abbrev pub AreJoined : ℕ → List Block → List Place → Type 0
AreJoined place [] [] = Unit {0}
AreJoined place [] (p ∷ ps) = ⊥
AreJoined place (k ∷ ks) [] = ⊥
AreJoined place (k ∷ ks) (p ∷ ps) = IsSound place k × Stands k p.base p.ring × AreJoined (place + 1) ks ps

abbrev pub HasStart : Block → Type 0
HasStart k = length k.start ≡ k.n

pub no_base_is : IsBase no_base
no_base_is = record { room = omega arith; grants = omega arith; calm = omega arith }

joined_more : (version place : ℕ) (ks : List Block) (ps : List Place) (bs : List Base) (fs : List Block) → AreJoined place ks ps → length bs ≡ length fs → AreBases ps bs → AreStarts ps fs
    → AreRightBlocks version place fs → AllByRecursion HasStart fs → AllByRecursion IsShort fs → AreJoined place (extended (opened ks fs) bs fs) (map place_after (segments_of bs fs))
joined_more version place [] [] [] [] j e b s r h short = tt
joined_more version place [] [] [] (f ∷ fs) j e b s r h short = absurd (omega (arith, e))
joined_more version place [] [] (b ∷ bs) [] j e bases s r h short = absurd (omega (arith, e))
joined_more version place [] [] (b ∷ bs) (f ∷ fs) j e bases s r h short =
    let sound : IsSound place (without_events f) = sound_begun version place f r.0 h.0 in
    let stands : Stands (without_events f) b (start_of f) = subst (λ (x : Base). Stands (without_events f) x (start_of f)) (sym bases.0) (stands_begun f) in
    let room : IsBase b = subst IsBase (sym bases.0) no_base_is in (
      sound_grown version place (without_events f) f b sound stands r.0 short.0 room,
      stands_grown version place (without_events f) f b sound stands r.0 short.0 room,
      joined_more version (place + 1) [] [] bs fs tt (omega (arith, e)) bases.1 tt r.1 h.1 short.1,
    )
joined_more version place (k ∷ ks) [] bs fs j e b s r h short = absurd j
joined_more version place [] (p ∷ ps) bs fs j e b s r h short = absurd j
joined_more version place (k ∷ ks) (p ∷ ps) [] fs j e b s r h short = absurd b
joined_more version place (k ∷ ks) (p ∷ ps) (b ∷ bs) [] j e bases s r h short = absurd s
joined_more version place (k ∷ ks) (p ∷ ps) (b ∷ bs) (f ∷ fs) j e bases s r h short =
    let stands : Stands k b (start_of f) = subst (λ (x : Base). Stands k x (start_of f)) (sym bases.0) (subst (λ (x : Ring). Stands k p.base x) (sym s.0) j.1) in (
      sound_grown version place k f b j.0 stands r.0 short.0 bases.1,
      stands_grown version place k f b j.0 stands r.0 short.0 bases.1,
      joined_more version (place + 1) ks ps bs fs j.2 (omega (arith, e)) bases.2 s.1 r.1 h.1 short.1,
    )

pub file_more : (l : Link) (ks : List Block) (f : File) → AreJoined 0 ks l.places → Follows l f → AreJoined 0 (with_file ks f) (link_after f).places
file_more l ks f j h =
    let starts = file_starts f h.file in
    joined_more f.content.version 0 ks l.places f.head.bases f.content.rings j h.bases.rings h.bases.bases h.starts
    ((legal_means f.content starts).0 h.file.recovered.legal).blocks (to_recursion HasStart f.content.rings starts) h.short

files_joined : (l : Link) (ks : List Block) (fs : List File) → AreJoined 0 ks l.places → AreChainedAfter l fs → (ps : List Place) × AreJoined 0 (with_files ks fs) ps
files_joined l ks [] j a = (l.places, j)
files_joined l ks (f ∷ []) j a = ((link_after f).places, file_more l ks f j a)
files_joined l ks (f ∷ g ∷ fs) j a = files_joined (link_after f) (with_file ks f) (g ∷ fs) (file_more l ks f j a.0) a.2

-- ---- the whole text

right_block : (place : ℕ) (k : Block) → IsSound place k → IsRightBlock latest_version place (in_order k)
right_block place k h = record {
  index = h.index;
  two = h.two;
  enough = h.enough;
  most_machines = h.most_machines;
  most = h.most;
  below = h.below;
  seats = h.seats;
  legal_and_whole = h.whole;
  events_said = h.said;
  surveys = All-from_recursion (IsRightSurvey (in_order k)) (by_seats 0 seat_limit k.surveys)
      (all_by_seats (IsRightSurvey (in_order k)) seat_limit 0 k.surveys (mapped (Right (start_of k) (history k)) (IsRightSurvey (in_order k)) (λ s i. record { seat = i.0; right = i.1 }) k.surveys h.surveys));
  order = to_order (by_seats 0 seat_limit k.surveys) (by_seats_onward seat_limit k.surveys
      (mapped (Right (start_of k) (history k)) (λ s. (0 ≤ s.seat) × (s.seat < seat_limit)) (λ s i. (omega arith, i.0)) k.surveys h.surveys) h.order);
}

right_blocks : (place : ℕ) (ks : List Block) (ps : List Place) → AreJoined place ks ps → AreRightBlocks latest_version place (map in_order ks)
right_blocks place [] [] j = tt
right_blocks place [] (p ∷ ps) j = absurd j
right_blocks place (k ∷ ks) [] j = absurd j
right_blocks place (k ∷ ks) (p ∷ ps) j = (right_block place k j.0, right_blocks (place + 1) ks ps j.2)

have_starts : (place : ℕ) (ks : List Block) (ps : List Place) → AreJoined place ks ps → AllByRecursion HasStart (map in_order ks)
have_starts place [] [] j = tt
have_starts place [] (p ∷ ps) j = absurd j
have_starts place (k ∷ ks) [] j = absurd j
have_starts place (k ∷ ks) (p ∷ ps) j = (j.0.long, have_starts (place + 1) ks ps j.2)

pub joined_is_legal : JoinedIsLegal
joined_is_legal fs a =
    let ks : List Block = with_files [] fs in
    let j = files_joined first_link [] fs tt a in
    let starts : HasItsStarts (joined fs) = All-from_recursion HasStart (map in_order ks) (have_starts 0 ks j.0 j.1) in
    (legal_means (joined fs) starts).1 (record { blocks = right_blocks 0 ks j.0 j.1; rings_said = sym (length-map ks in_order) })
