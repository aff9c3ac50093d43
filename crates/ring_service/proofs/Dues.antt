-- The lines of segments, counted; and whether a segment is due after a line.
use Rattle.std.proofs.Common.{◌≡◌, ℕ, zero, suc, ◌+◌, ◌<◌, ◌≤◌, Bool, true, false, cond, ◌||◌, List, [], ◌∷◌, ◌++◌, length, map, min, Option, None, Some, slice_get, slice_set, get_or, set, refl, sym, ap, subst, ◌∙◌, ◌⊎◌, inl, inr, arith, length-append, nat_le}
use Rattle.std.specs.List.{AllByRecursion}
use Rattle.std.proofs.Math.Nat.{min-eq_left, min-eq_right}
use Rattle.std.proofs.lemmas.List.Sums.{sum_by-cons, sum_by-append, sum_by-set, sum_by_push}
use Rattle.std.proofs.lemmas.Bool.{cases_lt, le-leb, or_parts}
use Rattle.ring_model.specs.declared.events.Event.{Event}
use Rattle.ring_model.specs.declared.events.Entry.{Entry}
use Rattle.ring_model.specs.declared.events.Entry.TheVariants as entry
use Rattle.ring_model.specs.declared.events.Survey.{Survey}
use Rattle.ring_logs.specs.LogView.{LogView}
use Rattle.ring_logs.specs.Seats.{receipts_from}
use Rattle.one_thread_ring.specs.Counts.{is_survey, survey_count}
use Rattle.one_thread_ring.specs.Rings.{told_more, grown}
use Rattle.endless_ring.specs.Endless.{EndlessView}
use Rattle.ring_service.specs.Commands.{Command, ring_of}
use Rattle.ring_service.specs.Standings.{Standing, standing_of, with_events, with_survey, survey_now, AreRight}
use Rattle.ring_service.specs.Saved.{IsRight}
use Rattle.ring_service.specs.Totals.{surveys_among}
use Rattle.ring_service.specs.Due.{lines_in, lines_of, is_short, has_short, is_due, is_short_at, is_due_at, lines_recorded}
use Rattle.ring_service.specs.declared.turns.CallAnswer.{CallAnswer}
use Rattle.ring_service.specs.Turns.{Turn, turn_of, turn_among, turn_at, turn_seen_among, recorded_among, IsTurn}
use Rattle.ring_service.proofs.Legality.{all_right}
use Rattle.ring_service.proofs.Effects.{EffectAmong, Grew, Looked, call_effect}

-- ---- numbers that are counted up to a most

capped_sum : (most a more : ℕ) → min (min a most + more) most ≡ min (a + more) most
capped_sum most a more = elim (cases_lt most a) [
  | inl l ↦
      let full : min a most ≡ most = min-eq_right (omega (arith, l)) in
      ap (λ (n : ℕ). min (n + more) most) full ∙ (min-eq_right {n = most} {m = most + more} (omega arith) ∙ sym (min-eq_right {n = most} {m = a + more} (omega (arith, l))))
  | inr l ↦ ap (λ (n : ℕ). min (n + more) most) (min-eq_left l)
]

le_capped : (limit a most : ℕ) → limit ≤ most → nat_le limit (min a most) ≡ nat_le limit a
le_capped limit a most few = elim (cases_lt most a) [
  | inl l ↦ ap (λ (n : ℕ). nat_le limit n) (min-eq_right {n = most} {m = a} (omega (arith, l))) ∙ (le-leb limit most few ∙ sym (le-leb limit a (omega (arith, few, l))))
  | inr l ↦ ap (λ (n : ℕ). nat_le limit n) (min-eq_left l)
]

pub none_counted : (r : Standing) (events most : ℕ) → events ≡ length r.history → most ≤ surveys_among r.clients → most ≡ min (lines_in r) most
none_counted r events most e many = sym (min-eq_right {n = most} {m = lines_in r} (omega (arith, many)))

-- ---- the lines of one ring

receipts_count : (position : ℕ) (es : List Event) → survey_count (receipts_from position es) ≡ 0
receipts_count position [] = refl
receipts_count position (e ∷ es) =
    let step : survey_count (receipts_from position (e ∷ es)) ≡ 0 + survey_count (receipts_from (position + 1) es) =
    sum_by-cons (λ (x : Entry). cond (is_survey x) 1 0) (entry.Receipt (record { position = position; event = e })) (receipts_from (position + 1) es) in
    let rest = receipts_count (position + 1) es in
    omega (arith, step, rest)

told_count : (cs : List LogView) (seat : ℕ) (es : List Entry) → seat < length cs → surveys_among (told_more cs seat es) ≡ surveys_among cs + survey_count es
told_count cs seat es within =
    let d : LogView = record { number = seat; log = [] } in
    let was : LogView = get_or cs seat d in
    let more : survey_count (was.log ++ es) ≡ survey_count was.log + survey_count es = sum_by-append (λ (x : Entry). cond (is_survey x) 1 0) was.log es in
    let all : surveys_among (set cs seat (grown was es)) + survey_count was.log ≡ surveys_among cs + survey_count (was.log ++ es) = sum_by-set (λ (c : LogView). survey_count c.log) cs seat (grown was es) d within in
    omega (arith, more, all)

grew_lines : (r : Standing) (seat : ℕ) (es : List Event) → seat < length r.clients → lines_in (with_events r seat es) ≡ lines_in r + length es
grew_lines r seat es within =
    let size = length-append r.history es in
    let told : surveys_among (told_more r.clients seat (receipts_from (length r.history) es)) ≡ surveys_among r.clients + survey_count (receipts_from (length r.history) es) = told_count r.clients seat (receipts_from (length r.history) es) within in
    let none = receipts_count (length r.history) es in
    omega (arith, size, told, none)

looked_lines : (r : Standing) (seat : ℕ) (s : Survey) → seat < length r.clients → lines_in (with_survey r seat s) ≡ lines_in r + 1
looked_lines r seat s within =
    let told : surveys_among (told_more r.clients seat (entry.Survey s ∷ [])) ≡ surveys_among r.clients + survey_count (entry.Survey s ∷ []) = told_count r.clients seat (entry.Survey s ∷ []) within in
    let one : survey_count (entry.Survey s ∷ []) ≡ 1 = refl in
    omega (arith, told, one)

-- ---- those of all rings

lines_cons : (r : Standing) (rs : List Standing) → lines_of (r ∷ rs) ≡ lines_in r + lines_of rs
lines_cons r rs = sum_by-cons lines_in r rs

some_one : {X : Type 0} (x y : X) → Some x ≡ Some y → x ≡ y
some_one x y e = cc

some_none : {X : Type 0} (x : X) → None ≡ Some x → ⊥
some_none x e = cc

set_lines : (rings : List Standing) (i : ℕ) (was is : Standing) → slice_get rings i ≡ Some was → lines_of (slice_set rings i is) + lines_in was ≡ lines_of rings + lines_in is
set_lines [] i was is e = absurd (some_none was e)
set_lines (r ∷ rs) zero was is e =
    let a = lines_cons r rs in
    let b = lines_cons is rs in
    let c : lines_in r ≡ lines_in was = ap lines_in (some_one r was e) in
    omega (arith, a, b, c)
set_lines (r ∷ rs) (suc i) was is e =
    let a = lines_cons r rs in
    let b = lines_cons r (slice_set rs i is) in
    let c = set_lines rs i was is e in
    omega (arith, a, b, c)

effect_lines : (rings : List Standing) (turn : Turn (List Standing)) → EffectAmong rings turn → lines_of turn.leaves ≡ lines_of rings + lines_recorded turn.recorded
effect_lines rings turn (inl kept) =
    let a : lines_of turn.leaves ≡ lines_of rings = ap lines_of kept.1 in
    let b : lines_recorded turn.recorded ≡ 0 = ap lines_recorded kept.0 in
    omega (arith, a, b)
effect_lines rings turn (inr c) =
    let all : lines_of turn.leaves ≡ lines_of (slice_set rings c.ring c.one.leaves) = ap lines_of c.leaves in
    let said : lines_recorded turn.recorded ≡ lines_recorded c.one.recorded = ap lines_recorded c.recorded in
    let moved = set_lines rings c.ring c.was c.one.leaves c.there in
    let one = changed c.ring c.was c.one c.effect in
    omega (arith, all, said, moved, one)
  where
    changed : (ring : ℕ) (was : Standing) (one : Turn Standing) → Grew ring was one ⊎ Looked ring was one → lines_in one.leaves ≡ lines_in was + lines_recorded one.recorded
    changed ring was one (inl g) =
        let a : lines_in one.leaves ≡ lines_in (with_events was g.seat g.es) = ap lines_in g.leaves in
        let b : lines_recorded one.recorded ≡ length g.es + 0 = ap lines_recorded g.recorded in
        let c = grew_lines was g.seat g.es g.within in
        omega (arith, a, b, c)
    changed ring was one (inr l) =
        let a = ap lines_in l.leaves in
        let b : lines_recorded one.recorded ≡ 1 + 0 = ap lines_recorded l.recorded in
        let c = looked_lines was l.seat (survey_now was) l.within in
        omega (arith, a, b, c)

-- the rings stay counted
pub call_counted : (most : ℕ) (old new : List EndlessView) (command : Command) (m : CallAnswer) (count more : ℕ) → AreRight old → count ≡ min (lines_of (map standing_of old)) most →
    IsTurn (map standing_of old) command (turn_seen_among (ring_of command) (map standing_of new) m) → more ≡ lines_recorded (recorded_among (ring_of command) (map standing_of new) m.trace) →
    min (count + more) most ≡ min (lines_of (map standing_of new)) most
call_counted most old new command m count more right is turn noted =
    let all : AllByRecursion IsRight (map standing_of old) = all_right old right in
    let sum : lines_of (map standing_of new) ≡ lines_of (map standing_of old) + lines_recorded (recorded_among (ring_of command) (map standing_of new) m.trace) =
    effect_lines (map standing_of old) (turn_seen_among (ring_of command) (map standing_of new) m) (call_effect (map standing_of old) command (turn_seen_among (ring_of command) (map standing_of new) m) all turn) in
    ap (λ (n : ℕ). min (n + more) most) is
    ∙ (capped_sum most (lines_of (map standing_of old)) more
    ∙ ap (λ (n : ℕ). min n most) (ap (λ (n : ℕ). lines_of (map standing_of old) + n) noted ∙ sym sum))

pub ring_counted : (most : ℕ) (old new : List Standing) (r : Standing) (count more : ℕ) → count ≡ min (lines_of old) most → more ≡ min (lines_in r) most → new ≡ old ++ r ∷ [] → min (count + more) most ≡ min (lines_of new) most
ring_counted most old new r count more a b e =
    let sum : lines_of new ≡ lines_of old + lines_in r = ap lines_of e ∙ sum_by_push lines_in old r in
    ap (λ (n : ℕ). min (n + more) most) a
    ∙ (capped_sum most (lines_of old) more
    ∙ (ap (λ (n : ℕ). min (lines_of old + n) most) b
    ∙ (flip ∙ ap (λ (n : ℕ). min n most) (sym sum))))
  where
    swap : (x y : ℕ) → x + y ≡ y + x
    swap x y = omega arith

    flip : min (lines_of old + min (lines_in r) most) most ≡ min (lines_of old + lines_in r) most
    flip =
        ap (λ (n : ℕ). min n most) (swap (lines_of old) (min (lines_in r) most))
        ∙ (capped_sum most (lines_in r) (lines_of old) ∙ ap (λ (n : ℕ). min n most) (swap (lines_in r) (lines_of old)))

-- ---- due after a line

or_nothing : (x y : Bool) → y ≡ false → (x || y) ≡ x
or_nothing true y e = refl
or_nothing false y e = e

none_short : (rings : List Standing) (i : ℕ) → has_short rings ≡ false → is_short_at (slice_get rings i) ≡ false
none_short [] i e = refl
none_short (r ∷ rs) zero e = (or_parts (is_short r) (has_short rs) e).0
none_short (r ∷ rs) (suc i) e = none_short rs i (or_parts (is_short r) (has_short rs) e).1

set_short : (rings : List Standing) (i : ℕ) (is : Standing) → has_short rings ≡ false → has_short (slice_set rings i is) ≡ is_short_at (slice_get (slice_set rings i is) i)
set_short [] i is e = refl
set_short (r ∷ rs) zero is e = or_nothing (is_short is) (has_short rs) (or_parts (is_short r) (has_short rs) e).1
set_short (r ∷ rs) (suc i) is e =
    ap (λ (b : Bool). b || has_short (slice_set rs i is)) (or_parts (is_short r) (has_short rs) e).0 ∙ set_short rs i is (or_parts (is_short r) (has_short rs) e).1

-- a line that changes nothing
pub still_due : (limit : ℕ) (rings : List Standing) (i : ℕ) → is_due (Some limit) rings ≡ false → is_due (Some limit) rings ≡ is_due_at (Some limit) rings i
still_due limit rings i e =
    let parts = or_parts (nat_le limit (lines_of rings)) (has_short rings) e in
    ap (λ (b : Bool). nat_le limit (lines_of rings) || b) (parts.1 ∙ sym (none_short rings i parts.1))

short_after : (rings : List Standing) (command : Command) (x : Option Standing) → has_short rings ≡ false → has_short (turn_among rings command x).leaves ≡ is_short_at (slice_get (turn_among rings command x).leaves (ring_of command))
short_after rings command None e = e ∙ sym (none_short rings (ring_of command) e)
short_after rings command (Some r) e = set_short rings (ring_of command) (turn_at r command).leaves e

pub call_due : (limit : ℕ) (rings : List Standing) (command : Command) (new : List Standing) (m : CallAnswer) → IsTurn rings command (turn_seen_among (ring_of command) new m) → is_due (Some limit) rings ≡ false →
    is_due (Some limit) new ≡ is_due_at (Some limit) new (ring_of command)
call_due limit rings command new m (inl t) e =
    let leaves : new ≡ (turn_of rings command).leaves = ap (λ (x : Turn (List Standing)). x.leaves) t in
    let parts = or_parts (nat_le limit (lines_of rings)) (has_short rings) e in
    let short = short_after rings command (slice_get rings (ring_of command)) parts.1 in
    ap (λ (b : Bool). nat_le limit (lines_of new) || b) (subst (λ (x : List Standing). has_short x ≡ is_short_at (slice_get x (ring_of command))) (sym leaves) short)
call_due limit rings command new m (inr t) e =
    let leaves : new ≡ rings = ap (λ (x : Turn (List Standing)). x.leaves) t in
    subst (λ (x : List Standing). is_due (Some limit) x ≡ is_due_at (Some limit) x (ring_of command)) (sym leaves) (still_due limit rings (ring_of command) e)

-- whether the count says so
pub due_counted : (limit most count : ℕ) (rings : List Standing) (short : Bool) → limit ≤ most → count ≡ min (lines_of rings) most → (nat_le limit count || short) ≡ (nat_le limit (lines_of rings) || short)
due_counted limit most count rings short few is = ap (λ (b : Bool). b || short) (ap (λ (n : ℕ). nat_le limit n) is ∙ le_capped limit (lines_of rings) most few)

-- ---- a list of rings of which one is short

pub short_at : (rings : List EndlessView) (i : ℕ) (e : EndlessView) → slice_get (map standing_of rings) i ≡ Some (standing_of e) → is_short_at (slice_get (map standing_of rings) i) ≡ is_short (standing_of e)
short_at rings i e is = ap is_short_at is
