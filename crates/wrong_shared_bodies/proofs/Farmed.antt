-- Spoiled outcomes of a farm.
use Rattle.std.proofs.Common.{◌≡◌, ℕ, ◌+◌, ◌-◌, ◌<◌, ◌≤◌, List, [], ◌∷◌, ◌++◌, length, Some, slice_get, refl, ap, sym, ◌∙◌, arith, length-append, eqb, eq-eqb, true}
use Rattle.std.proofs.lemmas.List.{map-append, length-map}
use Rattle.std.proofs.lemmas.List.Elements.{filter-append}
use Rattle.std.proofs.lemmas.Option.{slice_get-get_or, unwrap_or-slice_get}
use Rattle.ring_model.specs.Ring.{Ring}
use Rattle.ring_model.specs.Logs.{calls_of}
use Rattle.ring_model.specs.declared.events.Op.{Op}
use Rattle.ring_model.specs.declared.events.Op.TheVariants.{Pass, Member, Corrupt}
use Rattle.ring_model.specs.declared.events.Event.{Event}
use Rattle.ring_model.specs.declared.events.Receipt.{Receipt}
use Rattle.ring_model.specs.declared.events.Survey.{Survey}
use Rattle.ring_model.specs.declared.events.Entry.{Entry}
use Rattle.ring_model.specs.declared.events.Entry.TheVariants as entry
use Rattle.ring_settings.specs.Contents.{SettingsData, RingData, plan_of, ring_at}
use Rattle.ring_settings.specs.declared.actions.Action.TheVariants as action
use Rattle.ring_shared.specs.Log.{Log}
use Rattle.ring_farm.specs.RingOutcome.{RingOutcome}
use Rattle.ring_farm.specs.Headline.{IsFarmRing, IsFarmOf}
use Rattle.ring_farm.specs.declared.outcomes.Outcome.{Outcome}
use Rattle.ring_farm.specs.Plans.{action_of_op, action_of, actions_of, calls_read, planned}
use Rattle.wrong_shared_bodies.proofs.Ends.{last_of, before_last, behind_it, same_last}

-- a ring's history holds no call more
pub call_more : (settings : SettingsData) (i : ℕ) (d : RingData) (r s : RingOutcome) (e : Event) → 1 ≤ length settings.seats → IsFarmRing settings i d r → IsFarmRing settings i d s →
    s.book.history ≡ r.book.history ++ e ∷ [] → e.seat ≡ 0 → ⊥
call_more settings i d r s e some a b grown seat =
    let mine = a.calls.1 0 (omega (arith, some)) in
    let yours = b.calls.1 0 (omega (arith, some)) in
    let t : eqb e.seat 0 ≡ true = eq-eqb e.seat 0 seat in
    let one : length (calls_of 0 (e ∷ [])) ≡ 1 = rw t refl in
    let split : calls_of 0 s.book.history ≡ calls_of 0 r.book.history ++ calls_of 0 (e ∷ []) =
    ap (λ (x : List Event). calls_of 0 x) grown ∙ filter-append (λ (x : Event). eqb x.seat 0) r.book.history (e ∷ []) in
    let same : length (calls_read i (calls_of 0 r.book.history)) ≡ length (calls_read i (calls_of 0 s.book.history)) = ap (λ xs. length xs) (mine ∙ sym yours) in
    omega (
      arith,
      same,
      one,
      ap (λ (x : List Event). length x) split,
      length-append (calls_of 0 r.book.history) (calls_of 0 (e ∷ [])),
      length-map (calls_of 0 r.book.history) (λ (x : Event). action_of_op i x.op),
      length-map (calls_of 0 s.book.history) (λ (x : Event). action_of_op i x.op),
    )

-- the last logs of two outcomes of one ring read alike
alike : (settings : SettingsData) (i : ℕ) (d : RingData) (r s : RingOutcome) (front : List Log) (l m : Log) → IsFarmRing settings i d r → IsFarmRing settings i d s →
    r.logs.items ≡ front ++ l ∷ [] → s.logs.items ≡ front ++ m ∷ [] → actions_of i l.entries.items ≡ actions_of i m.entries.items
alike settings i d r s front l m a b p q =
    (a.logs.each (length front) l (last_of r.logs.items front l p)).1 ∙ sym (b.logs.each (length front) m (last_of s.logs.items front m q)).1

-- so they are as long as each other
pub as_long : (settings : SettingsData) (i : ℕ) (d : RingData) (r s : RingOutcome) (front : List Log) (l m : Log) → IsFarmRing settings i d r → IsFarmRing settings i d s →
    r.logs.items ≡ front ++ l ∷ [] → s.logs.items ≡ front ++ m ∷ [] → length l.entries.items ≡ length m.entries.items
as_long settings i d r s front l m a b p q =
    omega (arith, ap (λ xs. length xs) (alike settings i d r s front l m a b p q), length-map l.entries.items (action_of i), length-map m.entries.items (action_of i))

no_survey : (ring : ℕ) (o : Op) → action_of_op ring o ≡ Some (action.Survey ring) → ⊥
no_survey ring (Pass machine order) e = cc (e)
no_survey ring (Member machine order left) e = cc (e)
no_survey ring (Corrupt machine value) e = cc (e)

-- and end with the same action
pub ends_alike : (settings : SettingsData) (i : ℕ) (d : RingData) (r s : RingOutcome) (front : List Log) (l m : Log) (xs ys : List Entry) (q : Receipt) (v : Survey) →
    IsFarmRing settings i d r → IsFarmRing settings i d s → r.logs.items ≡ front ++ l ∷ [] → s.logs.items ≡ front ++ m ∷ [] →
    l.entries.items ≡ xs ++ entry.Survey v ∷ [] → m.entries.items ≡ ys ++ entry.Receipt q ∷ [] → ⊥
ends_alike settings i d r s front l m xs ys q v a b p o x y =
    let mine : actions_of i l.entries.items ≡ actions_of i xs ++ action_of i (entry.Survey v) ∷ [] =
    ap (λ (es : List Entry). actions_of i es) x ∙ map-append (action_of i) xs (entry.Survey v ∷ []) in
    let yours : actions_of i m.entries.items ≡ actions_of i ys ++ action_of i (entry.Receipt q) ∷ [] =
    ap (λ (es : List Entry). actions_of i es) y ∙ map-append (action_of i) ys (entry.Receipt q ∷ []) in
    let last : action_of i (entry.Survey v) ≡ action_of i (entry.Receipt q) =
    same_last (actions_of i xs) (actions_of i ys) (action_of i (entry.Survey v)) (action_of i (entry.Receipt q)) (sym mine ∙ (alike settings i d r s front l m a b p o ∙ yours)) in
    no_survey i q.event.op (sym last)

-- the last two logs are in their order
pub logs_in_order : (settings : SettingsData) (i : ℕ) (d : RingData) (r s : RingOutcome) (front : List Log) (l m : Log) → IsFarmRing settings i d r → IsFarmRing settings i d s →
    r.logs.items ≡ (front ++ l ∷ []) ++ m ∷ [] → s.logs.items ≡ (front ++ m ∷ []) ++ l ∷ [] → ⊥
logs_in_order settings i d r s front l m a b p q =
    omega (arith, (a.logs.each (length front) l (before_last r.logs.items front l m p)).0, (b.logs.each (length front + 1) l (behind_it s.logs.items front m l q)).0)

-- with the plans of their numbers
pub own_plans : (settings : SettingsData) (i : ℕ) (d : RingData) (r s : RingOutcome) (front : List Log) (l m x y : Log) → IsFarmRing settings i d r → IsFarmRing settings i d s →
    r.logs.items ≡ (front ++ l ∷ []) ++ m ∷ [] → s.logs.items ≡ (front ++ x ∷ []) ++ y ∷ [] → x.entries.items ≡ m.entries.items →
    planned i (plan_of settings (length settings.seats - 2)) ≡ planned i (plan_of settings (length settings.seats - 1))
own_plans settings i d r s front l m x y a b p q same =
    let n : length settings.seats ≡ length front + 2 =
    omega (arith, a.logs.count, ap (λ (k : List Log). length k) p, length-append (front ++ l ∷ []) (m ∷ []), length-append front (l ∷ [])) in
    let first : length settings.seats - 2 ≡ length front = omega (arith, n) in
    let second : length settings.seats - 1 ≡ length front + 1 = omega (arith, n) in
    let mine = (a.logs.each (length front + 1) m (behind_it r.logs.items front l m p)).1 in
    let yours = (b.logs.each (length front) x (before_last s.logs.items front x y q)).1 in
    ap (λ (k : ℕ). planned i (plan_of settings k)) first ∙ (sym yours ∙ (ap (λ (es : List Entry). actions_of i es) same ∙ (mine ∙ ap (λ (k : ℕ). planned i (plan_of settings k)) (sym second))))

-- one outcome is of rings that start alike
pub starts_alike : (settings : SettingsData) (i j : ℕ) (d e : RingData) (r : RingOutcome) → IsFarmRing settings i d r → IsFarmRing settings j e r → d.start ≡ e.start
starts_alike settings i j d e r a b = ap (λ (x : Ring). x.values) (sym a.one_history.0 ∙ b.one_history.0)

-- the settings say each of their rings
ring_there : (settings : SettingsData) (i : ℕ) → i < length settings.rings → slice_get settings.rings i ≡ Some (ring_at settings i)
ring_there settings i lt =
    let none : RingData = record { size = record { n = 0; k = 0 }; start = [] } in
    slice_get-get_or settings.rings i none lt ∙ ap Some (sym (unwrap_or-slice_get settings.rings i none))

-- outcomes with the last two exchanged are those of rings that start alike
pub rings_swapped : (settings : SettingsData) (o u : Outcome) (front : List RingOutcome) (r s : RingOutcome) → IsFarmOf settings o → IsFarmOf settings u →
    o.rings.items ≡ (front ++ r ∷ []) ++ s ∷ [] → u.rings.items ≡ (front ++ s ∷ []) ++ r ∷ [] →
    (ring_at settings (length settings.rings - 2)).start ≡ (ring_at settings (length settings.rings - 1)).start
rings_swapped settings o u front r s a b p q =
    let n : length settings.rings ≡ length front + 2 =
    omega (arith, a.count, ap (λ (k : List RingOutcome). length k) p, length-append (front ++ r ∷ []) (s ∷ []), length-append front (r ∷ [])) in
    let first : length settings.rings - 2 ≡ length front = omega (arith, n) in
    let second : length settings.rings - 1 ≡ length front + 1 = omega (arith, n) in
    let mine = a.rings (length front) (ring_at settings (length front)) r (ring_there settings (length front) (omega (arith, n))) (before_last o.rings.items front r s p) in
    let yours = b.rings (length front + 1) (ring_at settings (length front + 1)) r (ring_there settings (length front + 1) (omega (arith, n))) (behind_it u.rings.items front s r q) in
    ap (λ (k : ℕ). (ring_at settings k).start) first
    ∙ (starts_alike settings (length front) (length front + 1) (ring_at settings (length front)) (ring_at settings (length front + 1)) r mine yours
    ∙ ap (λ (k : ℕ). (ring_at settings k).start) (sym second))
