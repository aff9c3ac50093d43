-- The waiting clients, over one pass more.
use Rattle.std.proofs.Common.{◌≡◌, ℕ, suc, ◌+◌, ◌<◌, ◌≤◌, ◌≢◌, Bool, true, false, List, [], ◌∷◌, ◌++◌, length, get_or, set, take, drop, refl, sym, ◌∙◌, ap, subst, inl, inr, arith}
use Rattle.std.specs.Prelude.{◌⊎◌, Option, Some, None, slice_get, slice_set}
use mathlib.Core.List.{IsPrefix}
use Rattle.std.proofs.lemmas.Bool.{cases_eq, cases_lt, ne_eqb, both_ways}
use Rattle.std.proofs.lemmas.List.{length-set, length-append, get_or-set_same, get_or-set_other, take-append-le, take_all, take-append-drop, drop_all, drop-append-le}
use Rattle.std.proofs.lemmas.Option.{slice_get_past, slice_get_within, slice_get-get_or}
use Rattle.std.proofs.Math.Seq.{drop-cons}
use Rattle.ring_model.specs.Numbers.{bit}
use Rattle.ring_model.specs.Ring.{IsRing, is_privileged, first_privileged}
use Rattle.ring_model.specs.History.{Works, State, StepOf, next, after, IsLegal}
use Rattle.ring_model.specs.Surveys.{is_granted}
use Rattle.ring_model.proofs.Histories.{IsLegal-front, legal_step}
use Rattle.ring_model.proofs.Places.{front_legal, kept_after}
use Rattle.ring_model.proofs.Meaning.{some_privileged}
use Rattle.ring_model.specs.Grants.{is_grant_of, grants_of}
use Rattle.ring_model.specs.HistoryLaws.{between, NoCorruption}
use Rattle.ring_model.specs.declared.events.Event.{Event}
use Rattle.ring_model.specs.declared.events.Op.{Op}
use Rattle.ring_model.specs.declared.events.Op.TheVariants.{Pass, Corrupt}
use Rattle.ring_model.specs.declared.events.Reply.{Reply}
use Rattle.ring_model.specs.declared.events.Reply.TheVariants.{Granted, NotPrivileged, Corrupted}
use Rattle.ring_model.proofs.Suffixes.{count_events-push}
use Rattle.ring_model.proofs.Progress.{history_progress}
use Rattle.ring_shared.proofs.Prefixes.{prefix_take}
use Rattle.ring_turns.specs.Waiting.{AreWaiting, HasLeft, HasWaited}

-- the value in an option

abbrev value_or : {X : Type 0} → X → Option X → X
value_or d None = d
value_or d (Some x) = x

abbrev has_value : {X : Type 0} → Option X → Bool
has_value None = false
has_value (Some x) = true

some-injective : {X : Type 0} (x y : X) → Some x ≡ Some y → x ≡ y
some-injective x y e = ap (value_or x) e

none_some : (p : ℕ) → None ≡ Some p → ⊥
none_some p e = both_ways false refl (ap has_value e)

-- a read after a write gives the written value, or the one that was there
pub get_set : (xs : List (Option ℕ)) (i k p : ℕ) (v : Option ℕ) → slice_get (slice_set xs k v) i ≡ Some (Some p) →
    ((i ≡ k) × (v ≡ Some p)) ⊎ (slice_get xs i ≡ Some (Some p))
get_set xs i k p v h =
    let l : i < length (set xs k v) = slice_get_within (set xs k v) i (Some p) h in
    let n : length (set xs k v) ≡ length xs = length-set xs k v in
    let read : slice_get (set xs k v) i ≡ Some (get_or (set xs k v) i v) = slice_get-get_or (set xs k v) i v l in
    let is : get_or (set xs k v) i v ≡ Some p = some-injective (get_or (set xs k v) i v) (Some p) (sym read ∙ h) in
    elim (cases_eq i k) [
      | inl at ↦ inl (at, sym (get_or-set_same xs k v v (omega arith)) ∙ (ap (λ (x : ℕ). get_or (set xs k v) x v) (sym at) ∙ is))
      | inr ne ↦ inr (slice_get-get_or xs i v (omega arith) ∙ ap (λ (x : Option ℕ). Some x) (sym (get_or-set_other xs k i v v ne) ∙ is))
    ]

-- a write to another place changes no read
set_other : (xs : List (Option ℕ)) (i k : ℕ) (v : Option ℕ) → i ≢ k → slice_get (slice_set xs k v) i ≡ slice_get xs i
set_other xs i k v ne =
    let n : length (set xs k v) ≡ length xs = length-set xs k v in
    elim (cases_lt i (length xs)) [
      | inr past ↦ slice_get_past (set xs k v) i (omega (arith, n, past)) ∙ sym (slice_get_past xs i past)
      | inl within ↦
          slice_get-get_or (set xs k v) i v (omega (arith, n, within))
          ∙ (ap (λ (x : Option ℕ). Some x) (get_or-set_other xs k i v v ne) ∙ sym (slice_get-get_or xs i v within))
    ]

pub asks : (waits : List (Option ℕ)) (h : List Event) (client : ℕ) → AreWaiting waits h → AreWaiting (slice_set waits client (Some (length h))) h
asks waits h client kept i p e = elim (get_set waits i client p (Some (length h)) e) [
  | inr there ↦ kept i p there
  | inl here ↦
      let at : length h ≡ p = some-injective (length h) p here.1 in
      let none : drop p h ≡ [] = drop_all p h (omega arith) in
      (omega arith, ap (λ (x : List Event). grants_of i x) none)
]

pub leaves : (waits : List (Option ℕ)) (client i p : ℕ) → slice_get (slice_set waits client None) i ≡ Some (Some p) → slice_get waits i ≡ Some (Some p)
leaves waits client i p e = elim (get_set waits i client p None e) [
  | inr there ↦ there
  | inl here ↦ absurd (none_some p here.1)
]

pub left : (waits : List (Option ℕ)) (client p : ℕ) → slice_get (slice_set waits client None) client ≡ Some (Some p) → ⊥
left waits client p e =
    let n : length (set waits client None) ≡ length waits = length-set waits client None in
    let within : client < length (set waits client None) = slice_get_within (set waits client None) client (Some p) e in
    let l : client < length waits = omega (arith, n, within) in
    let read : slice_get (set waits client None) client ≡ Some (get_or (set waits client None) client None) = slice_get-get_or (set waits client None) client None within in
    none_some p (sym (get_or-set_same waits client None None l) ∙ some-injective (get_or (set waits client None) client None) (Some p) (sym read ∙ e))

pub has_left : (waits : List (Option ℕ)) (client : ℕ) → HasLeft waits (slice_set waits client None) client
has_left waits client = record { gone = left waits client; others = λ j ne. set_other waits j client None ne }

-- a list that is one longer than its prefix
pub one_more : (h seen : List Event) (e : Event) → IsPrefix h seen → length seen ≡ length h + 1 → slice_get seen (length h) ≡ Some e → seen ≡ h ++ e ∷ []
one_more h seen e b n at =
    let l : length h < length seen = omega arith in
    let read : slice_get seen (length h) ≡ Some (get_or seen (length h) e) = slice_get-get_or seen (length h) e l in
    let is : get_or seen (length h) e ≡ e = some-injective (get_or seen (length h) e) e (sym read ∙ at) in
    let end : drop (suc (length h)) seen ≡ [] = drop_all (suc (length h)) seen (omega arith) in
    sym (take-append-drop (length h) seen)
    ∙ (ap (λ (x : List Event). x ++ drop (length h) seen) (prefix_take h seen b)
    ∙ ap (λ (x : List Event). h ++ x) (drop-cons seen (length h) e l ∙ (ap (λ (x : Event). x ∷ drop (suc (length h)) seen) is ∙ ap (λ (x : List Event). e ∷ x) end)))

-- a pass of another machine is none of machine i's
anothers : (i machine order : ℕ) (r : Reply) → i ≢ machine → is_grant_of i (Pass machine order) r ≡ false
anothers i machine order (Granted number result) ne = ne_eqb machine i (λ q. ne (sym q))
anothers i machine order NotPrivileged ne = refl
anothers i machine order (Corrupted old) ne = refl

-- one event more, which is not a grant of a machine whose client waits
grows : (waits : List (Option ℕ)) (h : List Event) (e : Event) → AreWaiting waits h →
    ((i p : ℕ) → slice_get waits i ≡ Some (Some p) → is_grant_of i e.op e.reply ≡ false) → AreWaiting waits (h ++ e ∷ [])
grows waits h e kept others i p w =
    let was = kept i p w in
    let le : p ≤ length h = was.0 in
    let n : length (h ++ e ∷ []) ≡ length h + 1 = length-append h (e ∷ []) in
    let all : drop p (h ++ e ∷ []) ≡ drop p h ++ e ∷ [] = drop-append-le p h (e ∷ []) le in
    let zero_bit : bit (is_grant_of i e.op e.reply) ≡ 0 = ap bit (others i p w) in
    let push : grants_of i (drop p h ++ e ∷ []) ≡ grants_of i (drop p h) + bit (is_grant_of i e.op e.reply) =
    count_events-push (λ (u : Event). is_grant_of i u.op u.reply) (drop p h) e in
    let before : grants_of i (drop p h) ≡ 0 = was.1 in
    (omega arith, ap (λ (x : List Event). grants_of i x) all ∙ (push ∙ omega arith))

pub records : (waits : List (Option ℕ)) (h seen : List Event) (e : Event) (machine order : ℕ) → AreWaiting waits h → seen ≡ h ++ e ∷ [] →
    e.op ≡ Pass machine order → ((p : ℕ) → slice_get waits machine ≡ Some (Some p) → ⊥) → AreWaiting waits seen
records waits h seen e machine order kept one call free = subst (λ (x : List Event). AreWaiting waits x) (sym one) (grows waits h e kept (λ i p w.
    let ne : i ≢ machine = λ q. free p (subst (λ (x : ℕ). slice_get waits x ≡ Some (Some p)) q w) in
    ap (λ (o : Op). is_grant_of i o e.reply) call ∙ anothers i machine order e.reply ne))

pub notes : (waits : List (Option ℕ)) (h seen : List Event) (e : Event) (machine value : ℕ) → AreWaiting waits h → seen ≡ h ++ e ∷ [] →
    e.op ≡ Corrupt machine value → AreWaiting waits seen
notes waits h seen e machine value kept one call = subst (λ (x : List Event). AreWaiting waits x) (sym one) (grows waits h e kept (λ i p w. ap (λ (o : Op). is_grant_of i o e.reply) call))

-- a client that has waited from p on, up to the events seen before its pass
pub has_waited : {C : Type 0} (w : Works C) (a : State C) (h : List Event) (e : Event) (seen : List Event) (i p q : ℕ) → IsRing a.ring → IsLegal w a seen → i < length a.ring.values →
    seen ≡ h ++ e ∷ [] → length seen ≡ q + 1 → p ≤ length h → grants_of i (drop p h) ≡ 0 → HasWaited w a seen i p q
has_waited w a h e seen i p q g l li one at le none =
    let n : length seen ≡ length h + 1 = ap (λ (x : List Event). length x) one ∙ length-append h (e ∷ []) in
    let size : q ≡ length h = omega arith in
    let front : take q seen ≡ h = ap (λ (x : ℕ). take x seen) size ∙ (ap (λ (x : List Event). take (length h) x) one ∙ (take-append-le (length h) h (e ∷ []) (omega arith) ∙ take_all (length h) h (omega arith))) in
    let law : NoCorruption seen p q → _ = λ quiet. (history_progress w a seen g l).overtakes_little p q i (omega arith) (omega arith) quiet li in
    let zero_here : grants_of i (between seen p q) ≡ 0 = ap (λ (x : List Event). grants_of i (drop p x)) front ∙ none in
    record {
      ordered = omega arith;
      none = zero_here;
      few = λ quiet d. let x = (law quiet).0 d in omega arith;
      once = λ quiet u j lj. let x = (law quiet).1 u j lj in omega arith;
    }

-- a pass of the first privileged machine is granted
of_step : {C : Type 0} (w : Works C) (b : State C) (m order : ℕ) (r : Reply) → StepOf w b (Pass m order) r (next w b (Pass m order)) → is_privileged b.ring.values m ≡ true → is_granted r ≡ true
of_step w b m order (Granted number result) s on = refl
of_step w b m order NotPrivileged s on = absurd (both_ways (is_privileged b.ring.values m) s.1 on)
of_step w b m order (Corrupted old) s on = absurd s

pub granted_first : {C : Type 0} (w : Works C) (a : State C) (h : List Event) (e : Event) (m order : ℕ) → IsRing a.ring → IsLegal w a (h ++ e ∷ []) → e.op ≡ Pass m order →
    m ≡ first_privileged (after w a h).ring.values → is_granted e.reply ≡ true
granted_first w a h e m order g legal call at =
    let kept = kept_after w a h g (IsLegal-front w a h (e ∷ []) legal) in
    let some = some_privileged (after w a h).ring kept.ring in
    let on : is_privileged (after w a h).ring.values m ≡ true = subst (λ (i : ℕ). is_privileged (after w a h).ring.values i ≡ true) (sym at) some.2 in
    of_step w (after w a h) m order e.reply (subst (λ (o : Op). StepOf w (after w a h) o e.reply (next w (after w a h) o)) call (legal_step w a h e [] legal)) on

-- the first privileged machine is one of the ring's
pub first_below : {C : Type 0} (w : Works C) (a : State C) (h : List Event) (p : ℕ) → IsRing a.ring → IsLegal w a h → first_privileged (after w a (take p h)).ring.values < length a.ring.values
first_below w a h p g legal =
    let kept = kept_after w a (take p h) g (front_legal w a h p legal) in
    let some = some_privileged (after w a (take p h)).ring kept.ring in
    let below = some.1 in
    omega (arith, below, kept.size)
