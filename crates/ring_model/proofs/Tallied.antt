-- The tally of a segment has its grants, its amount and whether it was quiet.
use Rattle.std.proofs.Common.{◌≡◌, ℕ, ◌+◌, ◌<◌, ◌≤◌, ◌==◌, Bool, true, false, cond, List, [], ◌∷◌, ◌++◌, length, take, get_or, refl, sym, ◌∙◌, ap, arith}
use Rattle.std.proofs.lemmas.Bool.{ne_eqb}
use Rattle.std.proofs.lemmas.List.{take_all, take_more}
use Rattle.ring_model.specs.Numbers.{bit}
use Rattle.ring_model.specs.Ring.{Ring}
use Rattle.ring_model.specs.History.{State, StepOf, opening, next, after, IsLegal}
use Rattle.ring_model.specs.Resources.{till, add_order}
use Rattle.ring_model.specs.Surveys.{is_granted, is_corrupted, granted_count, corrupted_count, calm}
use Rattle.ring_model.specs.declared.events.Op.{Op}
use Rattle.ring_model.specs.declared.events.Op.TheVariants.{Pass, Member, Corrupt}
use Rattle.ring_model.specs.declared.events.Reply.{Reply}
use Rattle.ring_model.specs.declared.events.Reply.TheVariants.{Granted, NotPrivileged, Corrupted}
use Rattle.ring_model.specs.declared.events.Event.{Event}
use Rattle.ring_model.specs.declared.events.Survey.{Survey}
use Rattle.ring_model.proofs.Histories.{calm_next, calm-push}
use Rattle.ring_model.proofs.Places.{by_pushes}
use Rattle.ring_model.proofs.QuietRuns.{corrupted_count-cons, granted_count-cons}
use Rattle.ring_model.proofs.Suffixes.{count_events-push}
use Rattle.ring_model.specs.declared.bases.Base.{Base}
use Rattle.ring_model.specs.declared.tallies.Tally.{Tally}
use Rattle.ring_model.specs.Bases.{shifted_reply, shifted, is_quiet, shifted_calm}
use Rattle.ring_model.specs.Tallies.{empty_tally, tally_with, tallied}
use Rattle.ring_model.specs.ChainLaws.{TalliesAreRight, NextBasesAreRight, BasesHaveRoom}
use Rattle.ring_model.proofs.Shifts.{grants_legal}

pub tallied-append : (s : Tally) (xs ys : List Event) → tallied s (xs ++ ys) ≡ tallied (tallied s xs) ys
tallied-append s [] ys = refl
tallied-append s (e ∷ xs) ys = tallied-append (tally_with s e.reply) xs ys

pub tallied_more : (s : Tally) (es : List Event) (i : ℕ) (d : Event) → i < length es → tallied s (take (i + 1) es) ≡ tally_with (tallied s (take i es)) (get_or es i d).reply
tallied_more s es i d l = ap (λ (x : List Event). tallied s x) (take_more es i d l) ∙ tallied-append s (take i es) (get_or es i d ∷ [])

-- whether no corruption came

abbrev quiet_next : Bool → Reply → Bool
quiet_next q (Granted number result) = q
quiet_next q NotPrivileged = q
quiet_next q (Corrupted old) = false

abbrev quiet_with : Bool → List Event → Bool
quiet_with q [] = q
quiet_with q (e ∷ es) = quiet_with (quiet_next q e.reply) es

quiet_no_more : (r : Reply) → quiet_next false r ≡ false
quiet_no_more (Granted number result) = refl
quiet_no_more NotPrivileged = refl
quiet_no_more (Corrupted old) = refl

quiet_never : (h : List Event) → quiet_with false h ≡ false
quiet_never [] = refl
quiet_never (e ∷ h) = ap (λ (q : Bool). quiet_with q h) (quiet_no_more e.reply) ∙ quiet_never h

quiet_more : (e : Event) (h : List Event) (r : Reply) → e.reply ≡ r → quiet_with true h ≡ (corrupted_count h == 0) →
    quiet_with (quiet_next true r) h ≡ (corrupted_count (e ∷ h) == 0)
quiet_more e h (Granted number result) q ih =
    let c : corrupted_count (e ∷ h) ≡ bit (is_corrupted e.reply) + corrupted_count h = corrupted_count-cons e h in
    let none : bit (is_corrupted e.reply) ≡ 0 = ap (λ (x : Reply). bit (is_corrupted x)) q in
    let same : corrupted_count h ≡ corrupted_count (e ∷ h) = omega arith in
    ih ∙ ap (λ (n : ℕ). n == 0) same
quiet_more e h NotPrivileged q ih =
    let c : corrupted_count (e ∷ h) ≡ bit (is_corrupted e.reply) + corrupted_count h = corrupted_count-cons e h in
    let none : bit (is_corrupted e.reply) ≡ 0 = ap (λ (x : Reply). bit (is_corrupted x)) q in
    let same : corrupted_count h ≡ corrupted_count (e ∷ h) = omega arith in
    ih ∙ ap (λ (n : ℕ). n == 0) same
quiet_more e h (Corrupted old) q ih =
    let c : corrupted_count (e ∷ h) ≡ bit (is_corrupted e.reply) + corrupted_count h = corrupted_count-cons e h in
    let one : bit (is_corrupted e.reply) ≡ 1 = ap (λ (x : Reply). bit (is_corrupted x)) q in
    quiet_never h ∙ sym (ne_eqb (corrupted_count (e ∷ h)) 0 (λ z. absurd (omega arith)))

quiet_is : (h : List Event) → quiet_with true h ≡ (corrupted_count h == 0)
quiet_is [] = refl
quiet_is (e ∷ h) = quiet_more e h e.reply refl (quiet_is h)

-- the tally of a legal history

abbrev keeping : ℕ → ℕ → Bool → Tally
keeping grants amount quiet = record { grants = grants; amount = amount; quiet = quiet }

abbrev kept_of : State ℕ → Bool → Tally
kept_of a q = keeping a.grants a.content q

keeping_is : (g h a b : ℕ) (q : Bool) → g ≡ h → a ≡ b → keeping g a q ≡ keeping h b q
keeping_is g h a b q e f = ap (λ (x : ℕ). keeping x a q) e ∙ ap (λ (x : ℕ). keeping h x q) f

kept_step : (a : State ℕ) (q : Bool) (o : Op) (r : Reply) (t : State ℕ) → StepOf till a o r t → tally_with (kept_of a q) r ≡ kept_of t (quiet_next q r)
kept_step a q (Pass i order) (Granted number result) t h = keeping_is number (a.grants + 1) result (add_order a.content order) q h.2 h.3 ∙ ap (λ (x : State ℕ). kept_of x q) (sym h.4)
kept_step a q (Pass i order) NotPrivileged t h = ap (λ (x : State ℕ). kept_of x q) (sym h.2)
kept_step a q (Pass i order) (Corrupted old) t h = absurd h
kept_step a q (Member i order left) (Granted number result) t h = keeping_is number (a.grants + 1) result (add_order a.content order) q h.2 h.3 ∙ ap (λ (x : State ℕ). kept_of x q) (sym h.4)
kept_step a q (Member i order left) NotPrivileged t h = absurd h
kept_step a q (Member i order left) (Corrupted old) t h = absurd h
kept_step a q (Corrupt i v) (Granted number result) t h = absurd h
kept_step a q (Corrupt i v) NotPrivileged t h = absurd h
kept_step a q (Corrupt i v) (Corrupted old) t h = ap (λ (x : State ℕ). kept_of x false) (sym h.3)

kept_legal : (a : State ℕ) (q : Bool) (h : List Event) → IsLegal till a h → tallied (kept_of a q) h ≡ kept_of (after till a h) (quiet_with q h)
kept_legal a q [] l = refl
kept_legal a q (e ∷ h) l =
    ap (λ (x : Tally). tallied x h) (kept_step a q e.op e.reply (next till a e.op) l.0) ∙ kept_legal (next till a e.op) (quiet_next q e.reply) h l.1

-- of a segment from its beginning: the grants, the amount, and whether it was quiet
pub kept_is : (r : Ring) (h : List Event) → IsLegal till (opening r 0) h →
    tallied empty_tally h ≡ keeping (granted_count h) (after till (opening r 0) h).content (corrupted_count h == 0)
kept_is r h l =
    let g : (after till (opening r 0) h).grants ≡ 0 + granted_count h = grants_legal till (opening r 0) h l in
    let a : ℕ = (after till (opening r 0) h).content in
    kept_legal (opening r 0) true h l
    ∙ keeping_is (after till (opening r 0) h).grants (granted_count h) a a (quiet_with true h) (omega arith) refl
    ∙ ap (λ (q : Bool). keeping (granted_count h) a q) (quiet_is h)

pub tallies_are_right : TalliesAreRight
tallies_are_right r h l =
    let k : tallied empty_tally h ≡ keeping (granted_count h) (after till (opening r 0) h).content (corrupted_count h == 0) = kept_is r h l in
    record {
      grants = ap (λ (t : Tally). t.grants) k;
      amount = ap (λ (t : Tally). t.amount) k;
      quiet = ap (λ (t : Tally). t.quiet) k;
    }

-- so the base that is made of it is right

abbrev basing : ℕ → ℕ → ℕ → ℕ → Base
basing events grants amount calm = record { events = events; grants = grants; amount = amount; calm = calm }

abbrev base_made : Base → Tally → ℕ → ℕ → Base
base_made b t position c = basing (b.events + position) (b.grants + t.grants) (add_order b.amount t.amount) (shifted_calm b t.quiet c)

pub next_bases_are_right : NextBasesAreRight
next_bases_are_right b r h v l i e =
    let c : v.calm ≡ calm (take v.position h) = ap (λ (s : Survey). s.calm) i.1 in
    ap (λ (x : ℕ). base_made b (tallied empty_tally h) (v.position) x) (c ∙ ap (λ (x : List Event). calm x) (take_all v.position h (omega (arith, e))))
    ∙ ap (λ (x : ℕ). base_made b (tallied empty_tally h) x (calm h)) e
    ∙ ap (λ (x : Tally). base_made b x (length h) (calm h)) (kept_is r h l)

-- and has room

bit_few : (p : Bool) → bit p ≤ 1
bit_few true = omega arith
bit_few false = omega arith

pub few_grants : (h : List Event) → granted_count h ≤ length h
few_grants [] = omega arith
few_grants (e ∷ h) =
    let c : granted_count (e ∷ h) ≡ bit (is_granted e.reply) + granted_count h = granted_count-cons e h in
    let one : bit (is_granted e.reply) ≤ 1 = bit_few (is_granted e.reply) in
    let ih : granted_count h ≤ length h = few_grants h in
    omega arith

calm_reply : (c g : ℕ) (r : Reply) → c ≤ g → calm_next c r ≤ g + bit (is_granted r)
calm_reply c g (Granted number result) le = omega arith
calm_reply c g NotPrivileged le = omega arith
calm_reply c g (Corrupted old) le = omega arith

pub calm_few : (h : List Event) → calm h ≤ granted_count h
calm_few h = by_pushes (λ (es : List Event). calm es ≤ granted_count es) (omega arith)
    (λ es e le.
    let c : calm (es ++ e ∷ []) ≡ calm_next (calm es) e.reply = calm-push es e in
    let g : granted_count (es ++ e ∷ []) ≡ granted_count es + bit (is_granted e.reply) = count_events-push (λ (u : Event). is_granted u.reply) es e in
    let step : calm_next (calm es) e.reply ≤ granted_count es + bit (is_granted e.reply) = calm_reply (calm es) (granted_count es) e.reply le in
    omega arith) h

calm_room : (q : Bool) (k c m g : ℕ) → k ≤ m → c ≤ g → cond q (k + c) c ≤ m + g
calm_room true k c m g l e = omega arith
calm_room false k c m g l e = omega arith

pub bases_have_room : BasesHaveRoom
bases_have_room b r h base room =
    let few : granted_count h ≤ length h = few_grants h in
    let grants : b.grants ≤ b.events = base.grants in
    record {
      room = room;
      grants = omega arith;
      calm = calm_room (is_quiet h) b.calm (calm h) b.grants (granted_count h) base.calm (calm_few h);
    }

-- whether a history of two parts is quiet

quiet-append : (q : Bool) (xs ys : List Event) → quiet_with q (xs ++ ys) ≡ quiet_with (quiet_with q xs) ys
quiet-append q [] ys = refl
quiet-append q (e ∷ xs) ys = quiet-append (quiet_next q e.reply) xs ys

quiet_reply : (b : Base) (q : Bool) (r : Reply) → quiet_next q (shifted_reply b r) ≡ quiet_next q r
quiet_reply b q (Granted number result) = refl
quiet_reply b q NotPrivileged = refl
quiet_reply b q (Corrupted old) = refl

quiet-shifted : (b : Base) (q : Bool) (h : List Event) → quiet_with q (shifted b h) ≡ quiet_with q h
quiet-shifted b q [] = refl
quiet-shifted b q (e ∷ h) = ap (λ (x : Bool). quiet_with x (shifted b h)) (quiet_reply b q e.reply) ∙ quiet-shifted b (quiet_next q e.reply) h

quiet_from : (q : Bool) (h : List Event) → quiet_with q h ≡ cond q (is_quiet h) false
quiet_from true h = quiet_is h
quiet_from false h = quiet_never h

pub quiet_both : (b : Base) (xs ys : List Event) → is_quiet (xs ++ shifted b ys) ≡ cond (is_quiet xs) (is_quiet ys) false
quiet_both b xs ys =
    sym (quiet_is (xs ++ shifted b ys)) ∙ quiet-append true xs (shifted b ys)
    ∙ ap (λ (q : Bool). quiet_with q (shifted b ys)) (quiet_is xs)
    ∙ quiet-shifted b (is_quiet xs) ys
    ∙ quiet_from (is_quiet xs) ys

-- the tally of the events so far has the grants and the amount of that of all events: no grant comes after them

pub record IsLastGrant (front es : List Event) : Type 0 where
  pub grants : (tallied empty_tally front).grants ≡ (tallied empty_tally es).grants
  pub amount : (tallied empty_tally front).amount ≡ (tallied empty_tally es).amount

pub all_last : (es : List Event) → IsLastGrant (take (length es) es) es
all_last es =
    let q : take (length es) es ≡ es = take_all (length es) es (omega arith) in
    record { grants = ap (λ (x : List Event). (tallied empty_tally x).grants) q; amount = ap (λ (x : List Event). (tallied empty_tally x).amount) q }

-- so if they end with a grant, it is the last

pub last_number : (es : List Event) (i : ℕ) (d : Event) (number result : ℕ) → i < length es → IsLastGrant (take (i + 1) es) es → (get_or es i d).reply ≡ Granted number result →
    (number ≡ (tallied empty_tally es).grants) × (result ≡ (tallied empty_tally es).amount)
last_number es i d number result l g q =
    let t : tallied empty_tally (take (i + 1) es) ≡ tally_with (tallied empty_tally (take i es)) (Granted number result) =
    tallied_more empty_tally es i d l ∙ ap (λ (r : Reply). tally_with (tallied empty_tally (take i es)) r) q in
    (sym (ap (λ (x : Tally). x.grants) t) ∙ g.grants, sym (ap (λ (x : Tally). x.amount) t) ∙ g.amount)

-- and if they end with another event, it may be left out

no_grant : (t : Tally) (r : Reply) → ((number result : ℕ) → ¬ (r ≡ Granted number result)) → ((tally_with t r).grants ≡ t.grants) × ((tally_with t r).amount ≡ t.amount)
no_grant t (Granted number result) none = absurd (none number result refl)
no_grant t NotPrivileged none = (refl, refl)
no_grant t (Corrupted old) none = (refl, refl)

pub last_before : (es : List Event) (i : ℕ) (d : Event) → i < length es → ((number result : ℕ) → ¬ ((get_or es i d).reply ≡ Granted number result)) → IsLastGrant (take (i + 1) es) es → IsLastGrant (take i es) es
last_before es i d l none g =
    let t : tallied empty_tally (take (i + 1) es) ≡ tally_with (tallied empty_tally (take i es)) (get_or es i d).reply = tallied_more empty_tally es i d l in
    let n = no_grant (tallied empty_tally (take i es)) (get_or es i d).reply none in
    record {
      grants = sym n.0 ∙ sym (ap (λ (x : Tally). x.grants) t) ∙ g.grants;
      amount = sym n.1 ∙ sym (ap (λ (x : Tally). x.amount) t) ∙ g.amount;
    }

-- whether a corruption came, by the tally

reply_quiet : (t : Tally) (r : Reply) → (tally_with t r).quiet ≡ quiet_next t.quiet r
reply_quiet t (Granted number result) = refl
reply_quiet t NotPrivileged = refl
reply_quiet t (Corrupted old) = refl

tallied_quiet : (t : Tally) (h : List Event) → (tallied t h).quiet ≡ quiet_with t.quiet h
tallied_quiet t [] = refl
tallied_quiet t (e ∷ h) = tallied_quiet (tally_with t e.reply) h ∙ ap (λ (q : Bool). quiet_with q h) (reply_quiet t e.reply)

pub tally_is : (h : List Event) (grants amount : ℕ) (q : Bool) → grants ≡ (tallied empty_tally h).grants → amount ≡ (tallied empty_tally h).amount → q ≡ is_quiet h → keeping grants amount q ≡ tallied empty_tally h
tally_is h grants amount q g a is =
    let t : Tally = tallied empty_tally h in
    keeping_is grants t.grants amount t.amount q g a ∙ ap (λ (x : Bool). keeping t.grants t.amount x) (is ∙ sym (quiet_is h) ∙ sym (tallied_quiet empty_tally h))
