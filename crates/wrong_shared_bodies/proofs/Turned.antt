-- The common facts of two accounts of one turn, and a grant in the middle of a wait.
use Rattle.std.proofs.Common.{◌≡◌, ℕ, zero, suc, ◌<◌, ◌≤◌, true, List, [], ◌∷◌, ◌++◌, take, refl, ap, sym, ◌∙◌, subst, arith}
use Rattle.std.specs.Prelude.{Some, slice_get}
use mathlib.Core.List.{IsPrefix}
use Rattle.std.proofs.lemmas.Bool.{eq-eqb}
use Rattle.std.proofs.lemmas.Option.{slice_get_within}
use Rattle.ring_model.specs.Grants.{is_grant_of, grants_of}
use Rattle.ring_model.specs.History.{Works, State}
use Rattle.ring_model.specs.HistoryLaws.{between}
use Rattle.ring_model.specs.Numbers.{bit}
use Rattle.ring_model.specs.Surveys.{is_granted}
use Rattle.ring_model.specs.declared.events.Entry.{Entry}
use Rattle.ring_model.specs.declared.events.Entry.TheVariants as entry
use Rattle.ring_model.specs.declared.events.Event.{Event}
use Rattle.ring_model.specs.declared.events.Op.{Op}
use Rattle.ring_model.specs.declared.events.Op.TheVariants.{Pass}
use Rattle.ring_model.specs.declared.events.Reply.{Reply}
use Rattle.ring_model.specs.declared.events.Reply.TheVariants.{Granted, NotPrivileged, Corrupted}
use Rattle.ring_model.proofs.QuietRuns.{grants_of-cons}
use Rattle.ring_shared.specs.Client.{Client}
use Rattle.ring_turns.specs.Turning.{IsTurn}
use Rattle.ring_turns.specs.Waiting.{HasWaited}
use Rattle.ring_turns.specs.declared.turns.Turn.{Turn}
use Rattle.wrong_shared_bodies.proofs.Ends.{behind}

abbrev first_position : List Entry → ℕ
first_position [] = 0
first_position (entry.Survey s ∷ es) = s.position
first_position (entry.Receipt r ∷ es) = 0

-- one log has one place at which its client asked
pub one_place : {C : Type 0} (w : Works C) (a : State C) (before after : Client) (order : ℕ) (t u : Turn) → IsTurn w a before after order t → IsTurn w a before after order u →
    t.asked_at ≡ u.asked_at
one_place w a before after order t u one other =
    ap first_position (behind before.log before.log _ _ refl (sym one.logged ∙ other.logged))

-- a granted pass that comes from one place on and before another is between them
granted_between : (i p q k : ℕ) (h : List Event) (e : Event) → p ≤ k → k < q → slice_get h k ≡ Some e → is_grant_of i e.op e.reply ≡ true → 1 ≤ grants_of i (between h p q)
granted_between i p zero k h e from to at is = absurd (omega arith)
granted_between i p (suc q) k [] e from to at is = let within : k < 0 = slice_get_within [] k e at in absurd (omega arith)
granted_between i zero (suc q) zero (x ∷ h) e from to at is =
    let same : x ≡ e = cc (at) in
    let one : bit (is_grant_of i x.op x.reply) ≡ 1 = subst (λ (y : Event). bit (is_grant_of i y.op y.reply) ≡ 1) (sym same) (ap bit is) in
    let all = grants_of-cons i x (take q h) in
    omega arith
granted_between i zero (suc q) (suc k) (x ∷ h) e from to at is =
    let more : 1 ≤ grants_of i (take q h) = granted_between i zero q k h e (omega arith) (omega arith) at is in
    let all = grants_of-cons i x (take q h) in
    omega arith
granted_between i (suc p) (suc q) zero (x ∷ h) e from to at is = absurd (omega arith)
granted_between i (suc p) (suc q) (suc k) (x ∷ h) e from to at is = granted_between i p q k h e (omega arith) (omega arith) at is

-- an element of a list is in each list that begins with it
kept : (k : ℕ) (xs rest : List Event) (e : Event) → slice_get xs k ≡ Some e → slice_get (xs ++ rest) k ≡ Some e
kept k [] rest e at = let within : k < 0 = slice_get_within [] k e at in absurd (omega arith)
kept zero (x ∷ xs) rest e at = at
kept (suc k) (x ∷ xs) rest e at = kept k xs rest e at

is_own : (i order : ℕ) (r : Reply) → is_granted r ≡ true → is_grant_of i (Pass i order) r ≡ true
is_own i order (Granted number result) g = eq-eqb i i refl
is_own i order NotPrivileged g = absurd (cc (g))
is_own i order (Corrupted old) g = absurd (cc (g))

-- a client that waited had no turn meanwhile
pub no_turn_meanwhile : {C : Type 0} (w : Works C) (a : State C) (i p q order : ℕ) (before then now : Client) (t : Turn) → HasWaited w a now.seen i p q → i ≡ before.number →
    IsTurn w a before then order t → IsPrefix then.seen now.seen → p ≤ t.receipt.position → t.receipt.position < q → ⊥
no_turn_meanwhile w a i p q order before then now t waited own turn later from to =
    let there = subst (λ (h : List Event). slice_get h t.receipt.position ≡ Some t.receipt.event) later.1 (kept t.receipt.position then.seen later.0 t.receipt.event turn.event) in
    let call = turn.of_call ∙ ap (λ (m : ℕ). Pass m order) (sym own) in
    let grant = subst (λ (op : Op). is_grant_of i op t.receipt.event.reply ≡ true) (sym call) (is_own i order t.receipt.event.reply turn.granted) in
    let one = granted_between i p q t.receipt.position now.seen t.receipt.event from to there grant in
    let none = waited.none in
    omega arith
