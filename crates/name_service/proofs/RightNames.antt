-- Names that are right stay so over lines, and the number of grants does not fall.
use Rattle.std.proofs.Common.{◌≡◌, ℕ, zero, suc, ◌+◌, ◌-◌, ◌≤◌, Bool, true, false, List, [], ◌∷◌, length, map, Option, Some, None, inl, inr, refl, sym, ap, subst, ◌∙◌, arith}
use Rattle.std.specs.Prelude.{slice_set, is_some, option_map, nat_lt, ◌||◌, if◌then◌else◌}
use Rattle.line_service.specs.Answering.{Answers}
use Rattle.held_locks.specs.declared.answers.Answers.{Answers as Answered}
use Rattle.held_locks.specs.declared.answers.Left.{Left}
use Rattle.held_locks.specs.Locks.{Ask, Acquire, Try, Release, Cancel, Corrupt, Stats, Asked, step}
use Rattle.held_locks.specs.Kept.{locks_of, lock_limit, IsDone}
use Rattle.text_lines.specs.LongNumbers.{in_32_bits}
use Rattle.lock_protocol.specs.Asks as lines
use Rattle.lock_protocol.specs.Names.{IsName}
use Rattle.lock_protocol.specs.Inputs.{IsReadAs}
use Rattle.lock_protocol.specs.Views.{Input}
use Rattle.lock_protocol.specs.Views as input
use Rattle.lock_journal.specs.Asking.{one_ask, is_off}
use Rattle.lock_journal.proofs.Following.{as_many, step_many}
use Rattle.lock_names.specs.Names.{Bound, Named, Of, NamedStep, fresh, total, at_ring, of_ring, leave_each}
use Rattle.lock_names.specs.Promises.{IsNamed}
use Rattle.lock_names.specs.Kept.{NamedView, named_of, reached, IsRecorded, noted_at, IsTaken}
use Rattle.lock_names.specs.Leaves.{settled, name_left, names_left}
use Rattle.lock_names.proofs.Found.{some_same, none_some}
use Rattle.lock_names.proofs.Fitting.{named_step, named_stays}
use Rattle.lock_names.proofs.LeftNames.{left_lock, leaves_allowed}
use Rattle.lock_names.proofs.Taking.{Reaches}
use Rattle.name_service.specs.declared.service.NameTerms.{NameTerms}
use Rattle.name_service.specs.Naming.{NamingView, is_no_lock}
use Rattle.name_service.specs.Serving.{IsNameToldOf, IsNameToldIf, IsNameToldOfLeave, IsNameTold, IsNameAnsweredIf, IsNameInputAnswered, IsNameLineAnswered}
use Rattle.name_service.specs.RightNames.{AreSpelled, AreRightNames}
use Rattle.name_service.proofs.AskedRings.{reaching, nothing_taken}
use Rattle.name_service.proofs.LeaveOfRings.{left_many, left_state}

-- ---- names are spelled as names

set_spelled : (os : List (Option Bound)) (i : ℕ) (o : Option Bound) → AreSpelled os → ((b : Bound) → o ≡ Some b → IsName b.name) → AreSpelled (slice_set os i o)
set_spelled [] i o all one ring b e = all ring b e
set_spelled (p ∷ os) zero o all one zero b e = one b (some_same o (Some b) e)
set_spelled (p ∷ os) zero o all one (suc ring) b e = all (suc ring) b e
set_spelled (p ∷ os) (suc i) o all one zero b e = all zero b e
set_spelled (p ∷ os) (suc i) o all one (suc ring) b e = set_spelled os i o (λ k. all (suc k)) one ring b e

noted_spelled : (s : Named) (x : List ℕ) (o : Option ℕ) (new freed : Bool) → IsName x → AreSpelled s.names → AreSpelled (noted_at s x o new freed)
noted_spelled s x None new freed is all = all
noted_spelled s x (Some i) true freed is all = set_spelled s.names i (Some (fresh s x i)) all (λ b e. subst (λ (z : Bound). IsName z.name) (some_same (fresh s x i) b e) is)
noted_spelled s x (Some i) false true is all = set_spelled s.names i None all (λ b e. absurd (none_some b e))
noted_spelled s x (Some i) false false is all = all

left_spelled : (fixed : ℕ) (os : List (Option Bound)) (ls : List Left) → AreSpelled os → AreSpelled (names_left fixed os ls)
left_spelled fixed os [] all = all
left_spelled fixed os (l ∷ ls) all = left_spelled fixed (name_left fixed os l) ls (one (nat_lt l.lock fixed || is_some l.granted))
  where
    one : (q : Bool) → AreSpelled (if q then os else slice_set os l.lock None)
    one true = all
    one false = set_spelled os l.lock None all (λ b e. absurd (none_some b e))

-- ---- a line

-- the names are right after it, and there are no fewer grants
pub record StayRight (old new : NamedView) : Type 0 where
  pub right : AreRightNames new
  pub more : old.top ≤ new.top

pub same_right : (old new : NamedView) → AreRightNames old → new ≡ old → StayRight old new
same_right old new r e = subst (λ (v : NamedView). StayRight old v) (sym e) (record { right = r; more = omega arith })

more_counted : (low was now : ℕ) → was ≤ low → now ≤ low + (now - was)
more_counted low was now le = omega (arith, le)

module _ (terms : NameTerms) (c : ℕ) (x : List ℕ) (a : Ask) (old new : NamingView) (said noted : List ℕ) (t : IsNameToldOf terms c x a old said noted new) (named : IsName x) (right : AreRightNames old.named) where
  of_ring_right : (p : ℕ × Bound) → reached (named_of old.named) x a ≡ Some p → IsTaken old.named new.named c x a t.answers → StayRight old.named new.named
  of_ring_right p e k =
      let s : Named = named_of old.named in
      let reaches : Reaches s x a p.0 p.1 = reaching s x a right.named p e in
      let turned : named_of new.named ≡ (at_ring s c p.0 p.1 a).named = k.named ∙ ap (λ (z : NamedStep). z.named) (reaches.step c) in
      let low : ℕ = total (locks_of old.named.locks) in
      let high : ℕ = total (at_ring s c p.0 p.1 a).named.locks in
      let sum : total (locks_of new.named.locks) ≡ high = ap (λ (z : Named). total z.locks) turned in
      let top : new.named.top ≡ old.named.top + (high - low) = ap (λ (z : Named). z.top) turned in
      let d : (raw : Answered) × IsDone old.named.locks new.named.locks c p.0 (of_ring p.1 a) raw × (t.answers.ended ≡ raw.ended) = subst (λ (o : Option (ℕ × Bound)). IsRecorded old.named.locks new.named.locks c a t.answers o) e k.recorded in
      let many : length new.named.locks ≡ length old.named.locks = as_many old.named.locks new.named.locks (step (locks_of old.named.locks) (Asked c p.0 (of_ring p.1 a))).locks d.1.locks (step_many (locks_of old.named.locks) c p.0 (of_ring p.1 a)) in
      let counted : low ≤ old.named.top = right.counted in
      let few : length old.named.locks ≤ lock_limit = right.few in
      record {
        right = record {
          named = subst (λ (z : Named). IsNamed z) (sym k.named) (named_step s (Of c x a) right.named tt);
          spelled = subst (λ (os : List (Option Bound)). AreSpelled os) (sym k.names) (noted_spelled s x t.answers.ring t.answers.fresh t.answers.freed named right.spelled);
          counted = omega arith;
          few = omega arith;
        };
        more = omega arith;
      }

  by_reached : (o : Option (ℕ × Bound)) → reached (named_of old.named) x a ≡ o → IsTaken old.named new.named c x a t.answers → StayRight old.named new.named
  by_reached None e k =
      let ring : t.answers.ring ≡ None = t.done.ring ∙ ap (λ (o : Option (ℕ × Bound)). option_map (λ (p : ℕ × Bound). p.0) o) e in
      same_right old.named new.named right (nothing_taken old.named new.named c x a t.answers ring e k)
  by_reached (Some p) e k = of_ring_right p e k

  asked_right : StayRight old.named new.named
  asked_right = elim t.done.answer [
    | inl k ↦ by_reached (reached (named_of old.named) x a) refl k
    | inr w ↦ same_right old.named new.named right w.same
  ]

leave_right : (terms : NameTerms) (c : ℕ) (old new : NamingView) (said noted : List ℕ) → IsNameToldOfLeave terms.lines.noting c old said noted new → AreRightNames old.named → StayRight old.named new.named
leave_right terms c old new said noted t right =
    let s : Named = named_of old.named in
    let low : ℕ = total (locks_of old.named.locks) in
    let high : ℕ = total (map (left_lock c) (locks_of old.named.locks)) in
    let state : named_of new.named ≡ settled s (map (left_lock c) (locks_of old.named.locks)) = left_state terms c old new said noted t right in
    let sum : total (locks_of new.named.locks) ≡ high = ap (λ (z : Named). total z.locks) state in
    let top : new.named.top ≡ old.named.top + (high - low) = ap (λ (z : Named). z.top) state in
    let many : length new.named.locks ≡ length old.named.locks = left_many terms c old new said noted t right in
    let counted : low ≤ old.named.top = right.counted in
    let few : length old.named.locks ≤ lock_limit = right.few in
    record {
      right = record {
        named = subst (λ (z : Named). IsNamed z) (sym t.done.named) (named_stays s (leave_each c old.named.names) right.named (leaves_allowed s c old.named.names));
        spelled = subst (λ (os : List (Option Bound)). AreSpelled os) (sym t.done.names) (left_spelled old.named.fixed old.named.names new.left right.spelled);
        counted = omega arith;
        few = omega arith;
      };
      more = omega arith;
    }

module _ (terms : NameTerms) (old new : NamingView) (said noted : List ℕ) (right : AreRightNames old.named) where
  kept_right : new ≡ old → StayRight old.named new.named
  kept_right e = same_right old.named new.named right (ap (λ (v : NamingView). v.named) e)

  if_lock_right : (q : Bool) (c : ℕ) (x : List ℕ) (a : Ask) → IsName x → IsNameToldIf q terms c x a old said noted new → StayRight old.named new.named
  if_lock_right true c x a is t = kept_right t.leaves
  if_lock_right false c x a is t = asked_right terms c x a old new said noted t is right

  told_right : (c : ℕ) (ask : lines.Ask) → lines.HasName ask → IsNameTold terms c (one_ask ask) old said noted new → StayRight old.named new.named
  told_right c (lines.acquire name label) is t = if_lock_right (is_no_lock terms.most old.named name (Acquire label)) c name (Acquire label) is t
  told_right c (lines.try name label) is t = if_lock_right (is_no_lock terms.most old.named name (Try label)) c name (Try label) is t
  told_right c (lines.release name token) is t = if_lock_right (is_no_lock terms.most old.named name (Release token)) c name (Release token) is t
  told_right c (lines.cancel name) is t = if_lock_right (is_no_lock terms.most old.named name Cancel) c name Cancel is t
  told_right c lines.leave is t = leave_right terms c old new said noted t right
  told_right c (lines.corrupt name machine value) is t = if_lock_right (is_no_lock terms.most old.named name (Corrupt (in_32_bits machine) (in_32_bits value))) c name (Corrupt (in_32_bits machine) (in_32_bits value)) is t
  told_right c (lines.stats name) is t = if_lock_right (is_no_lock terms.most old.named name Stats) c name Stats is t

  if_right : (off : Bool) (c : ℕ) (ask : lines.Ask) → lines.HasName ask → IsNameAnsweredIf off terms c ask old said noted new → StayRight old.named new.named
  if_right true c ask is t = kept_right t.leaves
  if_right false c ask is t = told_right c ask is t

  input_right : (line : List ℕ) (i : Input) → IsReadAs line i → IsNameInputAnswered terms i old said noted new → StayRight old.named new.named
  input_right line (input.Asked c ask) r t = if_right (is_off terms.lines.faults ask) c ask r.1.named t
  input_right line (input.Refused c why) r t = kept_right t.leaves
  input_right line input.Nobody r t = kept_right t.leaves

  pub line_right : (line : List ℕ) → IsNameLineAnswered terms old line said noted new → StayRight old.named new.named
  line_right line a = input_right line a.0 a.1 a.2

-- so over lines
pub lines_right : (terms : NameTerms) (old new : NamingView) (all : List (List ℕ)) (said noted : List ℕ) → AreRightNames old.named → Answers (IsNameLineAnswered terms) old all said noted new → StayRight old.named new.named
lines_right terms old new [] said noted right a = same_right old.named new.named right (ap (λ (v : NamingView). v.named) a.2)
lines_right terms old new (line ∷ all) said noted right a =
    let one = line_right terms old a.0 a.1 a.3 right line a.5 in
    let rest = lines_right terms a.0 new all a.2 a.4 one.right a.8 in
    let low : old.named.top ≤ a.0.named.top = one.more in
    let high : a.0.named.top ≤ new.named.top = rest.more in
    record { right = rest.right; more = omega arith }
