-- The additions to a client's log by one look at the desk.
use Rattle.std.proofs.Common.{◌≡◌, ℕ, ◌≤◌, List, [], ◌∷◌, ◌++◌, All, length, take, refl, sym, ◌∙◌, ap, subst, append_assoc, arith}
use Rattle.ring_model.specs.History.{Works, State}
use Rattle.ring_model.specs.declared.events.Entry.{Entry}
use Rattle.ring_model.specs.declared.events.Entry.TheVariants as entry
use Rattle.ring_model.specs.declared.events.Receipt.{Receipt}
use Rattle.ring_shared.specs.Client.{Client}
use mathlib.Core.List.{IsPrefix}
use Rattle.std.proofs.lemmas.List.{take_all}
use Rattle.ring_model.specs.Surveys.{survey_at}
use Rattle.ring_model.specs.declared.events.Event.{Event}
use Rattle.ring_model.specs.declared.events.Survey.{Survey}
use Rattle.ring_model.specs.declared.events.Op.TheVariants.{Pass}
use Rattle.ring_shared.proofs.Prefixes.{prefix_take, prefix_length}
use Rattle.ring_turns.specs.Looking.{IsGrantedPass}
use Rattle.ring_turns.specs.Turning.{IsPassedOn, IsTaken, IsTurn}

-- a granted pass of a client that had only seen more before
pub granted_from : {C : Type 0} (w : Works C) (a : State C) (x b after : Client) (m order : ℕ) (r : Receipt) → IsGrantedPass w a b after m order r →
    b.number ≡ x.number → b.log ≡ x.log → b.room ≡ x.room → IsGrantedPass w a x after m order r
granted_from w a x b after m order r h n l s =
    let room = h.told.room in
    record {
      told = record {
        of_seat = h.told.of_seat ∙ n;
        of_call = h.told.of_call;
        number = h.told.number ∙ n;
        logged = h.told.logged ∙ ap (λ (t : List Entry). t ++ entry.Receipt r ∷ []) l;
        room = omega (arith, room, s);
        last = h.told.last;
        event = h.told.event;
        legal_and_whole = h.told.legal_and_whole;
      };
      granted = h.granted;
    }

-- the events seen first are a prefix of those seen now, so a survey of their end stays the same
survey_stays : {C : Type 0} (w : Works C) (a : State C) (h seen : List Event) (p : ℕ) → p ≡ length h → IsPrefix h seen → survey_at w a h p ≡ survey_at w a seen p
survey_stays w a h seen p n b =
    let front : take p h ≡ take p seen = take_all p h (omega arith) ∙ (sym (prefix_take h seen b) ∙ ap (λ (x : ℕ). take x seen) (sym n)) in
    rw front refl

-- a client that asked at the end of the events that it had seen then, and had its turn
pub is_turn : {C : Type 0} (w : Works C) (a : State C) (before asked after : Client) (p order : ℕ) (r : Receipt) → p ≡ length asked.seen →
    asked.log ≡ before.log ++ entry.Survey (survey_at w a asked.seen p) ∷ [] → asked.number ≡ before.number → IsPrefix before.seen asked.seen →
    IsPrefix asked.seen after.seen → IsTaken w a asked after p order r → IsTurn w a before after order (record { asked_at = p; receipt = r })
is_turn w a before asked after p order r at logged number first later taken =
    let s = entry.Survey (survey_at w a asked.seen p) in
    let end = entry.Receipt r ∷ [] in
    let passed = taken.passed_on.0 in
    let told = taken.own.told in
    let order_of : length before.seen ≤ length asked.seen = prefix_length before.seen asked.seen first in
    let same : s ∷ (passed ++ end) ≡ entry.Survey (survey_at w a after.seen p) ∷ (passed ++ end) =
    ap (λ (t : Survey). entry.Survey t ∷ (passed ++ end)) (survey_stays w a asked.seen after.seen p at later) in
    record {
      later = omega arith;
      passed = passed;
      logged = told.logged
          ∙ (ap (λ (t : List Entry). t ++ end) (taken.passed_on.1 ∙ ap (λ (t : List Entry). t ++ passed) logged)
          ∙ (append_assoc (before.log ++ s ∷ []) passed end
          ∙ (append_assoc before.log (s ∷ []) (passed ++ end)
          ∙ ap (λ (t : List Entry). before.log ++ t) same)));
      others = subst (λ (i : ℕ). All (IsPassedOn i) passed) number taken.passed_on.2;
      of_seat = told.of_seat ∙ (taken.number ∙ number);
      of_call = told.of_call ∙ ap (λ (i : ℕ). Pass i order) number;
      granted = taken.own.granted;
      last = told.last;
      event = told.event;
      legal_and_whole = told.legal_and_whole;
    }
