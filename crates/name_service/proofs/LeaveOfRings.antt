-- A client that leaves all names leaves all rings.
use Rattle.std.proofs.Common.{◌≡◌, ℕ, zero, suc, ◌<◌, Bool, true, false, cond, List, [], ◌∷◌, ◌++◌, length, map, Option, Some, None, inl, inr, refl, sym, ap, subst, ◌∙◌, arith}
use Rattle.std.specs.Prelude.{slice_get, option_map}
use Rattle.std.specs.List.{flat_map, AllByRecursion}
use Rattle.std.proofs.lemmas.Grind.{flat_map-append}
use Rattle.std.proofs.lemmas.Option.{slice_get_within}
use Rattle.segment_files.specs.Remarks.{without_remarks}
use Rattle.held_locks.specs.declared.answers.Holder.{Holder}
use Rattle.held_locks.specs.declared.answers.Left.{Left}
use Rattle.held_locks.specs.Queues.{Lock, is_held_by}
use Rattle.held_locks.specs.Promises.{locks_after, leaves}
use Rattle.held_locks.specs.Kept.{LockView, lock_of, locks_of, other_grant, left_at, left_of}
use Rattle.held_locks.proofs.Asking.{after_long, views_long}
use Rattle.lock_protocol.specs.Asks as lines
use Rattle.lock_protocol.specs.Answers.{answer_line}
use Rattle.lock_protocol.specs.Names.{Names, name_of}
use Rattle.lock_protocol.specs.Inputs.{input_line, IsReadAs}
use Rattle.lock_protocol.specs.Views as input
use Rattle.lock_journal.specs.Counting.{count_of_all}
use Rattle.lock_journal.specs.Noting.{lines_of_left, notes_of_left}
use Rattle.lock_journal.specs.Answering.{IsToldOfLeave}
use Rattle.lock_journal.specs.Told.{Telling, text_of}
use Rattle.lock_journal.proofs.Answering.{tellings_of, lines_are}
use Rattle.lock_names.specs.Names.{Bound, Said, told_holder}
use Rattle.lock_names.specs.Promises.{IsRightName, IsNamed}
use Rattle.lock_names.specs.Kept.{NamedView, named_of, grant_said}
use Rattle.lock_names.specs.Leaves.{settled, bound_or, told_left, said_left}
use Rattle.lock_names.proofs.Found.{there_is}
use Rattle.lock_names.proofs.Asking.{view_lock}
use Rattle.lock_names.proofs.LeftNames.{left_lock, locks_left, leaves_are_settled}
use Rattle.lock_names.proofs.LeftRings.{left_if, free_held}
use Rattle.name_service.specs.declared.service.NameTerms.{NameTerms}
use Rattle.name_service.specs.Naming.{NamingView}
use Rattle.name_service.specs.Noting.{lines_of_said, notes_of_names_left}
use Rattle.name_service.specs.Serving.{IsNameToldOfLeave}
use Rattle.name_service.specs.RightNames.{AreRightNames}
use Rattle.name_service.specs.RingLines.{numbers_from, ring_segment, AreToldByName}
use Rattle.name_service.proofs.PlainNotes.{IsLeft as IsLeftOf, left_if as plain_if, leave_left}
use Rattle.name_service.proofs.AskedRings.{IsOne, due_counted}

-- ---- each that is granted has a name

-- if a client is granted what was left, its ring is bound so
abbrev pub HasName : List (Option Bound) → Left → Type 0
HasName os l = (h : Holder) → l.granted ≡ Some h → (b : Bound) × (slice_get os l.lock ≡ Some (Some b))

all_append : {X : Type 0} (P : X → Type 0) (xs ys : List X) → AllByRecursion P xs → AllByRecursion P ys → AllByRecursion P (xs ++ ys)
all_append P [] ys p q = q
all_append P (x ∷ xs) ys p q = (p.0, all_append P xs ys p.1 q)

module _ (old : NamedView) (c : ℕ) (named : IsNamed (named_of old)) where
  by_held : (n : ℕ) (v : LockView) (o : Option Bound) (held : Bool) → slice_get old.names n ≡ Some o → is_held_by c v.holder ≡ held → IsRightName old.fixed old.top n (lock_of v) o → AllByRecursion (HasName old.names) (left_if c n v held)
  by_held n v o false entry e r = tt
  by_held n v None true entry e r = absurd (free_held c v.holder r.1 e)
  by_held n v (Some b) true entry e r = (λ h f. (b, entry), tt)

  by_lock : (n : ℕ) (o : Option LockView) → slice_get old.locks n ≡ o → AllByRecursion (HasName old.names) (left_at c n o)
  by_lock n None at = tt
  by_lock n (Some v) at =
      let lock : slice_get (locks_of old.locks) n ≡ Some (lock_of v) = view_lock old.locks n v at in
      let lt : n < length (locks_of old.locks) = slice_get_within (locks_of old.locks) n (lock_of v) lock in
      let many : length old.names ≡ length (locks_of old.locks) = named.many in
      let entry = there_is old.names n (omega arith) in
      by_held n v entry.0 (is_held_by c v.holder) entry.1 refl (named.each n (lock_of v) entry.0 lock entry.1)

  pub all_named : (n : ℕ) → AllByRecursion (HasName old.names) (left_of c old.locks n)
  all_named zero = tt
  all_named (suc n) = all_append (HasName old.names) (left_of c old.locks n) (left_at c n (slice_get old.locks n)) (all_named n) (by_lock n (slice_get old.locks n) refl)

-- ---- what is said

abbrev told_grant : Bound → Option Holder → List Said
told_grant b g = grant_said b.name (option_map (told_holder b) g)

-- the answers of the rings
abbrev tellings_left : List Left → List Telling
tellings_left raw = flat_map (λ (l : Left). tellings_of l.lock (other_grant l.granted)) raw

left_lines : (names : Names) (raw : List Left) → lines_of_left names raw ≡ text_of names (tellings_left raw)
left_lines names [] = refl
left_lines names (l ∷ raw) =
    ap (λ (u : List ℕ). u ++ lines_of_left names raw) (lines_are names l.lock (other_grant l.granted))
    ∙ (ap (λ (u : List ℕ). text_of names (tellings_of l.lock (other_grant l.granted)) ++ u) (left_lines names raw)
    ∙ sym (flat_map-append (λ (t : Telling). answer_line t.client (name_of names t.lock) t.said) (tellings_of l.lock (other_grant l.granted)) (tellings_left raw)))

-- one that was left
one_left : (old : NamedView) (l : Left) (more : List Telling) (later : List Said) → AreToldByName old more (lines_of_said later) → (g : Option Holder) → ((h : Holder) → g ≡ Some h → (b : Bound) × (slice_get old.names l.lock ≡ Some (Some b))) →
    AreToldByName old (tellings_of l.lock (other_grant g) ++ more) (lines_of_said (told_grant (bound_or (slice_get old.names l.lock)) g ++ later))
one_left old l more later rest None k = rest
one_left old l more later rest (Some h) k =
    let w = k h refl in
    let same : bound_or (slice_get old.names l.lock) ≡ w.0 = ap (λ (o : Option (Option Bound)). bound_or o) w.1 in
    (w.0, lines_of_said later, inl w.1, ap (λ (z : Bound). lines_of_said (told_grant z (Some h) ++ later)) same, rest)

told_left_by : (old : NamedView) (raw : List Left) → AllByRecursion (HasName old.names) raw → AreToldByName old (tellings_left raw) (lines_of_said (said_left old.names (map (told_left old.names) raw)))
told_left_by old [] all = refl
told_left_by old (l ∷ raw) all = one_left old l (tellings_left raw) (said_left old.names (map (told_left old.names) raw)) (told_left_by old raw all.1) l.granted all.0

-- ---- what a leave is to the rings

module _ (terms : NameTerms) (c : ℕ) (old new : NamingView) (said noted : List ℕ) (t : IsNameToldOfLeave terms.lines.noting c old said noted new) (right : AreRightNames old.named) where
  abbrev raw : List Left
  raw = t.done.raw

  pub left_many : length new.named.locks ≡ length old.named.locks
  left_many = views_long old.named.locks new.named.locks (locks_after (locks_of old.named.locks) (leaves c (length old.named.locks))) t.done.locks.locks (after_long (locks_of old.named.locks) (leaves c (length old.named.locks)))

  pub left_state : named_of new.named ≡ settled (named_of old.named) (map (left_lock c) (locks_of old.named.locks))
  left_state = t.done.named ∙ (leaves_are_settled (named_of old.named) c right.named ∙ ap (λ (ls : List Lock). settled (named_of old.named) ls) (locks_left c (locks_of old.named.locks)))

  all_have : AllByRecursion (HasName old.named.names) raw
  all_have = subst (λ (ls : List Left). AllByRecursion (HasName old.named.names) ls) (sym t.done.locks.told) (all_named old.named c right.named (length old.named.locks))

  text : said ≡ lines_of_said (said_left old.named.names (map (told_left old.named.names) raw))
  text = t.says ∙ ap (λ (ls : List Left). lines_of_said (said_left old.named.names ls)) t.done.told

  plain : IsLeftOf noted (cond terms.lines.noting (notes_of_left new.named.locks raw) [])
  plain =
      let noting : Bool = terms.lines.noting in
      let note : noted ≡ cond noting (notes_of_names_left old.named.fixed new.named.locks (map (told_left old.named.names) raw)) [] = t.notes ∙ ap (λ (ls : List Left). cond noting (notes_of_names_left old.named.fixed new.named.locks ls) []) t.done.told in
      subst (λ (u : List ℕ). IsLeftOf u (cond noting (notes_of_left new.named.locks raw) [])) (sym note)
      (plain_if noting (notes_of_names_left old.named.fixed new.named.locks (map (told_left old.named.names) raw)) (notes_of_left new.named.locks raw) (leave_left old.named.fixed new.named.locks old.named.names raw))

  abbrev numbers : Names
  numbers = numbers_from 0 (length old.named.locks)

  pub leave_is : (line : List ℕ) → IsReadAs line (input.Asked c lines.leave) → IsOne terms old line said noted new
  leave_is line reads =
      let same : line ≡ input_line c lines.leave = reads.1.is in
      let told : IsToldOfLeave terms.lines.noting c (ring_segment old.named) (lines_of_left numbers raw) (without_remarks noted) (ring_segment new.named) = record {
        left = raw;
        done = t.done.locks;
        says = refl;
        notes = plain.left;
        counted = due_counted old.named new.named (count_of_all new.named.locks raw) left_many;
      } in
      record {
        lines = plain.lines;
        is = inr (
          input_line c lines.leave,
          lines_of_left numbers raw,
          record {
            client = c;
            ask = lines.leave;
            reads = reads;
            line_is = refl;
            answered = (input.Asked c lines.leave, subst (λ (u : List ℕ). IsReadAs u (input.Asked c lines.leave)) same reads, told);
            tellings = tellings_left raw;
            text = left_lines numbers raw;
            by_name = subst (λ (u : List ℕ). AreToldByName old.named (tellings_left raw) u) (sym text) (told_left_by old.named raw all_have);
          },
        );
      }
