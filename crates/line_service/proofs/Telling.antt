-- Lines that are answered, one after the other, and then delivered.
use Rattle.std.proofs.Common.{◌≡◌, ◌≢◌, ◌==◌, ℕ, zero, suc, ◌+◌, ◌-◌, ◌<◌, ◌≤◌, List, [], ◌∷◌, ◌++◌, length, take, get_or, Option, Some, None, Result, Ok, Err, refl, sym, ap, subst, ◌∙◌, inl, inr, ◌⊎◌, append_assoc, length-append, arith}
use Rattle.std.specs.Prelude.{OnOk}
use Rattle.std.proofs.Math.Seq.{take-append_seam}
use Rattle.std.proofs.lemmas.List.{append-nil, take_more, take_all}
use Rattle.std.proofs.lemmas.Bool.{cases_lt}
use Rattle.std.specs.List.{AllByRecursion}
use Rattle.memchr.specs.Find.{Nowhere, Passes, is_byte}
use Rattle.std.specs.Io.KnownBytes.{Appends, Keeps, Consumes}
use Rattle.text_lines.specs.Writing.{Wrote}
use Rattle.text_lines.proofs.Writing.{appends_nil, appends_then}
use Rattle.text_lines.specs.Limits.{line_limit}
use Rattle.line_service.specs.declared.pending.Pending.{Pending}
use Rattle.line_service.specs.declared.faults.LoopFault.{LoopFault}
use Rattle.line_service.specs.declared.faults.LoopFault.TheVariants as fault
use Rattle.line_service.specs.Answering.{Answering, IsLine, HasNoEnd, cut, IsByStart, Answers, joined_lines, AreAnswered}
use Rattle.line_service.specs.Loop.{Written, AreTold, Stops, GoesOn, Rests, IsPartFault}
use Rattle.line_service.proofs.LongLines.{cut_nil}

-- ---- a line that is too long is answered as its start is

cut_short : (full : List ℕ) → length full ≤ line_limit → cut full ≡ full
unfolding cut
cut_short full l = take_all (line_limit + 1) full (omega arith)

pub whole_answer : {S : Type 0} {A : Answering S} {old new : S} {said noted : List ℕ} → IsByStart A → (full : List ℕ) → A old (cut full) said noted new → A old full said noted new
whole_answer {S} {A} {old} {new} {said} {noted} law full a = elim (cases_lt line_limit (length full)) [
  | inl l ↦ law old new full said noted l a
  | inr l ↦ subst (λ (x : List ℕ). A old x said noted new) (cut_short full l) a
]

-- ---- lines after others

answers_then : {S : Type 0} (A : Answering S) (old mid new : S) (lines more : List (List ℕ)) (said later noted notes : List ℕ) → Answers A old lines said noted mid → Answers A mid more later notes new → Answers A old (lines ++ more) (said ++ later) (noted ++ notes) new
answers_then {S} A old mid new [] more said later noted notes h k =
    let a = subst (λ (s : S). Answers A s more later notes new) h.2 k in
    let c = subst (λ (x : List ℕ). Answers A old more (x ++ later) notes new) (sym h.0) a in
    subst (λ (x : List ℕ). Answers A old more (said ++ later) (x ++ notes) new) (sym h.1) c
answers_then A old mid new (line ∷ lines) more said later noted notes h k = (
  h.0,
  h.1,
  h.2 ++ later,
  h.3,
  h.4 ++ notes,
  h.5,
  ap (λ (x : List ℕ). x ++ later) h.6 ∙ append_assoc h.1 h.2 later,
  ap (λ (x : List ℕ). x ++ notes) h.7 ∙ append_assoc h.3 h.4 notes,
  answers_then A h.0 mid new lines more h.2 later h.4 notes h.8 k,
)

joined_then : (lines more : List (List ℕ)) → joined_lines (lines ++ more) ≡ joined_lines lines ++ joined_lines more
joined_then [] more = refl
joined_then (l ∷ lines) more = ap (λ (x : List ℕ). l ++ x) (joined_then lines more) ∙ sym (append_assoc l (joined_lines lines) (joined_lines more))

each_then : (lines more : List (List ℕ)) → AllByRecursion IsLine lines → AllByRecursion IsLine more → AllByRecursion IsLine (lines ++ more)
each_then [] more a b = b
each_then (l ∷ lines) more a b = (a.0, each_then lines more a.1 b)

pub answered_then : {S : Type 0} {A : Answering S} {old mid new : S} {bytes behind rest said noted later notes : List ℕ} → AreAnswered A old bytes behind said noted mid → AreAnswered A mid behind rest later notes new →
    AreAnswered A old bytes rest (said ++ later) (noted ++ notes) new
answered_then {S} {A} {old} {mid} {new} {bytes} {behind} {rest} {said} {noted} {later} {notes} x y = record {
  lines = x.lines ++ y.lines;
  split = x.split ∙ (ap (λ (b : List ℕ). joined_lines x.lines ++ b) y.split ∙ (sym (append_assoc (joined_lines x.lines) (joined_lines y.lines) rest) ∙ ap (λ (b : List ℕ). b ++ rest) (sym (joined_then x.lines y.lines))));
  each = each_then x.lines y.lines x.each y.each;
  answers = answers_then A old mid new x.lines y.lines said later noted notes x.answers y.answers;
}

pub none_answered : {S : Type 0} (A : Answering S) (old : S) (rest : List ℕ) → AreAnswered A old rest rest [] [] old
none_answered A old rest = record { lines = []; split = refl; each = tt; answers = (refl, refl, refl) }

one_answered : {S : Type 0} {A : Answering S} {old new : S} {said noted : List ℕ} (line : List ℕ) → IsLine line → A old line said noted new → AreAnswered A old line [] said noted new
one_answered {S} {A} {old} {new} {said} {noted} line l a = record {
  lines = line ∷ [];
  split = sym (append-nil line) ∙ sym (append-nil (line ++ []));
  each = (l, tt);
  answers = (new, said, [], noted, [], a, sym (append-nil said), sym (append-nil noted), (refl, refl, refl));
}

-- more bytes, which are not looked at yet
pub answered_more : {S : Type 0} {A : Answering S} {old new : S} {bytes rest said noted : List ℕ} (more : List ℕ) → AreAnswered A old bytes rest said noted new → AreAnswered A old (bytes ++ more) (rest ++ more) said noted new
answered_more {rest = rest} more a = record {
  lines = a.lines;
  split = ap (λ (x : List ℕ). x ++ more) a.split ∙ append_assoc (joined_lines a.lines) rest more;
  each = a.each;
  answers = a.answers;
}

pub told_more : {S : Type 0} {A : Answering S} {old new : S} {before after : Written} {bytes rest : List ℕ} (more : List ℕ) → AreTold A old before after bytes rest new → AreTold A old before after (bytes ++ more) (rest ++ more) new
told_more more t = record { said = t.said; noted = t.noted; answered = answered_more more t.answered; wrote = t.wrote; wrote_notes = t.wrote_notes }

-- ---- a piece more of a line

line_ends : (begun piece : List ℕ) → HasNoEnd begun → IsLine piece → IsLine (begun ++ piece)
line_ends [] piece h l = l
line_ends (b ∷ []) [] h l = absurd l
line_ends (b ∷ []) (x ∷ piece) h l = (h.0, l)
line_ends (b ∷ c ∷ bs) piece h l = (h.0, line_ends (c ∷ bs) piece h.1 l)

no_end_more : (begun piece : List ℕ) → HasNoEnd begun → HasNoEnd piece → HasNoEnd (begun ++ piece)
no_end_more [] piece h n = n
no_end_more (x ∷ begun) piece h n = (h.0, no_end_more begun piece h.1 n)

-- within a line
pub piece_more : {S : Type 0} {A : Answering S} {old new : S} {before after : Written} {bytes line : List ℕ} {pending : Pending} (piece line' : List ℕ) (g : GoesOn A old before after bytes new line pending) → HasNoEnd piece → line' ≡ cut (g.begun ++ piece) →
    GoesOn A old before after (bytes ++ piece) new line' pending
piece_more piece line' g n e = record {
  mid = g.mid;
  behind = g.behind ++ piece;
  begun = g.begun ++ piece;
  told = told_more piece g.told;
  untold = answered_more piece g.untold;
  partial = no_end_more g.begun piece g.partial n;
  kept = e;
}

-- the line that a piece ends, after those that were answered
line_more : {S : Type 0} {A : Answering S} {mid now new : S} {behind begun later notes said noted : List ℕ} → IsByStart A → (piece : List ℕ) → IsLine piece → HasNoEnd begun → AreAnswered A mid behind begun later notes now → A now (cut (begun ++ piece)) said noted new →
    AreAnswered A mid (behind ++ piece) [] (later ++ said) (notes ++ noted) new
line_more {begun = begun} law piece l partial u a =
    answered_then (answered_more piece u) (one_answered (begun ++ piece) (line_ends begun piece partial l) (whole_answer law (begun ++ piece) a))

pub line_pending : {S : Type 0} {A : Answering S} {old new new' : S} {before after : Written} {bytes line said noted : List ℕ} {pending : Pending} → IsByStart A → (piece : List ℕ) (g : GoesOn A old before after bytes new line pending) → IsLine piece → A new (cut (g.begun ++ piece)) said noted new' →
    (pending' : Pending) (line' : List ℕ) → pending'.answers.items ≡ pending.answers.items ++ said → pending'.notes.items ≡ pending.notes.items ++ noted → line' ≡ [] → GoesOn A old before after (bytes ++ piece) new' line' pending'
line_pending {S} {A} {new' = new'} {said = said} {noted = noted} {pending = pending} law piece g l a pending' line' p q r =
    let u : AreAnswered A g.mid (g.behind ++ piece) [] (pending.answers.items ++ said) (pending.notes.items ++ noted) new' = line_more law piece l g.partial g.untold a in
    let v = subst (λ (x : List ℕ). AreAnswered A g.mid (g.behind ++ piece) [] x (pending.notes.items ++ noted) new') (sym p) u in
    record {
      mid = g.mid;
      behind = g.behind ++ piece;
      begun = [];
      told = told_more piece g.told;
      untold = subst (λ (x : List ℕ). AreAnswered A g.mid (g.behind ++ piece) [] pending'.answers.items x new') (sym q) v;
      partial = tt;
      kept = r ∙ cut_nil;
    }

-- ---- where it stops

wrote_whole : (a b : Option (List ℕ)) (text : List ℕ) → Appends a b text → Wrote a b text []
wrote_whole a b text h = (text, sym (append-nil text), h)

appends_same : (a b : Option (List ℕ)) (x y : List ℕ) → x ≡ y → Appends a b x → Appends a b y
appends_same a b x y e h = subst (λ (t : List ℕ). Appends a b t) e h

-- after the delivered lines these were answered, and nothing of that has left
pub stops_untold : {S : Type 0} {A : Answering S} {old mid new : S} {before after : Written} {bytes behind rest unsaid notes : List ℕ} → AreTold A old before after bytes behind mid → AreAnswered A mid behind rest unsaid notes new →
    Stops A old before after bytes new
stops_untold {mid = mid} {before = before} {after = after} {behind = behind} {rest = rest} {unsaid = unsaid} {notes = notes} t u = record {
  mid = mid;
  behind = behind;
  rest = rest;
  said = t.said;
  noted = t.noted;
  unsaid = unsaid;
  front = [];
  back = notes;
  left = [];
  told = t.answered;
  untold = u;
  wrote = wrote_whole before.out after.out t.said t.wrote;
  wrote_notes = appends_same before.journal after.journal t.noted (t.noted ++ []) (sym (append-nil t.noted)) t.wrote_notes;
}

pub goes_stops : {S : Type 0} {A : Answering S} {old new : S} {before after : Written} {bytes line : List ℕ} {pending : Pending} → GoesOn A old before after bytes new line pending → Stops A old before after bytes new
goes_stops g = stops_untold g.told g.untold

pub told_stops : {S : Type 0} {A : Answering S} {old new : S} {before after : Written} {bytes rest : List ℕ} → AreTold A old before after bytes rest new → Stops A old before after bytes new
told_stops {S} {A} {new = new} {rest = rest} t = stops_untold t (none_answered A new rest)

pub rests_stops : {S : Type 0} {A : Answering S} {old new : S} {before after : Written} {bytes line : List ℕ} → Rests A old before after bytes new line → Stops A old before after bytes new
rests_stops r = told_stops r.told

-- a line was answered, and not all of that is pending
pub line_stops : {S : Type 0} {A : Answering S} {old new new' : S} {before after : Written} {bytes line said noted : List ℕ} {pending : Pending} → IsByStart A → (piece : List ℕ) (g : GoesOn A old before after bytes new line pending) → IsLine piece → A new (cut (g.begun ++ piece)) said noted new' →
    Stops A old before after (bytes ++ piece) new'
line_stops law piece g l a = stops_untold (told_more piece g.told) (line_more law piece l g.partial g.untold a)

-- the bytes that were not read any more
pub stops_more : {S : Type 0} {A : Answering S} {old new : S} {before after : Written} {bytes : List ℕ} (more : List ℕ) → Stops A old before after bytes new → Stops A old before after (bytes ++ more) new
stops_more more s = record {
  mid = s.mid;
  behind = s.behind ++ more;
  rest = s.rest ++ more;
  said = s.said;
  noted = s.noted;
  unsaid = s.unsaid;
  front = s.front;
  back = s.back;
  left = s.left;
  told = answered_more more s.told;
  untold = answered_more more s.untold;
  wrote = s.wrote;
  wrote_notes = s.wrote_notes;
}

-- ---- the pending answers leave

-- the journal could not be written
pub journal_stops : {S : Type 0} {A : Answering S} {old new : S} {before : Written} {bytes line : List ℕ} {pending : Pending} (journal after out : Option (List ℕ)) (left : List ℕ) → GoesOn A old before (record { journal = journal; out = out }) bytes new line pending →
    Wrote journal after pending.notes.items left → Stops A old before (record { journal = after; out = out }) bytes new
journal_stops {S} {A} {new = new} {before = before} {pending = pending} journal after out left g w = record {
  mid = g.mid;
  behind = g.behind;
  rest = g.begun;
  said = g.told.said;
  noted = g.told.noted;
  unsaid = pending.answers.items;
  front = w.0;
  back = left;
  left = [];
  told = g.told.answered;
  untold = subst (λ (x : List ℕ). AreAnswered A g.mid g.behind g.begun pending.answers.items x new) w.1 g.untold;
  wrote = wrote_whole before.out out g.told.said g.told.wrote;
  wrote_notes = appends_then before.journal journal after g.told.noted w.0 g.told.wrote_notes w.2;
}

-- it was, and the output could not be
pub out_stops : {S : Type 0} {A : Answering S} {old new : S} {before : Written} {bytes line : List ℕ} {pending : Pending} (journal after out end : Option (List ℕ)) (left : List ℕ) → GoesOn A old before (record { journal = journal; out = out }) bytes new line pending →
    Appends journal after pending.notes.items → Wrote out end pending.answers.items left → Stops A old before (record { journal = after; out = end }) bytes new
out_stops {S} {A} {new = new} {before = before} {pending = pending} journal after out end left g n w =
    let notes = g.told.noted ++ pending.notes.items in
    record {
      mid = new;
      behind = g.begun;
      rest = g.begun;
      said = g.told.said ++ pending.answers.items;
      noted = notes;
      unsaid = [];
      front = [];
      back = [];
      left = left;
      told = answered_then g.told.answered g.untold;
      untold = none_answered A new g.begun;
      wrote = (g.told.said ++ w.0, ap (λ (x : List ℕ). g.told.said ++ x) w.1 ∙ sym (append_assoc g.told.said w.0 left), appends_then before.out out end g.told.said w.0 g.told.wrote w.2);
      wrote_notes = appends_same before.journal after notes (notes ++ []) (sym (append-nil notes)) (appends_then before.journal journal after g.told.noted pending.notes.items g.told.wrote_notes n);
    }

-- both were
pub all_told : {S : Type 0} {A : Answering S} {old new : S} {before : Written} {bytes line : List ℕ} {pending : Pending} (journal after out end : Option (List ℕ)) → GoesOn A old before (record { journal = journal; out = out }) bytes new line pending →
    Appends journal after pending.notes.items → Appends out end pending.answers.items → Rests A old before (record { journal = after; out = end }) bytes new line
all_told {before = before} {pending = pending} journal after out end g n a = record {
  begun = g.begun;
  told = record {
    said = g.told.said ++ pending.answers.items;
    noted = g.told.noted ++ pending.notes.items;
    answered = answered_then g.told.answered g.untold;
    wrote = appends_then before.out out end g.told.said pending.answers.items g.told.wrote a;
    wrote_notes = appends_then before.journal journal after g.told.noted pending.notes.items g.told.wrote_notes n;
  };
  partial = g.partial;
  kept = g.kept;
}

-- and then more is read
pub rests_goes : {S : Type 0} {A : Answering S} {old new : S} {before after : Written} {bytes line : List ℕ} (pending : Pending) → pending.answers.items ≡ [] → pending.notes.items ≡ [] → Rests A old before after bytes new line → GoesOn A old before after bytes new line pending
rests_goes {S} {A} {new = new} pending p q r =
    let u = subst (λ (x : List ℕ). AreAnswered A new r.begun r.begun x [] new) (sym p) (none_answered A new r.begun) in
    record {
      mid = new;
      behind = r.begun;
      begun = r.begun;
      told = r.told;
      untold = subst (λ (x : List ℕ). AreAnswered A new r.begun r.begun pending.answers.items x new) (sym q) u;
      partial = r.partial;
      kept = r.kept;
    }

pub none_told : {S : Type 0} (A : Answering S) (old : S) (before : Written) → Rests A old before before [] old []
none_told A old before = record {
  begun = [];
  told = record { said = []; noted = []; answered = none_answered A old []; wrote = appends_nil before.out; wrote_notes = appends_nil before.journal };
  partial = tt;
  kept = cut_nil;
}

-- ---- the pieces of a block

-- no LF before a place, and none there
pub no_end_next : (xs : List ℕ) (i : ℕ) → i < length xs → HasNoEnd (take i xs) → get_or xs i 0 ≢ 10 → HasNoEnd (take (i + 1) xs)
no_end_next xs i l h n = subst HasNoEnd (sym (take_more xs i 0 l)) (no_end_more (take i xs) (get_or xs i 0 ∷ []) h (n, tt))

-- or one
pub line_at : (xs : List ℕ) (i : ℕ) → i < length xs → HasNoEnd (take i xs) → get_or xs i 0 ≡ 10 → IsLine (take (i + 1) xs)
line_at xs i l h e = subst IsLine (sym (take_more xs i 0 l)) (line_ends (take i xs) (get_or xs i 0 ∷ []) h e)

-- as far as a search for one got
pub no_end_before : (xs : List ℕ) (k : ℕ) → k ≤ length xs → Nowhere (Passes (is_byte 10) xs) 0 k → HasNoEnd (take k xs)
no_end_before xs zero l h = tt
no_end_before xs (suc k) l h =
    let one : k + 1 ≡ suc k = omega arith in
    let below : k < length xs = omega arith in
    let before : HasNoEnd (take k xs) = no_end_before xs k (omega arith) (λ j low high. h j low (omega arith)) in
    subst (λ (m : ℕ). HasNoEnd (take m xs)) one (no_end_next xs k below before (λ e. h k (omega arith) (omega arith) (ap (λ (x : ℕ). x == 10) e)))

pub no_end_all : (xs : List ℕ) (i : ℕ) → length xs ≤ i → HasNoEnd (take i xs) → HasNoEnd xs
no_end_all xs i l h = subst HasNoEnd (take_all i xs l) h

-- a piece was taken of the rest of a block
pub piece_taken : (block taken rest piece more : List ℕ) → block ≡ taken ++ rest → rest ≡ piece ++ more → block ≡ (taken ++ piece) ++ more
piece_taken block taken rest piece more e f = e ∙ (ap (λ (x : List ℕ). taken ++ x) f ∙ sym (append_assoc taken piece more))

pub block_rest : (bytes block taken rest piece more : List ℕ) → block ≡ taken ++ rest → rest ≡ piece ++ more → ((bytes ++ taken) ++ piece) ++ more ≡ bytes ++ block
block_rest bytes block taken rest piece more e f =
    append_assoc (bytes ++ taken) piece more
    ∙ (ap (λ (x : List ℕ). (bytes ++ taken) ++ x) (sym f) ∙ (append_assoc bytes taken rest ∙ ap (λ (x : List ℕ). bytes ++ x) (sym e)))

-- the front of a block, by how many bytes it has
pub front_taken : (block front more : List ℕ) (n : ℕ) → block ≡ front ++ more → n ≡ length block - length more → take n block ≡ front
front_taken block front more n e k =
    let long : length block ≡ length front + length more = ap (λ (x : List ℕ). length x) e ∙ length-append front more in
    let size : n ≡ length front = omega (arith, long, k) in
    ap (λ (m : ℕ). take m block) size ∙ (ap (λ (x : List ℕ). take (length front) x) e ∙ take-append_seam front more)

-- ---- the bytes that a reader gave

pub consumes_nil : (a : Option (List ℕ)) → Consumes a a []
consumes_nil None = tt
consumes_nil (Some xs) = refl

pub consumes_then : (a b c : Option (List ℕ)) (x y : List ℕ) → Consumes a b x → Consumes b c y → Consumes a c (x ++ y)
consumes_then None b c x y p q = tt
consumes_then (Some xs) None c x y p q = absurd p
consumes_then (Some xs) (Some ys) None x y p q = absurd q
consumes_then (Some xs) (Some ys) (Some zs) x y p q = p ∙ (ap (λ (u : List ℕ). x ++ u) q ∙ sym (append_assoc x y zs))

pub consumes_kept : (a b c : Option (List ℕ)) (x : List ℕ) → Consumes a b x → Keeps b c → Consumes a c x
consumes_kept None b c x p q = tt
consumes_kept (Some xs) None c x p q = absurd p
consumes_kept (Some xs) (Some ys) None x p q = absurd q
consumes_kept (Some xs) (Some ys) (Some zs) x p q = p ∙ ap (λ (u : List ℕ). x ++ u) (sym q)

-- ---- small steps of the code

pub both_ok : {E : Type 0} (r : Result (Unit {0}) E) (A B : Type 0) → OnOk r A → OnOk r B → OnOk r (A × B)
both_ok (Ok u) A B a b = (a, b)
both_ok (Err e) A B a b = tt

pub same_line : {S : Type 0} (A : Answering S) {old new : S} {x y said noted : List ℕ} → x ≡ y → A old x said noted new → A old y said noted new
same_line {S} A {old} {new} {x} {y} {said} {noted} e a = subst (λ (l : List ℕ). A old l said noted new) e a

-- any other fault
pub not_long : (e : LoopFault) (unread rest : Option (List ℕ)) → (e ≡ fault.TooLong → ⊥) → IsPartFault e unread rest
not_long fault.Read unread rest n = tt
not_long fault.Journal unread rest n = tt
not_long fault.Write unread rest n = tt
not_long fault.OutOfMemory unread rest n = tt
not_long fault.TooLong unread rest n = absurd (n refl)

-- a line could not be answered, or not all of that is pending
pub fails_line : {S : Type 0} {A : Answering S} {old new new' : S} {before after : Written} {bytes line : List ℕ} {pending : Pending} → IsByStart A → (piece : List ℕ) (g : GoesOn A old before after bytes new line pending) → IsLine piece → (x : List ℕ) → x ≡ cut (g.begun ++ piece) →
    (new' ≡ new) ⊎ ((said : List ℕ) × (noted : List ℕ) × A new x said noted new') → Stops A old before after (bytes ++ piece) new'
fails_line {S} {A} {old} {new} {new'} {before} {after} {bytes} law piece g l x same (inl q) = subst (λ (s : S). Stops A old before after (bytes ++ piece) s) (sym q) (stops_more piece (goes_stops g))
fails_line {S} {A} law piece g l x same (inr a) = line_stops law piece g l (same_line A same a.2)
