-- The whole state comes back.
use Rattle.std.proofs.Common.{◌≡◌, ℕ, ◌+◌, ◌%◌, ◌<◌, ◌≤◌, ◌^◌, false, List, [], ◌∷◌, ◌++◌, length, Option, None, refl, ap, sym, subst, ◌∙◌, append_assoc, append-nil, arith}
use Rattle.std.specs.Prelude.{codes}
use Rattle.std.specs.List.{AllByRecursion}
use Rattle.std.proofs.lemmas.Bool.{ne_eqb}
use Rattle.disks.specs.Held.{Held}
use Rattle.text_lines.specs.Spelling.{spaced, ended}
use Rattle.text_lines.specs.Reading.{word_at}
use Rattle.text_lines.specs.LongNumbers.{number_text, decimal_at, order_at}
use Rattle.text_lines.proofs.Numerals.{by_digits}
use Rattle.line_service.specs.Answering.{Answers}
use Rattle.line_service.specs.Stands.{AnsweringWith, by_stand, stand}
use Rattle.line_replica.specs.declared.replica.Replica.{Replica}
use Rattle.line_replica.specs.Reading.{Heard, Plain, heard, with_key, tagged_at, place_at, digest_at}
use Rattle.line_replica.specs.Replies.{IsReplied, IsHeard}
use Rattle.line_replica.specs.Running.{RunningView, at_place, with_said}
use Rattle.line_replica.specs.State.{own_lines}
use Rattle.line_replica.proofs.Given.{whole_line, whole_at}
use Rattle.line_replica.proofs.Hearing.{is_untagged, is_plain}
use Rattle.held_locks.specs.declared.answers.Waiter.{Waiter}
use Rattle.held_locks.specs.Kept.{LockView}
use Rattle.lock_protocol.specs.Names.{Names, IsName, AreNames, name_spaced, name_of}
use Rattle.lock_protocol.proofs.NameTables.{name_there}
use Rattle.lock_service.specs.declared.service.LockService.{LockService}
use Rattle.lock_service.specs.Serving.{IsServed}
use Rattle.lock_journal.specs.State.{holds_from, wait_line, wait_lines, waits_from}
use Rattle.lock_journal.specs.KeysBack.{IsFresh}
use Rattle.lock_service.specs.WaitersBack.{IsOfBits, HaveState, holders_of, waiters_of, waiting_from}
use Rattle.lock_service.specs.StateBack.{locks_in, names_in, HoldsAreFirst, StateComesBack}
use Rattle.lock_journal.proofs.KeyLines.{same_text, number_reads}
use Rattle.lock_journal.proofs.KeysBack.{keys_come_back}
use Rattle.lock_service.proofs.WaitersBack.{waiters_come_back}
use Rattle.lock_service.proofs.WaitingLines.{short}

pub holds_are_first : HoldsAreFirst
holds_are_first r = append_assoc (holds_from (names_in r) 0 (locks_in r)) (waits_from (names_in r) 0 (locks_in r)) (own_lines r)

-- ---- the line of a client that waits is a plain one

-- a number begins with a digit
record Begins (ds : List ℕ) : Type 0 where
  pub digit : ℕ
  pub rest : List ℕ
  pub is : ds ≡ digit ∷ rest
  pub low : digit ≤ 57

begins_more : (ds : List ℕ) (x : ℕ) → Begins ds → Begins (ds ++ x ∷ [])
begins_more ds x b = record { digit = b.digit; rest = b.rest ++ x ∷ []; is = ap (λ (u : List ℕ). u ++ x ∷ []) b.is; low = b.low }

numeral_begins : (n : ℕ) → Begins (number_text n)
numeral_begins n = by_digits (λ m ds. Begins ds) (λ m lt. record { digit = 48 + m; rest = []; is = refl; low = omega (arith, lt) }) (λ m ds ge b. begins_more ds (48 + m % 10) b) n

no_place : (d : ℕ) (rest : List ℕ) → d ≤ 57 → place_at (d ∷ rest) ≡ None
unfolding place_at word_at
no_place d rest le = rw (ne_eqb d 97 (λ e. omega (arith, e, le))) refl

no_digest : (d : ℕ) (rest : List ℕ) → d ≤ 57 → digest_at (d ∷ rest) ≡ None
unfolding digest_at word_at
no_digest d rest le = rw (ne_eqb d 97 (λ e. omega (arith, e, le))) refl

no_number : (client : ℕ) (rest : List ℕ) → client < 2 ^ 64 → tagged_at (spaced client ++ (codes "acquire " ++ rest)) ≡ None
unfolding tagged_at order_at decimal_at
no_number client rest lt = ap with_key (number_reads client (codes "acquire " ++ rest) lt)

wait_plain : (name : List ℕ) (w : Waiter) → IsName name → IsOfBits w → heard (wait_line name w) ≡ Plain
wait_plain name w is_name bits =
    let line = wait_line name w in
    let b = begins_more (number_text w.client) 32 (numeral_begins w.client) in
    let back = codes "acquire " ++ (name_spaced name ++ ended w.label) in
    let is : line ≡ b.digit ∷ (b.rest ++ back) = ap (λ (u : List ℕ). (u ++ 32 ∷ []) ++ back) (same_text w.client bits.0) ∙ ap (λ (u : List ℕ). u ++ back) b.is in
    let place : place_at line ≡ None = ap place_at is ∙ no_place b.digit (b.rest ++ back) b.low in
    let digest : digest_at line ≡ None = ap digest_at is ∙ no_digest b.digit (b.rest ++ back) b.low in
    let tag : tagged_at line ≡ None = no_number w.client (name_spaced name ++ ended w.label) bits.0 in
    sym (is_plain line (sym place) (sym digest) ∙ is_untagged line (short name w is_name bits) (sym tag))

abbrev ArePlain : List (List ℕ) → Type 0
ArePlain lines = AllByRecursion (λ (line : List ℕ). heard line ≡ Plain) lines

plain_then : (xs ys : List (List ℕ)) → ArePlain xs → ArePlain ys → ArePlain (xs ++ ys)
plain_then [] ys a b = b
plain_then (x ∷ xs) ys a b = (a.0, plain_then xs ys a.1 b)

line_plain : (name : List ℕ) (line : List Waiter) → IsName name → AllByRecursion IsOfBits line → ArePlain (wait_lines name line)
line_plain name [] is bits = tt
line_plain name (w ∷ line) is bits = (wait_plain name w is bits.0, line_plain name line is bits.1)

waits_plain : (names : Names) → AreNames names → (vs : List LockView) (k : ℕ) → k + length vs ≤ length names → AllByRecursion (λ (v : LockView). AllByRecursion IsOfBits v.queue) vs → ArePlain (waits_from names k vs)
waits_plain names are [] k few bits = tt
waits_plain names are (v ∷ vs) k few bits =
    plain_then (wait_lines (name_of names k) v.queue) (waits_from names (k + 1) vs) (line_plain (name_of names k) v.queue (name_there names k are (omega (arith, few))).0 bits.0) (waits_plain names are vs (k + 1) (omega (arith, few)) bits.1)

-- ---- plain lines are answered inside, before the first place

module _ {S : Type 0} (A : AnsweringWith S) where
  record Inside (lines more : List (List ℕ)) (old : Replica S) (was : Option Held) (said noted : List ℕ) (new : Replica S) (is : Option Held) : Type 0 where
    pub mid : Replica S
    pub between : Option Held
    pub first : List ℕ
    pub later : List ℕ
    pub note : List ℕ
    pub notes : List ℕ
    pub inner : Answers (by_stand A) (stand old.numbered.inner was) lines first note (stand mid.numbered.inner between)
    pub keys : mid.numbered.keys ≡ old.numbered.keys
    pub running : mid.running ≡ at_place 0 []
    pub says : said ≡ first ++ later
    pub noted_is : noted ≡ note ++ notes
    pub rest : Answers (by_stand (IsReplied A)) (stand mid between) more later notes (stand new is)

  inside : (lines more : List (List ℕ)) (old new : Replica S) (was is : Option Held) (said noted : List ℕ) → ArePlain lines → old.running ≡ at_place 0 [] →
      Answers (by_stand (IsReplied A)) (stand old was) (lines ++ more) said noted (stand new is) → new.lost ≡ false → Inside lines more old was said noted new is
  inside [] more old new was is said noted plain fresh a whole = record {
    mid = old;
    between = was;
    first = [];
    later = said;
    note = [];
    notes = noted;
    inner = (refl, refl, refl);
    keys = refl;
    running = fresh;
    says = refl;
    noted_is = refl;
    rest = a;
  }
  inside (line ∷ lines) more old new was is said noted plain fresh a whole =
      let mid = a.0 in
      let unlost = whole_at A mid.service new mid.files is (lines ++ more) a.2 a.4 a.8 whole in
      let h : IsHeard A Plain old was line a.1 a.3 mid.service mid.files = subst (λ (h : Heard). IsHeard A h old was line a.1 a.3 mid.service mid.files) plain.0 (whole_line A old mid.service was mid.files line a.1 a.3 a.5 unlost) in
      let still : mid.service.running ≡ at_place 0 [] = h.running ∙ ap (λ (r : RunningView). with_said r a.1) fresh in
      let r = inside lines more mid.service new mid.files is a.2 a.4 plain.1 still a.8 whole in
      record {
        mid = r.mid;
        between = r.between;
        first = a.1 ++ r.first;
        later = r.later;
        note = a.3 ++ r.note;
        notes = r.notes;
        inner = (stand mid.service.numbered.inner mid.files, a.1, r.first, a.3, r.note, h.numbered.answered, refl, refl, r.inner);
        keys = r.keys ∙ h.numbered.keys_are;
        running = r.running;
        says = a.6 ∙ ap (λ (u : List ℕ). a.1 ++ u) r.says ∙ sym (append_assoc a.1 r.first r.later);
        noted_is = a.7 ∙ ap (λ (u : List ℕ). a.3 ++ u) r.noted_is ∙ sym (append_assoc a.3 r.note r.notes);
        rest = r.rest;
      }

pub state_comes_back : StateComesBack
state_comes_back source old new was is said noted sound state fresh strict named holds a whole =
    let vs = locks_in source in
    let names = names_in source in
    let many = state.each in
    let q = inside IsServed (waits_from names 0 vs) (own_lines source) old new was is said noted (waits_plain names state.named vs 0 (omega (arith, many)) state.bits) fresh.running a whole in
    let begun : IsFresh q.mid = record { keys = q.keys ∙ fresh.keys; running = q.running } in
    let has : HaveState (names_in old) vs = subst (λ (x : Names). HaveState x vs) (sym named) state in
    let inner : Answers (by_stand IsServed) (stand old.numbered.inner was) (waits_from (names_in old) 0 vs) q.first q.note (stand q.mid.numbered.inner q.between) =
    subst (λ (x : Names). Answers (by_stand IsServed) (stand old.numbered.inner was) (waits_from x 0 vs) q.first q.note (stand q.mid.numbered.inner q.between)) (sym named) q.inner in
    let w = waiters_come_back vs old.numbered.inner q.mid.numbered.inner was q.between q.first q.note strict has holds inner in
    let first : q.first ≡ waiting_from names 0 vs = w.0.says ∙ ap (λ (x : Names). waiting_from x 0 vs) named in
    let k = keys_come_back IsServed source q.mid new q.between is q.later q.notes sound begun q.rest whole in
    let same : locks_in new ≡ locks_in q.mid = ap (λ (s : LockService). s.segment.locks) k.inner in
    record {
      inside = [];
      locks = record {
        says = q.says ∙ ap (λ (u : List ℕ). u ++ q.later) first ∙ ap (λ (u : List ℕ). waiting_from names 0 vs ++ u) k.says ∙ append-nil (waiting_from names 0 vs);
        notes = refl;
        waiters = subst (λ (u : List LockView). waiters_of u ≡ waiters_of vs) (sym same) w.0.waiters;
        holders = subst (λ (u : List LockView). holders_of u ≡ holders_of vs) (sym same) w.0.holders;
      };
      notes = q.noted_is ∙ ap (λ (u : List ℕ). u ++ q.notes) w.0.notes ∙ k.notes;
      keys = k.keys;
      running = k.running;
      files = k.files ∙ w.1;
    }
