-- What a replica keeps can be written as lines, whatever was asked.
use Rattle.std.proofs.Common.{◌≡◌, ℕ, ◌+◌, Bool, true, false, List, [], ◌∷◌, ◌++◌, length, Option, Some, None, refl, sym, ◌∙◌, ap, subst, inl, inr, arith, ◌<◌, ◌^◌, append_assoc, take, cond, eqb, append-nil, ◌≤◌, Result, Ok, Err, length-append, ◌⊎◌}
use Rattle.std.specs.Prelude.{codes}
use Rattle.std.specs.List.{AllByRecursion}
use Rattle.std.specs.declared.cmp.Ordering.{Ordering}
use Rattle.std.specs.declared.cmp.Ordering.TheVariants.{Greater, Less, Equal}
use Rattle.std.specs.Ordering.{nat_cmp, match_ordering}
use Rattle.std.specs.Cmp.{ranked}
use Rattle.std.specs.BTreeMap.{insert_entry, is_at}
use Rattle.std.specs.Map.{remove_entry}
use Rattle.std.proofs.lemmas.Bool.{true≢false}
use Rattle.disks.specs.Held.{Held}
use Rattle.text_lines.specs.declared.fault.Fault.{Fault}
use Rattle.lock_protocol.proofs.Fronts.{some_is}
use Rattle.text_lines.specs.Spelling.{spaced}
use Rattle.text_lines.specs.Reading.{word_at}
use Rattle.text_lines.specs.Limits.{line_limit}
use Rattle.text_lines.specs.LongNumbers.{order_at}
use Rattle.line_service.specs.Answering.{IsLine, HasNoEnd}
use Rattle.line_service.specs.Stands.{AnsweringWith}
use Rattle.segment_files.specs.Spelling.{DigestFits, digest_digits}
use Rattle.line_replica.specs.declared.replica.Replica.{Replica}
use Rattle.line_replica.specs.Keys.{ToldView, Table, first_line, with_told, last_of, without, turn_by, turn_after, line_to_asker, forgotten_if}
use Rattle.line_replica.specs.Reading.{Place, heard, Heard, Tagged, Digest, Plain, on_read, did_at, kept_text, is_forget, is_to_asker}
use Rattle.line_replica.specs.Replies.{IsTold, IsTagTaken, IsPlaced, IsHeard, IsAnsweredOnce, turn_of, forget_note}
use Rattle.line_replica.specs.Running.{RunningView, at_place, place_line, with_said, grown, next_of}
use Rattle.line_replica.specs.State.{key_line, did_text, key_lines, lines_at}
use Rattle.line_replica.proofs.Given.{whole_line}
use Rattle.text_lines.proofs.Spellings.{word_is}
use Rattle.lock_journal.proofs.Digests.{digest_of_fits, no_digest_fits}
use Rattle.lock_journal.proofs.Heard.{IsOfKey, IsReadSo, read_so}
use Rattle.lock_journal.proofs.KeyLines.{first_digits, spaced_short}
use Rattle.lock_journal.proofs.LineParts.{line_after, line_rest, spaced_ends, digits_end}
use Rattle.lock_journal.specs.KeysBack.{IsFirst, IsKept, IsRising, IsBehind, IsRunning, at_last, FreshIsSound, IsKeepable, SoundStays, OwnLinesAreLines, PlacesAreLast}

pub fresh_is_sound : {S : Type 0} (A : AnsweringWith S) → FreshIsSound A
fresh_is_sound A r fresh = record {
  rising = subst (λ (t : Table). IsRising t) (sym fresh.keys) tt;
  each = subst (λ (t : Table). AllByRecursion IsKept t) (sym fresh.keys) tt;
  running = inl fresh.running;
}

-- ---- keys

-- what is true of each entry, and of the new one
pub inserted : (P : ℕ × ToldView → Type 0) (es : Table) (k : ℕ) (v : ToldView) → AllByRecursion P es → P (k, v) → AllByRecursion P (insert_entry nat_cmp es k v)
inserted P [] k v all new = (new, tt)
inserted P (e ∷ es) k v all new =
    elim (nat_cmp k e.0) as (λ r. r ≡ nat_cmp k e.0 → AllByRecursion P (match_ordering r ((k, v) ∷ e ∷ es) ((e.0, v) ∷ es) (e ∷ insert_entry nat_cmp es k v))) [
      | Less ↦ λ p. (new, all)
      | Equal ↦ λ p. (subst (λ (q : ℕ). P (q, v)) (ranked k e.0 Equal p) new, all.1)
      | Greater ↦ λ p. (all.0, inserted P es k v all.1 new)
    ] refl

all_or_less : (P : ℕ × ToldView → Type 0) (b : Bool) (e : ℕ × ToldView) (es less : Table) → AllByRecursion P (e ∷ es) → AllByRecursion P less → AllByRecursion P (cond b es (e ∷ less))
all_or_less P true e es less all fewer = all.1
all_or_less P false e es less all fewer = (all.0, fewer)

pub taken_out : (P : ℕ × ToldView → Type 0) (test : ℕ → Bool) (es : Table) → AllByRecursion P es → AllByRecursion P (remove_entry test es)
taken_out P test [] all = tt
taken_out P test (e ∷ es) all = all_or_less P (test e.0) e es (remove_entry test es) all (taken_out P test es all.1)

above_all : (k : ℕ) (v : ToldView) (e : ℕ × ToldView) (es : Table) → k < e.0 → AllByRecursion (λ (d : ℕ × ToldView). e.0 < d.0) es → AllByRecursion (λ (d : ℕ × ToldView). k < d.0) es
above_all k v e [] lt all = tt
above_all k v e (d ∷ ds) lt all = ((let first : e.0 < d.0 = all.0 in omega (arith, lt, first)), above_all k v e ds lt all.1)

rising_inserted : (es : Table) (k : ℕ) (v : ToldView) → IsRising es → IsRising (insert_entry nat_cmp es k v)
rising_inserted [] k v rising = (tt, tt)
rising_inserted (e ∷ es) k v rising =
    elim (nat_cmp k e.0) as (λ r. r ≡ nat_cmp k e.0 → IsRising (match_ordering r ((k, v) ∷ e ∷ es) ((e.0, v) ∷ es) (e ∷ insert_entry nat_cmp es k v))) [
      | Less ↦ λ p. ((ranked k e.0 Less p, above_all k v e es (ranked k e.0 Less p) rising.0), rising)
      | Equal ↦ λ p. (rising.0, rising.1)
      | Greater ↦ λ p. (inserted (λ (d : ℕ × ToldView). e.0 < d.0) es k v rising.0 (ranked k e.0 Greater p), rising_inserted es k v rising.1)
    ] refl

rising_or_less : (b : Bool) (e : ℕ × ToldView) (es less : Table) → IsRising es → IsRising (e ∷ less) → IsRising (cond b es (e ∷ less))
rising_or_less true e es less rising fewer = rising
rising_or_less false e es less rising fewer = fewer

rising_taken_out : (test : ℕ → Bool) (es : Table) → IsRising es → IsRising (remove_entry test es)
rising_taken_out test [] rising = tt
rising_taken_out test (e ∷ es) rising = rising_or_less (test e.0) e es (remove_entry test es) rising.1 (taken_out (λ (d : ℕ × ToldView). e.0 < d.0) test es rising.0, rising_taken_out test es rising.1)

-- keys that can be written as lines
record AreKept (keys : Table) : Type 0 where
  pub rising : IsRising keys
  pub each : AllByRecursion IsKept keys

kept_inserted : (keys : Table) (k n : ℕ) (first : List ℕ) → AreKept keys → IsKept (k, record { number = n; first = first }) → AreKept (with_told keys k n first)
kept_inserted keys k n first kept one = record {
  rising = rising_inserted keys k (record { number = n; first = first }) kept.rising;
  each = inserted IsKept keys k (record { number = n; first = first }) kept.each one;
}

kept_without : (keys : Table) (k : ℕ) → AreKept keys → AreKept (without keys k)
kept_without keys k kept = record {
  rising = rising_taken_out (is_at (nat_cmp k)) keys kept.rising;
  each = taken_out IsKept (is_at (nat_cmp k)) keys kept.each;
}

-- ---- the line of a key

-- the part before the first line
key_front : (k n : ℕ) → k < 2 ^ 64 → n < 2 ^ 64 → (text : List ℕ) → length (spaced k ++ (spaced n ++ (codes "did " ++ text))) ≤ 46 + length text
key_front k n few small text =
    let a = length-append (spaced k) (spaced n ++ (codes "did " ++ text)) in
    let b = length-append (spaced n) (codes "did " ++ text) in
    let c = length-append (codes "did ") text in
    omega (arith, spaced_short k few, spaced_short n small, a, b, c)

none_kept : (k n : ℕ) → k < 2 ^ 64 → n < 2 ^ 64 → IsKept (k, record { number = n; first = [] })
none_kept k n few small = record {
  key = few;
  number = small;
  first = inl refl;
  short = let s = key_front k n few small (codes "\n") in omega (arith, s);
}

-- by the first line of an answer
pub answer_kept : (k n : ℕ) → k < 2 ^ 64 → n < 2 ^ 64 → (first : List ℕ) → IsFirst first → length first + 46 ≤ line_limit → IsKept (k, record { number = n; first = first })
answer_kept k n few small [] is short = none_kept k n few small
answer_kept k n few small (b ∷ bs) is short = record {
  key = few;
  number = small;
  first = is;
  short = let s = key_front k n few small (b ∷ bs) in omega (arith, s, short);
}

-- the same where it is kept only if it is for the client that asked
pub own_kept : (k n : ℕ) → k < 2 ^ 64 → n < 2 ^ 64 → (told : Bool) (first : List ℕ) → IsFirst first → length first + 46 ≤ line_limit → IsKept (k, record { number = n; first = cond told first [] })
own_kept k n few small true first is short = answer_kept k n few small first is short
own_kept k n few small false first is short = none_kept k n few small

pub did_is : (rest text : List ℕ) → did_at rest ≡ Some text → rest ≡ codes "did " ++ text
unfolding did_at
did_is rest text e = of (word_at (codes "did ") rest) refl e
  where
    of : (r : Result (List ℕ) Fault) → word_at (codes "did ") rest ≡ r → on_read {X = Option (List ℕ)} r None Some ≡ Some text → rest ≡ codes "did " ++ text
    of (Ok more) p q = word_is (codes "did ") rest more p ∙ ap (λ (u : List ℕ). codes "did " ++ u) (some_is more text q)
    of (Err f) p q = absurd cc

two_are : (b c : ℕ) (bs : List ℕ) → ◌≡◌ {A = List ℕ} (b ∷ c ∷ bs) (10 ∷ []) → ⊥
two_are b c bs e = cc

parted : (a b c d : List ℕ) → a ++ (b ++ (c ++ d)) ≡ (a ++ (b ++ c)) ++ d
parted a b c d = sym (append_assoc a (b ++ c) d ∙ ap (λ (u : List ℕ). a ++ u) (append_assoc b c d))

-- by the text that a line gives
pub text_kept : (k n : ℕ) (text line : List ℕ) → IsLine line → IsOfKey k n (codes "did " ++ text) line → IsKept (k, record { number = n; first = kept_text text })
text_kept k n [] line is of = none_kept k n of.key_small of.number_small
text_kept k n (b ∷ []) line is of = by (eqb b 10) refl
  where
    end : IsLine (b ∷ [])
    end = line_rest (spaced k ++ (spaced n ++ codes "did ")) b [] (subst (λ (u : List ℕ). IsLine u) (of.is ∙ parted (spaced k) (spaced n) (codes "did ") (b ∷ [])) is)

    by : (t : Bool) → eqb b 10 ≡ t → IsKept (k, record { number = n; first = cond t [] (b ∷ []) })
    by true e = none_kept k n of.key_small of.number_small
    by false e = absurd (true≢false (sym (ap (λ (x : ℕ). eqb x 10) end) ∙ e))
text_kept k n (b ∷ c ∷ bs) line is of = record {
  key = of.key_small;
  number = of.number_small;
  first = inr (line_rest (spaced k ++ (spaced n ++ codes "did ")) b (c ∷ bs) (subst (λ (u : List ℕ). IsLine u) (of.is ∙ parted (spaced k) (spaced n) (codes "did ") (b ∷ c ∷ bs)) is), (λ e. two_are b c bs e));
  short = subst (λ (u : List ℕ). length u ≤ line_limit) of.is of.short;
}

-- ---- the digest

pub grown_after : (since digest told said : List ℕ) → length digest ≡ digest_digits → since ≡ digest ++ told → grown since said ≡ digest ++ (told ++ said)
grown_after [] digest told said long e =
    let same : length digest ≡ 64 = long in
    let none : 0 ≡ length digest + length told = ap length e ∙ length-append digest told in
    absurd (omega (arith, same, none))
grown_after (b ∷ bs) digest told said long e = ap (λ (u : List ℕ). u ++ said) e ∙ append_assoc digest told said

pub runs_on : (r : RunningView) (said : List ℕ) → IsRunning r → IsRunning (with_said r said)
runs_on r said (inl fresh) = inl (ap (λ (v : RunningView). with_said v said) fresh)
runs_on r said (inr b) = inr (record {
  place = b.place;
  digest = b.digest;
  told = b.told ++ said;
  since = grown_after r.since b.digest b.told said b.digits.long b.since;
  digits = b.digits;
})

pub at_digest : (place : ℕ) (digest : List ℕ) → place < 2 ^ 64 → DigestFits digest → IsBehind (at_place place digest)
at_digest place digest lt fits = record { place = lt; digest = digest; told = []; since = sym (append-nil digest); digits = fits }

pub next_fits : (since : List ℕ) → DigestFits (next_of since)
next_fits [] = no_digest_fits
next_fits (b ∷ bs) = digest_of_fits (b ∷ bs)

-- ---- each line

module _ {S : Type 0} (A : AnsweringWith S) (old new : Replica S) (was is : Option Held) (said noted : List ℕ) (kept : AreKept old.numbered.keys) (begins : IsKeepable said) where
  still : (keys : Table) → AreKept keys → new.numbered.keys ≡ keys → AreKept new.numbered.keys
  still keys k e = subst (λ (t : Table). AreKept t) (sym e) k

  module _ (k n : ℕ) (few : k < 2 ^ 64) (small : n < 2 ^ 64) (rest : List ℕ) where
    by_rank : (last : ℕ) (r : Ordering) → IsAnsweredOnce A (turn_by r last) (record { key = k; number = n }) old.numbered was rest said noted new.numbered is → AreKept new.numbered.keys
    by_rank last Less t = still old.numbered.keys kept t.keys_are
    by_rank last Equal t = still old.numbered.keys kept t.keys_are
    by_rank last Greater t = still _ (kept_inserted old.numbered.keys k n (line_to_asker rest said) kept (own_kept k n few small (is_to_asker (order_at 32 rest) said) (first_line said) begins.first begins.short)) t.keys_are

    by_last : (o : Option ℕ) → IsAnsweredOnce A (turn_after o n) (record { key = k; number = n }) old.numbered was rest said noted new.numbered is → AreKept new.numbered.keys
    by_last None t = still _ (kept_inserted old.numbered.keys k n (line_to_asker rest said) kept (own_kept k n few small (is_to_asker (order_at 32 rest) said) (first_line said) begins.first begins.short)) t.keys_are
    by_last (Some last) t = by_rank last (nat_cmp n last) t

    forgotten_at : (last : ℕ) (r : Ordering) → AreKept (forgotten_if (turn_by r last) old.numbered.keys k)
    forgotten_at last Less = kept
    forgotten_at last Equal = kept_without old.numbered.keys k kept
    forgotten_at last Greater = kept

    forgotten : (o : Option ℕ) → AreKept (forgotten_if (turn_after o n) old.numbered.keys k)
    forgotten None = kept
    forgotten (Some last) = forgotten_at last (nat_cmp n last)

    by_word : (b : Bool) →
        cond b (IsTold [] (forgotten_if (turn_of old.numbered.keys (record { key = k; number = n })) old.numbered.keys k) (forget_note (turn_of old.numbered.keys (record { key = k; number = n })) (record { key = k; number = n })) old.numbered was said noted new.numbered is)
        (IsAnsweredOnce A (turn_of old.numbered.keys (record { key = k; number = n })) (record { key = k; number = n }) old.numbered was rest said noted new.numbered is) →
        AreKept new.numbered.keys
    by_word true t = still _ (forgotten (last_of old.numbered.keys k)) t.keys_are
    by_word false t = by_last (last_of old.numbered.keys k) t

    behind : (line : List ℕ) → IsLine line → IsOfKey k n rest line → (d : Option (List ℕ)) → did_at rest ≡ d → IsTagTaken A d (record { key = k; number = n }) old.numbered was rest said noted new.numbered is → AreKept new.numbered.keys
    behind line is_line of (Some text) e t =
        let spelled : IsOfKey k n (codes "did " ++ text) line = subst (λ (u : List ℕ). IsOfKey k n u line) (did_is rest text e) of in
        still _ (kept_inserted old.numbered.keys k n (kept_text text) kept (text_kept k n text line is_line spelled)) t.keys_are
    behind line is_line of None e t = by_word (is_forget rest) t

  by_heard : (line : List ℕ) → IsLine line → (h : Heard) → IsReadSo line h → IsHeard A h old was line said noted new is → AreKept new.numbered.keys
  by_heard line is_line (Tagged tag rest) of a = behind tag.key tag.number of.key_small of.number_small rest line is_line of (did_at rest) refl a.numbered
  by_heard line is_line (Place place) of a = still old.numbered.keys kept (ap (λ n. n.keys) a.numbered)
  by_heard line is_line (Digest place digest) of a = still old.numbered.keys kept (ap (λ n. n.keys) a.numbered)
  by_heard line is_line Plain of a = still old.numbered.keys kept a.numbered.keys_are

  runs : (line : List ℕ) → IsRunning old.running → (h : Heard) → IsReadSo line h → IsHeard A h old was line said noted new is → IsRunning new.running
  runs line r (Tagged tag rest) of a = subst (λ (v : RunningView). IsRunning v) (sym a.running) (runs_on old.running said r)
  runs line r (Place place) of a = subst (λ (v : RunningView). IsRunning v) (sym a.running) (inr (at_digest place (next_of old.running.since) of (next_fits old.running.since)))
  runs line r (Digest place digest) of a = subst (λ (v : RunningView). IsRunning v) (sym a.running) (inr (at_digest place digest of.0 of.1))
  runs line r Plain of a = subst (λ (v : RunningView). IsRunning v) (sym a.running) (runs_on old.running said r)

pub sound_stays : {S : Type 0} (A : AnsweringWith S) → SoundStays A
sound_stays A old new was is line said noted sound is_line begins r whole =
    let h = whole_line A old new was is line said noted r whole in
    let kept : AreKept old.numbered.keys = record { rising = sound.rising; each = sound.each } in
    let keys = by_heard A old new was is said noted kept begins line is_line (heard line) (read_so line) h in
    record {
      rising = keys.rising;
      each = keys.each;
      running = runs A old new was is said noted kept begins line sound.running (heard line) (read_so line) h;
    }

pub places_are_last : {S : Type 0} (A : AnsweringWith S) → PlacesAreLast A
places_are_last A old new was is place line said noted sound e r whole =
    let p : IsPlaced place (next_of old.running.since) (place_line place (next_of old.running.since)) old was said noted new is =
    subst (λ (h : Heard). IsHeard A h old was line said noted new is) e (whole_line A old new was is line said noted r whole) in
    let digest = next_of old.running.since in
    let all : take digest_digits digest ≡ digest = ap (take digest_digits) (sym (append-nil digest)) ∙ first_digits digest [] (next_fits old.running.since).long in
    subst (λ (v : RunningView). at_last v ≡ v) (sym p.running) (ap (at_place place) all)

-- ---- the lines of a state

pub word_ends : HasNoEnd (codes "did ")
word_ends = ((λ e. omega (arith, e)), ((λ e. omega (arith, e)), ((λ e. omega (arith, e)), ((λ e. omega (arith, e)), tt))))

at_ends : HasNoEnd (codes "at ")
at_ends = ((λ e. omega (arith, e)), ((λ e. omega (arith, e)), ((λ e. omega (arith, e)), tt)))

first_is_line : (first : List ℕ) → IsFirst first → IsLine (did_text first)
first_is_line [] f = refl
first_is_line (b ∷ bs) (inl e) = absurd cc
first_is_line (b ∷ bs) (inr f) = f.0

pub key_is_line : (e : ℕ × ToldView) → IsKept e → IsLine (key_line e)
key_is_line e kept =
    line_after (spaced e.0) _ (spaced_ends e.0 kept.key)
    (line_after (spaced e.1.number) _ (spaced_ends e.1.number kept.number)
    (line_after (codes "did ") (did_text e.1.first) (word_ends) (first_is_line e.1.first kept.first)))

keys_are_lines : (keys : Table) (more : List (List ℕ)) → AllByRecursion IsKept keys → AllByRecursion IsLine more → AllByRecursion IsLine (key_lines keys ++ more)
keys_are_lines [] more kept all = all
keys_are_lines (e ∷ es) more kept all = (key_is_line e kept.0, keys_are_lines es more kept.1 all)

pub digest_is_line : (place : ℕ) (digest : List ℕ) → place < 2 ^ 64 → DigestFits digest → IsLine (place_line place digest)
digest_is_line place digest lt fits =
    line_after (codes "at ") _ at_ends (line_after (spaced place) _ (spaced_ends place lt) (line_after digest (codes "\n") (digits_end digest fits.digits) refl))

pub place_is_line : (place : ℕ) (since : List ℕ) → (since ≡ []) ⊎ IsBehind (at_place place since) → AllByRecursion IsLine (lines_at place since)
place_is_line place [] r = tt
place_is_line place (b ∷ bs) (inl e) = absurd cc
place_is_line place (b ∷ bs) (inr r) =
    let first : take digest_digits (b ∷ bs) ≡ r.digest = ap (take digest_digits) r.since ∙ first_digits r.digest r.told r.digits.long in
    (subst (λ (d : List ℕ). IsLine (place_line place d)) (sym first) (digest_is_line place r.digest r.place r.digits), tt)

pub none_or_after : (r : RunningView) → IsRunning r → (r.since ≡ []) ⊎ IsBehind r
none_or_after r (inl e) = inl (ap (λ (v : RunningView). v.since) e)
none_or_after r (inr b) = inr b

pub own_lines_are_lines : {S : Type 0} (A : AnsweringWith S) → OwnLinesAreLines A
own_lines_are_lines A r sound = keys_are_lines r.numbered.keys (lines_at r.running.place r.running.since) sound.each (place_is_line r.running.place r.running.since (none_or_after r.running sound.running))
