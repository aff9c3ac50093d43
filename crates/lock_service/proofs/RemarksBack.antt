-- The remarks of a replica's segment bring its keys and its place back.
use Rattle.std.proofs.Common.{◌≡◌, ℕ, ◌<◌, ◌≤◌, ◌^◌, Bool, true, false, cond, List, [], ◌∷◌, ◌++◌, length, take, drop, map, Option, Some, None, inl, inr, refl, ap, sym, subst, ◌∙◌, append_assoc, append-nil, length-append, arith}
use Rattle.std.specs.Prelude.{codes}
use Rattle.std.specs.List.{AllByRecursion}
use Rattle.std.specs.declared.cmp.Ordering.{Ordering}
use Rattle.std.specs.declared.cmp.Ordering.TheVariants.{Less, Equal, Greater}
use Rattle.std.specs.Ordering.{nat_cmp}
use Rattle.std.proofs.lemmas.List.{map-append}
use Rattle.text_lines.specs.Spelling.{spaced}
use Rattle.text_lines.specs.Reading.{word_at}
use Rattle.disks.specs.Held.{Held}
use Rattle.text_lines.specs.Limits.{line_limit}
use Rattle.text_lines.specs.LongNumbers.{order_at}
use Rattle.line_service.specs.Answering.{IsLine, Answers}
use Rattle.line_service.specs.Stands.{Stand, AnsweringWith, by_stand, stand}
use Rattle.segment_files.specs.RemarkLaws.{AreLines}
use Rattle.segment_files.specs.Remarks.{remark_of, lines_in, remarks_in}
use Rattle.segment_files.specs.Spelling.{DigestFits, digest_digits}
use Rattle.segment_files.proofs.Remarked.{HasNoHash, plain_then_remarks, remarks_then_remarks}
use Rattle.line_replica.specs.declared.replica.Replica.{Replica}
use Rattle.line_replica.specs.Keys.{ToldView, Table, last_of, with_told, turn_by, turn_after, first_line, line_to_asker, forgotten_if}
use Rattle.line_replica.specs.Log.{Numbers, numbers_of, given, given_of, numbers_after}
use Rattle.line_replica.specs.Reading.{Heard, Tagged, Place, Digest, Plain, heard, did_at, is_forget, may_follow, is_to_asker, kept_text}
use Rattle.line_replica.specs.Replies.{IsTold, IsTagTaken, IsAnsweredOnce, IsReplied, IsHeard, turn_of, forget_note}
use Rattle.line_replica.specs.Running.{RunningView, at_place, with_said, next_of, place_line}
use Rattle.line_replica.specs.State.{key_line, kept_line, forget_line, own_lines, remarks_of}
use Rattle.line_replica.proofs.Given.{own_at, own_forget, own_behind, own_of, read, answers_then, whole_line, whole_at}
use Rattle.line_replica.proofs.Hearing.{is_tagged}
use Rattle.lock_service.specs.declared.service.LockService.{LockService}
use Rattle.lock_service.specs.Serving.{IsServed}
use Rattle.lock_journal.specs.Begun.{begun_text}
use Rattle.lock_journal.specs.KeysBack.{IsKept, IsRunning, IsKeepable, IsFresh, IsSound, at_last}
use Rattle.lock_service.specs.Remarked.{begun_with_remarks, keepably, lines_of_remarks, IsBrought, RemarksBringBack}
use Rattle.lock_service.specs.StateBack.{locks_in}
use Rattle.lock_journal.proofs.Heard.{IsOfKey, IsReadSo, read_so}
use Rattle.lock_journal.proofs.KeyLines.{key_tagged, spaced_short, first_digits}
use Rattle.lock_journal.proofs.KeysBack.{key_line_told, place_line_told, same_running, keys_come_back}
use Rattle.lock_service.proofs.ServedLines.{served_lines_are_answered}
use Rattle.lock_journal.proofs.SoundKeys.{text_kept, did_is, own_kept, next_fits, grown_after, sound_stays, own_lines_are_lines}
use Rattle.lock_service.proofs.WholeTexts.{notes_of_lines}
use Rattle.lock_service.proofs.WithoutRemarks.{lines_bring, begun_ends, begun_no_hash, no_hash_noted}
use Rattle.lock_journal.proofs.WithoutRemarks.{all_end_once, parts}

-- ---- what is heard of the line that takes a key away

short_forget : (k n : ℕ) → k < 2 ^ 64 → n < 2 ^ 64 → length (forget_line (record { key = k; number = n })) ≤ line_limit
short_forget k n few small =
    let a = length-append (spaced k) (spaced n ++ codes "forget\n") in
    let b = length-append (spaced n) (codes "forget\n") in
    omega (arith, spaced_short k few, spaced_short n small, a, b)

no_did : did_at (codes "forget\n") ≡ None
unfolding did_at word_at
no_did = refl

forgets : is_forget (codes "forget\n") ≡ true
unfolding is_forget word_at
forgets = refl

forget_follows : may_follow (codes "forget\n") ≡ true
unfolding may_follow did_at is_forget word_at
forget_follows = refl

hears_forget : (k n : ℕ) → k < 2 ^ 64 → n < 2 ^ 64 → heard (forget_line (record { key = k; number = n })) ≡ Tagged (record { key = k; number = n }) (codes "forget\n")
hears_forget k n few small = sym (is_tagged (forget_line (record { key = k; number = n })) (codes "forget\n") (record { key = k; number = n }) (short_forget k n few small) (sym (key_tagged k n (codes "forget\n") few small forget_follows)))

-- ---- the digest at the last place

take_told : (since said : List ℕ) (digest told : List ℕ) → length digest ≡ digest_digits → since ≡ digest ++ told → take digest_digits (digest ++ (told ++ said)) ≡ take digest_digits since
take_told since said digest told long e = first_digits digest (told ++ said) long ∙ sym (ap (take digest_digits) e ∙ first_digits digest told long)

-- what is answered does not change it
pub last_stays : (r : RunningView) (said : List ℕ) → IsRunning r → at_last (with_said r said) ≡ at_last r
last_stays r said (inl fresh) = subst (λ (v : RunningView). at_last (with_said v said) ≡ at_last v) (sym fresh) refl
last_stays r said (inr b) =
    ap (at_place r.place) (ap (take digest_digits) (grown_after r.since b.digest b.told said b.digits.long b.since) ∙ take_told r.since said b.digest b.told b.digits.long b.since)

last_place : (place : ℕ) (digest : List ℕ) → DigestFits digest → at_last (at_place place digest) ≡ at_place place digest
last_place place digest fits = ap (at_place place) (ap (take digest_digits) (sym (append-nil digest)) ∙ first_digits digest [] fits.long)

-- ---- the lines of one change

module _ {S : Type 0} (A : AnsweringWith S) where
  -- these lines bring whatever replica has the keys and the digest of the one those of the other
  pub record Brings (one other : Replica S) (own : List (List ℕ)) : Type 0 where
    pub brought : (b c : Replica S) (was is : Option Held) (told notes : List ℕ) → b.numbered.keys ≡ one.numbered.keys → b.running ≡ at_last one.running → Answers (by_stand (IsReplied A)) (stand b was) own told notes (stand c is) → c.lost ≡ false → IsBrought other b was told c is

  brings_none : (one other : Replica S) → other.numbered.keys ≡ one.numbered.keys → at_last other.running ≡ at_last one.running → Brings one other []
  brings_none one other keys running = record {
    brought = λ b c was is told notes k r a whole.
        let same : c ≡ b = ap (λ (s : Stand (Replica S)). s.service) a.2 in
        record {
          keys = ap (λ (x : Replica S). x.numbered.keys) same ∙ (k ∙ sym keys);
          running = ap (λ (x : Replica S). x.running) same ∙ (r ∙ sym running);
          inner = ap (λ (x : Replica S). x.numbered.inner) same;
          says = a.0;
          files = ap (λ (s : Stand (Replica S)). s.files) a.2;
        };
  }

  brings_one : (one other : Replica S) (line : List ℕ) → ((b c : Replica S) (was is : Option Held) (told notes : List ℕ) → b.numbered.keys ≡ one.numbered.keys → b.running ≡ at_last one.running → IsReplied A b was line told notes c is → c.lost ≡ false → IsBrought other b was told c is) →
      Brings one other (line ∷ [])
  brings_one one other line by = record {
    brought = λ b c was is told notes k r a whole.
        let same : c ≡ a.0.service = ap (λ (s : Stand (Replica S)). s.service) a.8.2 in
        let unlost : a.0.service.lost ≡ false = sym (ap (λ (x : Replica S). x.lost) same) ∙ whole in
        let p = by b a.0.service was a.0.files a.1 a.3 k r a.5 unlost in
        record {
          keys = ap (λ (x : Replica S). x.numbered.keys) same ∙ p.keys;
          running = ap (λ (x : Replica S). x.running) same ∙ p.running;
          inner = ap (λ (x : Replica S). x.numbered.inner) same ∙ p.inner;
          says = a.6 ∙ (ap (λ (u : List ℕ). u ++ a.2) p.says ∙ a.8.0);
          files = ap (λ (s : Stand (Replica S)). s.files) a.8.2 ∙ p.files;
        };
  }

  brings_key : (one other : Replica S) (e : ℕ × ToldView) → IsKept e → other.numbered.keys ≡ with_told one.numbered.keys e.0 e.1.number e.1.first → at_last other.running ≡ at_last one.running → Brings one other (key_line e ∷ [])
  brings_key one other e kept keys running = brings_one one other (key_line e) (λ b c was is told notes k r a whole.
      let n = key_line_told A b c was is told notes e kept a whole in
      record {
        keys = n.keys_are ∙ (ap (λ (t : Table). with_told t e.0 e.1.number e.1.first) k ∙ sym keys);
        running = n.running_is ∙ (r ∙ sym running);
        inner = n.inner;
        says = n.says;
        files = n.files;
      })

  brings_place : (one other : Replica S) (place : ℕ) (digest : List ℕ) → place < 2 ^ 64 → DigestFits digest → other.numbered.keys ≡ one.numbered.keys → other.running ≡ at_place place digest → Brings one other (place_line place digest ∷ [])
  brings_place one other place digest lt fits keys running = brings_one one other (place_line place digest) (λ b c was is told notes k r a whole.
      let n = place_line_told A b c was is told notes place digest lt fits a whole in
      record {
        keys = n.keys_are ∙ (k ∙ sym keys);
        running = n.running_is ∙ sym (ap at_last running ∙ last_place place digest fits);
        inner = n.inner;
        says = n.says;
        files = n.files;
      })

  brings_forget : (one other : Replica S) (k n : ℕ) → k < 2 ^ 64 → n < 2 ^ 64 → other.numbered.keys ≡ forgotten_if (turn_of one.numbered.keys (record { key = k; number = n })) one.numbered.keys k → at_last other.running ≡ at_last one.running →
      Brings one other (forget_line (record { key = k; number = n }) ∷ [])
  brings_forget one other k n few small keys running = brings_one one other (forget_line (record { key = k; number = n })) (λ b c was is told notes same r a whole.
      let line = forget_line (record { key = k; number = n }) in
      let rest = codes "forget\n" in
      let h : IsHeard A (Tagged (record { key = k; number = n }) rest) b was line told notes c is = subst (λ (h : Heard). IsHeard A h b was line told notes c is) (hears_forget k n few small) (whole_line A b c was is line told notes a whole) in
      let d : IsTagTaken A None (record { key = k; number = n }) b.numbered was rest told notes c.numbered is = subst (λ (d : Option (List ℕ)). IsTagTaken A d (record { key = k; number = n }) b.numbered was rest told notes c.numbered is) no_did h.numbered in
      let t : IsTold [] (forgotten_if (turn_of b.numbered.keys (record { key = k; number = n })) b.numbered.keys k) (forget_note (turn_of b.numbered.keys (record { key = k; number = n })) (record { key = k; number = n })) b.numbered was told notes c.numbered is =
      subst (λ (w : Bool). cond w (IsTold [] (forgotten_if (turn_of b.numbered.keys (record { key = k; number = n })) b.numbered.keys k) (forget_note (turn_of b.numbered.keys (record { key = k; number = n })) (record { key = k; number = n })) b.numbered was told notes c.numbered is) (IsAnsweredOnce A (turn_of b.numbered.keys (record { key = k; number = n })) (record { key = k; number = n }) b.numbered was rest told notes c.numbered is)) forgets d in
      record {
        keys = t.keys_are ∙ (ap (λ (x : Table). forgotten_if (turn_of x (record { key = k; number = n })) x k) same ∙ sym keys);
        running = h.running ∙ (ap (λ (u : List ℕ). with_said b.running u) t.says ∙ (same_running b.running ∙ (r ∙ sym running)));
        inner = t.inner;
        says = t.says;
        files = t.files;
      })

  -- ---- each line brings what its own lines bring

  module _ (old new : Replica S) (was is : Option Held) (line said noted : List ℕ) (is_line : IsLine line) (sound : IsSound old) (keepable : IsKeepable said) where
    stays : new.running ≡ with_said old.running said → at_last new.running ≡ at_last old.running
    stays e = ap at_last e ∙ last_stays old.running said sound.running

    module _ (k n : ℕ) (rest : List ℕ) (of : IsOfKey k n rest line) (e : new.running ≡ with_said old.running said) where
      fresh : new.numbered.keys ≡ with_told old.numbered.keys k n (line_to_asker rest said) → Brings old new (kept_line (record { key = k; number = n }) (line_to_asker rest said) ∷ [])
      fresh keys = brings_key old new (k, record { number = n; first = line_to_asker rest said }) (own_kept k n of.key_small of.number_small (is_to_asker (order_at 32 rest) said) (first_line said) keepable.first keepable.short) keys (stays e)

      by_rank : (last : ℕ) (r : Ordering) → IsAnsweredOnce A (turn_by r last) (record { key = k; number = n }) old.numbered was rest said noted new.numbered is → Brings old new (own_at (turn_by r last) (record { key = k; number = n }) rest said)
      by_rank last Less t = brings_none old new t.keys_are (stays e)
      by_rank last Equal t = brings_none old new t.keys_are (stays e)
      by_rank last Greater p = fresh p.keys_are

      by_last : (o : Option ℕ) → IsAnsweredOnce A (turn_after o n) (record { key = k; number = n }) old.numbered was rest said noted new.numbered is → Brings old new (own_at (turn_after o n) (record { key = k; number = n }) rest said)
      by_last None p = fresh p.keys_are
      by_last (Some last) a = by_rank last (nat_cmp n last) a

      forget_rank : (last : ℕ) (r : Ordering) → turn_of old.numbered.keys (record { key = k; number = n }) ≡ turn_by r last → new.numbered.keys ≡ forgotten_if (turn_of old.numbered.keys (record { key = k; number = n })) old.numbered.keys k → Brings old new (own_forget (turn_by r last) (record { key = k; number = n }))
      forget_rank last Less q keys = brings_none old new (keys ∙ ap (λ r. forgotten_if r old.numbered.keys k) q) (stays e)
      forget_rank last Equal q keys = brings_forget old new k n of.key_small of.number_small keys (stays e)
      forget_rank last Greater q keys = brings_none old new (keys ∙ ap (λ r. forgotten_if r old.numbered.keys k) q) (stays e)

      forget_last : (o : Option ℕ) → turn_of old.numbered.keys (record { key = k; number = n }) ≡ turn_after o n → new.numbered.keys ≡ forgotten_if (turn_of old.numbered.keys (record { key = k; number = n })) old.numbered.keys k → Brings old new (own_forget (turn_after o n) (record { key = k; number = n }))
      forget_last None q keys = brings_none old new (keys ∙ ap (λ r. forgotten_if r old.numbered.keys k) q) (stays e)
      forget_last (Some last) q keys = forget_rank last (nat_cmp n last) q keys

      by_word : (b : Bool) →
          cond b (IsTold [] (forgotten_if (turn_of old.numbered.keys (record { key = k; number = n })) old.numbered.keys k) (forget_note (turn_of old.numbered.keys (record { key = k; number = n })) (record { key = k; number = n })) old.numbered was said noted new.numbered is)
          (IsAnsweredOnce A (turn_of old.numbered.keys (record { key = k; number = n })) (record { key = k; number = n }) old.numbered was rest said noted new.numbered is) →
          Brings old new (cond b (own_forget (turn_of old.numbered.keys (record { key = k; number = n })) (record { key = k; number = n })) (own_at (turn_of old.numbered.keys (record { key = k; number = n })) (record { key = k; number = n }) rest said))
      by_word true t = forget_last (last_of old.numbered.keys k) refl t.keys_are
      by_word false a = by_last (last_of old.numbered.keys k) a

      behind : (d : Option (List ℕ)) → did_at rest ≡ d → IsTagTaken A d (record { key = k; number = n }) old.numbered was rest said noted new.numbered is → Brings old new (own_behind d old.numbered.keys (record { key = k; number = n }) rest said)
      behind (Some text) d t =
          let spelled : IsOfKey k n (codes "did " ++ text) line = subst (λ (u : List ℕ). IsOfKey k n u line) (did_is rest text d) of in
          brings_key old new (k, record { number = n; first = kept_text text }) (text_kept k n text line is_line spelled) t.keys_are (stays e)
      behind None d a = by_word (is_forget rest) a

    by_heard : (h : Heard) → IsReadSo line h → IsHeard A h old was line said noted new is → Brings old new (own_of h old.numbered.keys old.running.since said)
    by_heard (Tagged tag rest) of a = behind tag.key tag.number rest of a.running (did_at rest) refl a.numbered
    by_heard (Place place) of a = brings_place old new place (next_of old.running.since) of (next_fits old.running.since) (ap (λ n. n.keys) a.numbered) a.running
    by_heard (Digest place digest) of a = brings_place old new place digest of.0 of.1 (ap (λ n. n.keys) a.numbered) a.running
    by_heard Plain of a = brings_none old new a.numbered.keys_are (stays a.running)

    -- the own lines of a line that is answered bring what it has changed
    pub line_brings : IsReplied A old was line said noted new is → new.lost ≡ false → Brings old new (own_of (heard line) old.numbered.keys old.running.since said)
    line_brings r whole = by_heard (heard line) (read_so line) (whole_line A old new was is line said noted r whole)

  -- ---- one after the other

  record AreApart (old new : Stand (Replica S)) (lines more : List (List ℕ)) (said : List ℕ) : Type 0 where
    pub mid : Stand (Replica S)
    pub told : List ℕ
    pub later : List ℕ
    pub note : List ℕ
    pub notes : List ℕ
    pub first : Answers (by_stand (IsReplied A)) old lines told note mid
    pub then : Answers (by_stand (IsReplied A)) mid more later notes new
    pub says : said ≡ told ++ later

  apart : (old new : Stand (Replica S)) (lines more : List (List ℕ)) (said noted : List ℕ) → Answers (by_stand (IsReplied A)) old (lines ++ more) said noted new → AreApart old new lines more said
  apart old new [] more said noted a = record { mid = old; told = []; later = said; note = []; notes = noted; first = (refl, refl, refl); then = a; says = refl }
  apart old new (line ∷ lines) more said noted a =
      let r = apart a.0 new lines more a.2 a.4 a.8 in
      record {
        mid = r.mid;
        told = a.1 ++ r.told;
        later = r.later;
        note = a.3 ++ r.note;
        notes = r.notes;
        first = (a.0, a.1, r.told, a.3, r.note, a.5, refl, refl, r.first);
        then = r.then;
        says = a.6 ∙ (ap (λ (u : List ℕ). a.1 ++ u) r.says ∙ sym (append_assoc a.1 r.told r.later));
      }

  brings_then : (one mid other : Replica S) (xs ys : List (List ℕ)) → Brings one mid xs → Brings mid other ys → Brings one other (xs ++ ys)
  brings_then one mid other xs ys p q = record {
    brought = λ b c was is told notes k r a whole.
        let t = apart (stand b was) (stand c is) xs ys told notes a in
        let unlost = whole_at A t.mid.service c t.mid.files is ys t.later t.notes t.then whole in
        let x = p.brought b t.mid.service was t.mid.files t.told t.note k r t.first unlost in
        let y = q.brought t.mid.service c t.mid.files is t.later t.notes x.keys x.running t.then whole in
        record {
          keys = y.keys;
          running = y.running;
          inner = y.inner ∙ x.inner;
          says = t.says ∙ (ap (λ (u : List ℕ). u ++ t.later) x.says ∙ y.says);
          files = y.files ∙ x.files;
        };
  }

  -- a replica's own lines bring a fresh one to its keys and its last place
  own_bring : (source fresh c : Replica S) (was is : Option Held) (told notes : List ℕ) → IsSound source → IsFresh fresh → Answers (by_stand (IsReplied A)) (stand fresh was) (own_lines source) told notes (stand c is) → c.lost ≡ false → IsBrought source fresh was told c is
  own_bring source fresh c was is told notes sound begun a whole =
      let k = keys_come_back A source fresh c was is told notes sound begun a whole in
      record { keys = k.keys; running = k.running; inner = k.inner; says = k.says; files = k.files }

  pub all_bring : (source other fresh c : Replica S) (own : List (List ℕ)) (was is : Option Held) (told notes : List ℕ) → IsSound source → IsFresh fresh → Brings source other own → Answers (by_stand (IsReplied A)) (stand fresh was) (own_lines source ++ own) told notes (stand c is) → c.lost ≡ false →
      IsBrought other fresh was told c is
  all_bring source other fresh c own was is told notes sound begun p a whole =
      let t = apart (stand fresh was) (stand c is) (own_lines source) own told notes a in
      let unlost = whole_at A t.mid.service c t.mid.files is own t.later t.notes t.then whole in
      let x = own_bring source fresh t.mid.service was t.mid.files t.told t.note sound begun t.first unlost in
      let y = p.brought t.mid.service c t.mid.files is t.later t.notes x.keys x.running t.then whole in
      record {
        keys = y.keys;
        running = y.running;
        inner = y.inner ∙ x.inner;
        says = t.says ∙ (ap (λ (u : List ℕ). u ++ t.later) x.says ∙ y.says);
        files = y.files ∙ x.files;
      }

-- ---- the remarks of a segment

-- what locks were given and have noted, the own lines of all lines, and the remarks of the notes
record AreBrought (old new : Replica LockService) (was is : Option Held) (lines : List (List ℕ)) (noted : List ℕ) : Type 0 where
  pub told : List ℕ
  pub inside : List ℕ
  pub own : List (List ℕ)
  pub answered : Answers (by_stand IsServed) (stand old.numbered.inner was) (given (numbers_of old.numbered.keys) lines) told inside (stand new.numbered.inner is)
  pub brings : Brings IsServed old new own
  pub remarks : HasNoHash inside → remarks_in noted ≡ map remark_of own

one_tells : (notes more : List ℕ) (own : List (List ℕ)) → AreLines notes → HasNoHash notes → AllByRecursion IsLine own → remarks_in ((notes ++ remarks_of own) ++ more) ≡ map remark_of own ++ remarks_in more
one_tells notes more own ends none all =
    ap remarks_in (append_assoc notes (remarks_of own) more)
    ∙ (plain_then_remarks notes (remarks_of own ++ more) ends none ∙ remarks_then_remarks own more (all_end_once own all))

no_remark : remarks_in [] ≡ []
unfolding remarks_in lines_in
no_remark = refl

unlost : (old new : Replica LockService) (was is : Option Held) (lines : List (List ℕ)) (said noted : List ℕ) → Answers (by_stand (keepably (IsReplied IsServed))) (stand old was) lines said noted (stand new is) → new.lost ≡ false → old.lost ≡ false
unlost old new was is [] said noted a whole = ap (λ (s : Stand (Replica LockService)). s.service.lost) (sym a.2) ∙ whole
unlost old new was is (line ∷ lines) said noted a whole = a.5.0.before

are_brought : (old new : Replica LockService) (was is : Option Held) (lines : List (List ℕ)) (said noted : List ℕ) → IsSound old → AllByRecursion IsLine lines → Answers (by_stand (keepably (IsReplied IsServed))) (stand old was) lines said noted (stand new is) → new.lost ≡ false →
    AreBrought old new was is lines noted
are_brought old new was is [] said noted sound all a whole =
    let same : new ≡ old = ap (λ (s : Stand (Replica LockService)). s.service) a.2 in
    record {
      told = [];
      inside = [];
      own = [];
      answered = (refl, refl, ap (λ (s : Stand (Replica LockService)). stand s.service.numbered.inner s.files) a.2);
      brings = brings_none IsServed old new (ap (λ (x : Replica LockService). x.numbered.keys) same) (ap (λ (x : Replica LockService). at_last x.running) same);
      remarks = λ none. ap remarks_in a.1 ∙ no_remark;
    }
are_brought old new was is (line ∷ lines) said noted sound all a whole =
    let mid = a.0 in
    let w = unlost mid.service new mid.files is lines a.2 a.4 a.8 whole in
    let h = whole_line IsServed old mid.service was mid.files line a.1 a.3 a.5.0 w in
    let brings = lines_bring old.running.since old.numbered.inner mid.service.numbered.inner was mid.files line a.1 all.0 in
    let now = read IsServed IsLine old mid.service was mid.files line a.1 a.3 brings (heard line) refl h in
    let own = own_of (heard line) old.numbered.keys old.running.since a.1 in
    let begun = sound_stays IsServed old mid.service was mid.files line a.1 a.3 sound all.0 a.5.1 a.5.0 w in
    let more = are_brought mid.service new mid.files is lines a.2 a.4 begun all.1 a.8 whole in
    let numbers = numbers_of old.numbered.keys in
    let rest : Answers (by_stand IsServed) (stand mid.service.numbered.inner mid.files) (given (numbers_after (heard line) numbers) lines) more.told more.inside (stand new.numbered.inner is) =
    subst (λ (n : Numbers). Answers (by_stand IsServed) (stand mid.service.numbered.inner mid.files) (given n lines) more.told more.inside (stand new.numbered.inner is)) now.numbers_are more.answered in
    record {
      told = now.given.told ++ more.told;
      inside = now.given.notes ++ more.inside;
      own = own ++ more.own;
      answered = answers_then (by_stand IsServed) (stand old.numbered.inner was) (stand mid.service.numbered.inner mid.files) (stand new.numbered.inner is) (given_of (heard line) numbers line) (given (numbers_after (heard line) numbers) lines) now.given.told more.told now.given.notes more.inside now.given.answered rest;
      brings = brings_then IsServed old mid.service new own more.own (line_brings IsServed old mid.service was mid.files line a.1 a.3 all.0 sound a.5.1 a.5.0 w) more.brings;
      remarks = λ none.
          let p = parts now.given.notes more.inside none in
          ap remarks_in (a.7 ∙ ap (λ (u : List ℕ). u ++ a.4) now.given.noted_are)
          ∙ (one_tells now.given.notes a.4 own (notes_of_lines (stand old.numbered.inner was) (stand mid.service.numbered.inner mid.files) (given_of (heard line) numbers line) now.given.told now.given.notes now.given.answered) p.0 now.given.each
          ∙ (ap (λ (u : List (List ℕ)). map remark_of own ++ u) (more.remarks p.1) ∙ sym (map-append remark_of own more.own)));
    }

without_marks : (lines : List (List ℕ)) → map (drop 2) (map remark_of lines) ≡ lines
without_marks [] = refl
without_marks (line ∷ lines) = ap (λ (u : List (List ℕ)). line ∷ u) (without_marks lines)

pub remarks_bring_back : RemarksBringBack
remarks_bring_back old new entries lines said noted a kept fresh back was is told notes begun b whole =
    let r = are_brought old new a.was a.is lines said noted a.sound a.each a.answers a.whole in
    let s = old.numbered.inner in
    let served = (served_lines_are_answered s new.numbered.inner a.was a.is (given (numbers_of old.numbered.keys) lines) r.told r.inside a.noting r.answered).0 in
    let none = no_hash_noted s new.numbered.inner entries (given (numbers_of old.numbered.keys) lines) r.told r.inside a.begun kept served in
    let front = begun_text (locks_in old) in
    let remarks : remarks_in (begun_with_remarks old ++ noted) ≡ map remark_of (own_lines old ++ r.own) =
    one_tells front noted (own_lines old) (begun_ends old) (begun_no_hash old a.begun) (own_lines_are_lines IsServed old a.sound)
    ∙ (ap (λ (u : List (List ℕ)). map remark_of (own_lines old) ++ u) (r.remarks none) ∙ sym (map-append remark_of (own_lines old) r.own)) in
    let text : lines_of_remarks (remarks_in (begun_with_remarks old ++ noted)) ≡ own_lines old ++ r.own = ap (map (drop 2)) remarks ∙ without_marks (own_lines old ++ r.own) in
    let answers = subst (λ (ls : List (List ℕ)). Answers (by_stand (IsReplied IsServed)) (stand fresh was) ls told notes (stand back is)) text b in
    all_bring IsServed old new fresh back r.own was is told notes a.sound begun r.brings answers whole
