-- Keys and a running digest that come back.
use Rattle.std.proofs.Common.{◌≡◌, ℕ, ◌+◌, false, List, [], ◌∷◌, ◌++◌, length, Option, Some, refl, sym, ◌∙◌, ap, subst, inl, inr, arith, ◌<◌, ◌^◌, append_assoc, take, append-nil, length-append}
use Rattle.std.proofs.lemmas.List.Concat.{flat_map-append}
use Rattle.std.specs.Prelude.{codes}
use Rattle.std.specs.List.{AllByRecursion}
use Rattle.std.specs.declared.cmp.Ordering.TheVariants.{Greater}
use Rattle.std.specs.Ordering.{nat_cmp, match_ordering}
use Rattle.std.specs.Cmp.{nat_cmp_is}
use Rattle.std.specs.BTreeMap.{insert_entry}
use Rattle.disks.specs.Held.{Held}
use Rattle.line_service.specs.Answering.{Answers}
use Rattle.line_service.specs.Stands.{AnsweringWith, by_stand, stand, Stand}
use Rattle.segment_files.specs.Spelling.{DigestFits, digest_digits}
use Rattle.segment_files.specs.Remarks.{remark_of}
use Rattle.line_replica.specs.declared.replica.Replica.{Replica}
use Rattle.line_replica.specs.Keys.{ToldView, Table, with_told}
use Rattle.line_replica.specs.Reading.{Heard}
use Rattle.line_replica.specs.Replies.{IsReplied, IsTold, IsTagTaken, IsPlaced, IsHeard}
use Rattle.line_replica.specs.Running.{RunningView, at_place, place_line, with_said, grown}
use Rattle.line_replica.specs.State.{key_line, remarks_of, did_text, key_lines, kept_line, lines_at}
use Rattle.line_replica.proofs.Given.{whole_line, whole_at}
use Rattle.lock_journal.proofs.KeyLines.{key_heard, hears_key, did_reads, kept_again, hears_place, first_digits}
use Rattle.lock_journal.specs.KeysBack.{IsKept, IsRising, IsBehind, IsRunning, at_last, KeysComeBack}

-- ---- keys, one above the other

abbrev IsAbove : Table → ℕ × ToldView → Type 0
IsAbove below e = AllByRecursion (λ (d : ℕ × ToldView). d.0 < e.0) below

pub all_push : {X : Type 0} (P : X → Type 0) (xs : List X) (x : X) → AllByRecursion P xs → P x → AllByRecursion P (xs ++ x ∷ [])
all_push P [] x all p = (p, tt)
all_push P (y ∷ ys) x all p = (all.0, all_push P ys x all.1 p)

above_more : (below : Table) (e : ℕ × ToldView) (es : Table) → AllByRecursion (IsAbove below) es → AllByRecursion (λ (d : ℕ × ToldView). e.0 < d.0) es → AllByRecursion (IsAbove (below ++ e ∷ [])) es
above_more below e [] all more = tt
above_more below e (d ∷ ds) all more = (all_push (λ (x : ℕ × ToldView). x.0 < d.0) below e all.0 more.0, above_more below e ds all.1 more.1)

above_none : (es : Table) → AllByRecursion (IsAbove []) es
above_none [] = tt
above_none (e ∷ es) = (tt, above_none es)

-- a key above all others is the last
insert_last : (es : Table) (k : ℕ) (v : ToldView) → AllByRecursion (λ (d : ℕ × ToldView). d.0 < k) es → insert_entry nat_cmp es k v ≡ es ++ (k, v) ∷ []
insert_last [] k v all = refl
insert_last (e ∷ es) k v all =
    ap (λ r. match_ordering r ((k, v) ∷ e ∷ es) ((e.0, v) ∷ es) (e ∷ insert_entry nat_cmp es k v)) (sym (nat_cmp_is k e.0 Greater all.0))
    ∙ ap (λ (u : Table). e ∷ u) (insert_last es k v all.1)

pub same_running : (r : RunningView) → with_said r [] ≡ r
same_running r = ap (λ (u : List ℕ). record { place = r.place; since = u }) (none r.since)
  where
    none : (since : List ℕ) → grown since [] ≡ since
    none [] = refl
    none (b ∷ bs) = append-nil (b ∷ bs)

-- ---- one line

module _ {S : Type 0} (A : AnsweringWith S) where
  -- nothing has happened but that these are the keys and this is the digest, and this is noted
  pub record IsNow (old : Replica S) (was : Option Held) (keys : Table) (running : RunningView) (note said noted : List ℕ) (new : Replica S) (is : Option Held) : Type 0 where
    pub keys_are : new.numbered.keys ≡ keys
    pub running_is : new.running ≡ running
    pub inner : new.numbered.inner ≡ old.numbered.inner
    pub says : said ≡ []
    pub notes : noted ≡ note
    pub files : is ≡ was

  module _ (old new : Replica S) (was is : Option Held) (said noted : List ℕ) where
    pub key_line_told : (e : ℕ × ToldView) → IsKept e → IsReplied A old was (key_line e) said noted new is → new.lost ≡ false →
        IsNow old was (with_told old.numbered.keys e.0 e.1.number e.1.first) old.running (remark_of (key_line e)) said noted new is
    key_line_told e kept r whole =
        let rest = codes "did " ++ did_text e.1.first in
        let h : IsHeard A (key_heard e) old was (key_line e) said noted new is =
        subst (λ (h : Heard). IsHeard A h old was (key_line e) said noted new is) (hears_key e kept) (whole_line A old new was is (key_line e) said noted r whole) in
        let d : IsTagTaken A (Some (did_text e.1.first)) (record { key = e.0; number = e.1.number }) old.numbered was rest said noted new.numbered is =
        subst (λ (d : Option (List ℕ)). IsTagTaken A d (record { key = e.0; number = e.1.number }) old.numbered was rest said noted new.numbered is) (did_reads (did_text e.1.first)) h.numbered in
        let t : IsTold [] (with_told old.numbered.keys e.0 e.1.number e.1.first) (remark_of (key_line e)) old.numbered was said noted new.numbered is =
        subst (λ (u : List ℕ). IsTold [] (with_told old.numbered.keys e.0 e.1.number u) (remark_of (kept_line (record { key = e.0; number = e.1.number }) u)) old.numbered was said noted new.numbered is) (kept_again e.1.first kept.first) d in
        record {
          keys_are = t.keys_are;
          running_is = h.running ∙ ap (λ (u : List ℕ). with_said old.running u) t.says ∙ same_running old.running;
          inner = t.inner;
          says = t.says;
          notes = t.notes;
          files = t.files;
        }

    pub place_line_told : (place : ℕ) (digest : List ℕ) → place < 2 ^ 64 → DigestFits digest → IsReplied A old was (place_line place digest) said noted new is → new.lost ≡ false →
        IsNow old was old.numbered.keys (at_place place digest) (remark_of (place_line place digest)) said noted new is
    place_line_told place digest lt fits r whole =
        let p : IsPlaced place digest [] old was said noted new is =
        subst (λ (h : Heard). IsHeard A h old was (place_line place digest) said noted new is) (hears_place place digest lt fits) (whole_line A old new was is (place_line place digest) said noted r whole) in
        record {
          keys_are = ap (λ n. n.keys) p.numbered;
          running_is = p.running;
          inner = ap (λ n. n.inner) p.numbered;
          says = p.says;
          notes = p.notes;
          files = p.files;
        }

  -- ---- all keys, and what follows their lines

  record AreKeyed (keys : Table) (note : List ℕ) (more : List (List ℕ)) (old : Replica S) (was : Option Held) (said noted : List ℕ) (new : Replica S) (is : Option Held) : Type 0 where
    pub mid : Replica S
    pub between : Option Held
    pub notes : List ℕ
    pub now : IsNow old was keys old.running note [] note mid between
    pub rest : Answers (by_stand (IsReplied A)) (stand mid between) more said notes (stand new is)
    pub noted_are : noted ≡ note ++ notes

  keyed_next : (keys keyed : Table) (one_note other : List ℕ) (more : List (List ℕ)) (old mid new : Replica S) (was between is : Option Held) (first later said note notes noted : List ℕ) → IsNow old was keyed old.running one_note first note mid between →
      said ≡ first ++ later → noted ≡ note ++ notes → AreKeyed keys other more mid between later notes new is → AreKeyed keys (one_note ++ other) more old was said noted new is
  keyed_next keys keyed one_note other more old mid new was between is first later said note notes noted one p q k =
      let told : later ≡ said = sym (p ∙ ap (λ (u : List ℕ). u ++ later) one.says) in
      record {
        mid = k.mid;
        between = k.between;
        notes = k.notes;
        now = record {
          keys_are = k.now.keys_are;
          running_is = k.now.running_is ∙ one.running_is;
          inner = k.now.inner ∙ one.inner;
          says = refl;
          notes = refl;
          files = k.now.files ∙ one.files;
        };
        rest = subst (λ (u : List ℕ). Answers (by_stand (IsReplied A)) (stand k.mid k.between) more u k.notes (stand new is)) told k.rest;
        noted_are = q ∙ (ap (λ (u : List ℕ). u ++ notes) one.notes ∙ (ap (λ (u : List ℕ). one_note ++ u) k.noted_are ∙ sym (append_assoc one_note other k.notes)));
      }

  keyed : (es : Table) (more : List (List ℕ)) (below : Table) (old new : Replica S) (was is : Option Held) (said noted : List ℕ) → old.numbered.keys ≡ below → AllByRecursion (IsAbove below) es → IsRising es → AllByRecursion IsKept es →
      Answers (by_stand (IsReplied A)) (stand old was) (key_lines es ++ more) said noted (stand new is) → new.lost ≡ false → AreKeyed (below ++ es) (remarks_of (key_lines es)) more old was said noted new is
  keyed [] more below old new was is said noted keys above rising kept a whole = record {
    mid = old;
    between = was;
    notes = noted;
    now = record { keys_are = keys ∙ sym (append-nil below); running_is = refl; inner = refl; says = refl; notes = refl; files = refl };
    rest = a;
    noted_are = refl;
  }
  keyed (e ∷ es) more below old new was is said noted keys above rising kept a whole =
      let mid = a.0 in
      let unlost = whole_at A mid.service new mid.files is (key_lines es ++ more) a.2 a.4 a.8 whole in
      let one = key_line_told old mid.service was mid.files a.1 a.3 e kept.0 a.5 unlost in
      let now : mid.service.numbered.keys ≡ below ++ e ∷ [] = one.keys_are ∙ ap (λ (t : Table). with_told t e.0 e.1.number e.1.first) keys ∙ insert_last below e.0 e.1 above.0 in
      let next = keyed es more (below ++ e ∷ []) mid.service new mid.files is a.2 a.4 now (above_more below e es above.1 rising.0) rising.1 kept.1 a.8 whole in
      subst (λ (t : Table). AreKeyed t (remarks_of (key_lines (e ∷ es))) more old was said noted new is) (append_assoc below (e ∷ []) es)
      (keyed_next ((below ++ e ∷ []) ++ es) _ (remark_of (key_line e)) (remarks_of (key_lines es)) more old mid.service new was mid.files is a.1 a.2 said a.3 a.4 noted one a.6 a.7 next)

  -- ---- and the place

  -- the lines of a place are answered
  PlaceBack : RunningView → List (List ℕ) → Type 0
  PlaceBack r lines =
      (old new : Replica S) (was is : Option Held) (said noted : List ℕ) → old.running ≡ at_place 0 [] → Answers (by_stand (IsReplied A)) (stand old was) lines said noted (stand new is) → new.lost ≡ false →
      IsNow old was old.numbered.keys (at_last r) (remarks_of lines) said noted new is

  place_fresh : PlaceBack (at_place 0 []) []
  unfolding PlaceBack
  place_fresh old new was is said noted fresh a whole = record {
    keys_are = ap (λ (s : Stand (Replica S)). s.service.numbered.keys) a.2;
    running_is = ap (λ (s : Stand (Replica S)). s.service.running) a.2 ∙ fresh;
    inner = ap (λ (s : Stand (Replica S)). s.service.numbered.inner) a.2;
    says = a.0;
    notes = a.1;
    files = ap (λ (s : Stand (Replica S)). s.files) a.2;
  }

  place_one : (r : RunningView) (digest : List ℕ) → r.place < 2 ^ 64 → DigestFits digest → take digest_digits r.since ≡ digest → PlaceBack r (place_line r.place digest ∷ [])
  unfolding PlaceBack
  place_one r digest lt fits first old new was is said noted fresh a whole =
      let mid = a.0 in
      let end = a.8 in
      let unlost = whole_at A mid.service new mid.files is [] a.2 a.4 a.8 whole in
      let one = place_line_told old mid.service was mid.files a.1 a.3 r.place digest lt fits a.5 unlost in
      let same : new ≡ mid.service = ap (λ (s : Stand (Replica S)). s.service) end.2 in
      record {
        keys_are = ap (λ (n : Replica S). n.numbered.keys) same ∙ one.keys_are;
        running_is = ap (λ (n : Replica S). n.running) same ∙ one.running_is ∙ ap (at_place r.place) (sym first);
        inner = ap (λ (n : Replica S). n.numbered.inner) same ∙ one.inner;
        says = a.6 ∙ ap (λ (u : List ℕ). u ++ a.2) one.says ∙ end.0;
        notes = a.7 ∙ ap (λ (u : List ℕ). u ++ a.4) one.notes ∙ ap (λ (u : List ℕ). remark_of (place_line r.place digest) ++ u) end.1;
        files = ap (λ (s : Stand (Replica S)). s.files) end.2 ∙ one.files;
      }

  place_behind : (place : ℕ) (since : List ℕ) → IsBehind (at_place place since) → PlaceBack (at_place place since) (lines_at place since)
  place_behind place [] b =
      let long : length b.digest ≡ 64 = b.digits.long in
      let none : 0 ≡ length b.digest + length b.told = ap length b.since ∙ length-append b.digest b.told in
      absurd (omega (arith, long, none))
  place_behind place (c ∷ cs) b =
      let first : take digest_digits (c ∷ cs) ≡ b.digest = ap (take digest_digits) b.since ∙ first_digits b.digest b.told b.digits.long in
      subst (λ (d : List ℕ). PlaceBack (at_place place (c ∷ cs)) (place_line place d ∷ [])) (sym first) (place_one (at_place place (c ∷ cs)) b.digest b.place b.digits first)

  place_back : (r : RunningView) → IsRunning r → PlaceBack r (lines_at r.place r.since)
  place_back r (inl fresh) = subst (λ (s : RunningView). PlaceBack s (lines_at s.place s.since)) (sym fresh) place_fresh
  place_back r (inr b) = place_behind r.place r.since b

  pub keys_come_back : KeysComeBack A
  unfolding PlaceBack
  keys_come_back source old new was is said noted sound fresh a whole =
      let r = source.running in
      let k = keyed source.numbered.keys (lines_at r.place r.since) [] old new was is said noted fresh.keys (above_none source.numbered.keys) sound.rising sound.each a whole in
      let p = place_back r sound.running k.mid new k.between is said k.notes (k.now.running_is ∙ fresh.running) k.rest whole in
      record {
        keys = p.keys_are ∙ k.now.keys_are;
        running = p.running_is;
        inner = p.inner ∙ k.now.inner;
        says = p.says;
        notes = k.noted_are ∙ (ap (λ (u : List ℕ). remarks_of (key_lines source.numbered.keys) ++ u) p.notes ∙ sym (flat_map-append remark_of (key_lines source.numbered.keys) (lines_at r.place r.since)));
        files = p.files ∙ k.now.files;
      }
