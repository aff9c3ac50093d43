-- What a replica of locks keeps of keys is of whole lines, whatever was asked and however long its answers are.
use Rattle.std.proofs.Common.{◌≡◌, ℕ, Bool, true, false, List, [], ◌∷◌, ◌++◌, Option, Some, None, refl, sym, ap, subst, inr, cond}
use Rattle.std.specs.List.{AllByRecursion}
use Rattle.std.specs.declared.cmp.Ordering.{Ordering}
use Rattle.std.specs.declared.cmp.Ordering.TheVariants.{Greater, Less, Equal}
use Rattle.std.specs.Ordering.{nat_cmp}
use Rattle.std.specs.BTreeMap.{is_at}
use Rattle.disks.specs.Held.{Held}
use Rattle.line_service.specs.Answering.{IsLine, Answers}
use Rattle.line_service.specs.Stands.{by_stand, stand, Stand}
use Rattle.line_replica.specs.declared.replica.Replica.{Replica}
use Rattle.line_replica.specs.Keys.{ToldView, Table, with_told, last_of, turn_by, turn_after, line_to_asker, forgotten_if}
use Rattle.line_replica.specs.Reading.{Place, heard, Heard, Tagged, Digest, Plain, did_at, kept_text, is_forget}
use Rattle.line_replica.specs.Replies.{IsReplied, IsTold, IsTagTaken, IsHeard, IsAnsweredOnce, turn_of, forget_note, IsDone}
use Rattle.line_replica.specs.Running.{RunningView, at_place, with_said, next_of}
use Rattle.line_replica.specs.State.{key_line, own_lines, key_lines, lines_at}
use Rattle.line_replica.proofs.Given.{whole_line, whole_at, Brings}
use Rattle.lock_service.specs.declared.service.LockService.{LockService}
use Rattle.lock_service.specs.Serving.{IsServed}
use Rattle.lock_service.proofs.WithoutRemarks.{lines_bring}
use Rattle.lock_journal.proofs.Heard.{IsReadSo, read_so}
use Rattle.lock_journal.proofs.SoundKeys.{next_fits, key_is_line, inserted, taken_out, runs_on, at_digest, place_is_line, none_or_after}
use Rattle.lock_journal.specs.KeysBack.{IsSound, IsKept, IsRunning}

-- the line of each key is one, and the running digest can be written
abbrev AreKeyLines : Table → Type 0
AreKeyLines keys = AllByRecursion (λ (e : ℕ × ToldView). IsLine (key_line e)) keys

pub record CanTell (r : Replica LockService) : Type 0 where
  pub keys : AreKeyLines r.numbered.keys
  pub running : IsRunning r.running

pub sound_tells : (r : Replica LockService) → IsSound r → CanTell r
sound_tells r s = record { keys = each r.numbered.keys s.each; running = s.running }
  where
    each : (es : Table) → AllByRecursion IsKept es → AreKeyLines es
    each [] all = tt
    each (e ∷ es) all = (key_is_line e all.0, each es all.1)

pub own_are_lines : (r : Replica LockService) → CanTell r → AllByRecursion IsLine (own_lines r)
own_are_lines r t = go r.numbered.keys t.keys
  where
    go : (es : Table) → AreKeyLines es → AllByRecursion IsLine (key_lines es ++ lines_at r.running.place r.running.since)
    go [] all = place_is_line r.running.place r.running.since (none_or_after r.running t.running)
    go (e ∷ es) all = (all.0, go es all.1)

pub same_tells : (old new : Replica LockService) → CanTell old → new.numbered.keys ≡ old.numbered.keys → new.running ≡ old.running → CanTell new
same_tells old new t keys running = record { keys = subst (λ (es : Table). AreKeyLines es) (sym keys) t.keys; running = subst (λ (r : RunningView). IsRunning r) (sym running) t.running }

-- ---- a line

module _ (old new : Replica LockService) (was is : Option Held) (line said noted : List ℕ) (brings : Brings IsServed IsLine old.running.since old.numbered.inner was line said new.numbered.inner is) (t : CanTell old) where
  still : (keys : Table) → AreKeyLines keys → new.numbered.keys ≡ keys → AreKeyLines new.numbered.keys
  still keys k e = subst (λ (es : Table). AreKeyLines es) (sym e) k

  runs : (r : RunningView) → IsRunning r → new.running ≡ r → IsRunning new.running
  runs r k e = subst (λ (v : RunningView). IsRunning v) (sym e) k

  module _ (k n : ℕ) (rest : List ℕ) (h : heard line ≡ Tagged (record { key = k; number = n }) rest) where
    told : (first : List ℕ) → IsLine (key_line (k, record { number = n; first = first })) → AreKeyLines (with_told old.numbered.keys k n first)
    told first is_line = inserted (λ (e : ℕ × ToldView). IsLine (key_line e)) old.numbered.keys k (record { number = n; first = first }) t.keys is_line

    fresh : IsDone IsServed (record { key = k; number = n }) old.numbered was rest said noted new.numbered is → AreKeyLines new.numbered.keys
    fresh p = still (with_told old.numbered.keys k n (line_to_asker rest said)) (told (line_to_asker rest said) (brings.done (record { key = k; number = n }) rest p.inside h p.answered)) p.keys_are

    by_rank : (last : ℕ) (r : Ordering) → IsAnsweredOnce IsServed (turn_by r last) (record { key = k; number = n }) old.numbered was rest said noted new.numbered is → AreKeyLines new.numbered.keys
    by_rank last Less a = still old.numbered.keys t.keys a.keys_are
    by_rank last Equal a = still old.numbered.keys t.keys a.keys_are
    by_rank last Greater p = fresh p

    by_last : (o : Option ℕ) → IsAnsweredOnce IsServed (turn_after o n) (record { key = k; number = n }) old.numbered was rest said noted new.numbered is → AreKeyLines new.numbered.keys
    by_last None p = fresh p
    by_last (Some last) a = by_rank last (nat_cmp n last) a

    forgotten_at : (last : ℕ) (r : Ordering) → AreKeyLines (forgotten_if (turn_by r last) old.numbered.keys k)
    forgotten_at last Less = t.keys
    forgotten_at last Equal = taken_out (λ (e : ℕ × ToldView). IsLine (key_line e)) (is_at (nat_cmp k)) old.numbered.keys t.keys
    forgotten_at last Greater = t.keys

    forgotten : (o : Option ℕ) → AreKeyLines (forgotten_if (turn_after o n) old.numbered.keys k)
    forgotten None = t.keys
    forgotten (Some last) = forgotten_at last (nat_cmp n last)

    by_word : (b : Bool) →
        cond b (IsTold [] (forgotten_if (turn_of old.numbered.keys (record { key = k; number = n })) old.numbered.keys k) (forget_note (turn_of old.numbered.keys (record { key = k; number = n })) (record { key = k; number = n })) old.numbered was said noted new.numbered is)
        (IsAnsweredOnce IsServed (turn_of old.numbered.keys (record { key = k; number = n })) (record { key = k; number = n }) old.numbered was rest said noted new.numbered is) →
        AreKeyLines new.numbered.keys
    by_word true a = still (forgotten_if (turn_after (last_of old.numbered.keys k) n) old.numbered.keys k) (forgotten (last_of old.numbered.keys k)) a.keys_are
    by_word false a = by_last (last_of old.numbered.keys k) a

    behind : (did : Option (List ℕ)) → did_at rest ≡ did → IsTagTaken IsServed did (record { key = k; number = n }) old.numbered was rest said noted new.numbered is → AreKeyLines new.numbered.keys
    behind (Some text) d a = still (with_told old.numbered.keys k n (kept_text text)) (told (kept_text text) (brings.did (record { key = k; number = n }) rest text h d)) a.keys_are
    behind None d a = by_word (is_forget rest) a

  tells_heard : (h : Heard) → heard line ≡ h → IsReadSo line h → IsHeard IsServed h old was line said noted new is → CanTell new
  tells_heard (Tagged tag rest) e of a = record {
    keys = behind tag.key tag.number rest e (did_at rest) refl a.numbered;
    running = runs (with_said old.running said) (runs_on old.running said t.running) a.running;
  }
  tells_heard (Place place) e of a = record {
    keys = still old.numbered.keys t.keys (ap (λ m. m.keys) a.numbered);
    running = runs (at_place place (next_of old.running.since)) (inr (at_digest place (next_of old.running.since) of (next_fits old.running.since))) a.running;
  }
  tells_heard (Digest place digest) e of a = record {
    keys = still old.numbered.keys t.keys (ap (λ m. m.keys) a.numbered);
    running = runs (at_place place digest) (inr (at_digest place digest of.0 of.1)) a.running;
  }
  tells_heard Plain e of a = record {
    keys = still old.numbered.keys t.keys a.numbered.keys_are;
    running = runs (with_said old.running said) (runs_on old.running said t.running) a.running;
  }

-- ---- lines

pub tells_all : (old new : Replica LockService) (was is : Option Held) (lines : List (List ℕ)) (said noted : List ℕ) → AllByRecursion IsLine lines → Answers (by_stand (IsReplied IsServed)) (stand old was) lines said noted (stand new is) → new.lost ≡ false → CanTell old → CanTell new
tells_all old new was is [] said noted all a whole t = subst (λ (r : Replica LockService). CanTell r) (sym (ap (λ (s : Stand (Replica LockService)). s.service) a.2)) t
tells_all old new was is (line ∷ lines) said noted all a whole t =
    let mid = a.0 in
    let w = whole_at IsServed mid.service new mid.files is lines a.2 a.4 a.8 whole in
    let brings = lines_bring old.running.since old.numbered.inner mid.service.numbered.inner was mid.files line a.1 all.0 in
    let h = whole_line IsServed old mid.service was mid.files line a.1 a.3 a.5 w in
    tells_all mid.service new mid.files is lines a.2 a.4 all.1 a.8 whole (tells_heard old mid.service was mid.files line a.1 a.3 brings t (heard line) refl (read_so line) h)
