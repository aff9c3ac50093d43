-- A line that is sent again gets the first line of its first answer, if that is for the client that
-- asked.
use Rattle.std.proofs.Common.{◌≡◌, ◌≢◌, ℕ, Bool, true, false, cond, List, [], ◌∷◌, Option, Some, None, refl, ap, sym, subst, ◌∙◌}
use Rattle.std.specs.List.{AllByRecursion}
use Rattle.std.specs.Option.{option_map}
use Rattle.std.specs.Cmp.{nat_cmp_is}
use Rattle.std.specs.declared.cmp.Ordering.TheVariants.{Equal}
use Rattle.disks.specs.Held.{Held}
use Rattle.line_service.specs.Answering.{Answers}
use Rattle.line_service.specs.Stands.{Stand, AnsweringWith, by_stand, stand}
use Rattle.line_replica.specs.declared.keys.Turn.{Turn}
use Rattle.line_replica.specs.declared.keys.Turn.TheVariants as turn
use Rattle.line_replica.specs.declared.reading.Tag.{Tag}
use Rattle.line_replica.specs.declared.numbered.Numbered.{Numbered}
use Rattle.line_replica.specs.declared.replica.Replica.{Replica}
use Rattle.line_replica.specs.Keys.{ToldView, Table, told_of, forgotten_if, line_to_asker, first_of, turn_by, turn_after}
use Rattle.line_replica.specs.Laws.{IsTagged, IsNotOf, IsToldAgain, IsAnsweredAsBefore}
use Rattle.line_replica.specs.Reading.{Heard, Tagged, Place, Digest, Plain, heard, did_at, is_forget}
use Rattle.line_replica.specs.Replies.{IsTold, IsReplied, IsHeard, IsAnsweredOnce, IsTagTaken, turn_of, forget_note}
use Rattle.line_replica.proofs.Entries.{told_other, told_same, told_without}
use Rattle.line_replica.proofs.Given.{whole_line, whole_at}

module _ {S : Type 0} (A : AnsweringWith S) where
  -- a line of another key changes nothing of what is kept of this one
  module _ (old new : Numbered S) (was is : Option Held) (said noted : List ℕ) (key : ℕ) where
    forgotten : (r : Turn) (keys : Table) (k : ℕ) → key ≢ k → told_of (forgotten_if r keys k) key ≡ told_of keys key
    forgotten turn.Fresh keys k ne = refl
    forgotten turn.Again keys k ne = told_without keys k key ne
    forgotten (turn.Past last) keys k ne = refl

    by_turn : (r : Turn) (tag : Tag) (input : List ℕ) → key ≢ tag.key → IsAnsweredOnce A r tag old was input said noted new is → told_of new.keys key ≡ told_of old.keys key
    by_turn turn.Fresh tag input ne p = ap (λ (t : Table). told_of t key) p.keys_are ∙ told_other old.keys tag.key _ key ne
    by_turn turn.Again tag input ne t = ap (λ (t : Table). told_of t key) t.keys_are
    by_turn (turn.Past last) tag input ne t = ap (λ (t : Table). told_of t key) t.keys_are

    by_word : (forgets : Bool) (tag : Tag) (rest : List ℕ) → key ≢ tag.key →
        cond forgets (IsTold [] (forgotten_if (turn_of old.keys tag) old.keys tag.key) (forget_note (turn_of old.keys tag) tag) old was said noted new is) (IsAnsweredOnce A (turn_of old.keys tag) tag old was rest said noted new is) → told_of new.keys key ≡ told_of old.keys key
    by_word true tag rest ne t = ap (λ (t : Table). told_of t key) t.keys_are ∙ forgotten (turn_of old.keys tag) old.keys tag.key ne
    by_word false tag rest ne a = by_turn (turn_of old.keys tag) tag rest ne a

    behind : (did : Option (List ℕ)) (tag : Tag) (rest : List ℕ) → key ≢ tag.key → IsTagTaken A did tag old was rest said noted new is → told_of new.keys key ≡ told_of old.keys key
    behind (Some text) tag rest ne t = ap (λ (t : Table). told_of t key) t.keys_are ∙ told_other old.keys tag.key _ key ne
    behind None tag rest ne a = by_word (is_forget rest) tag rest ne a

  read : (key : ℕ) (old new : Replica S) (was is : Option Held) (said noted : List ℕ) (h : Heard) (line : List ℕ) → ((tag : Tag) (rest : List ℕ) → h ≡ Tagged tag rest → tag.key ≢ key) → IsHeard A h old was line said noted new is →
      told_of new.numbered.keys key ≡ told_of old.numbered.keys key
  read key old new was is said noted (Tagged tag rest) line other a = behind old.numbered new.numbered was is said noted key (did_at rest) tag rest (λ e. other tag rest refl (sym e)) a.numbered
  read key old new was is said noted (Place place) line other a = ap (λ (n : Numbered S). told_of n.keys key) a.numbered
  read key old new was is said noted (Digest place digest) line other a = ap (λ (n : Numbered S). told_of n.keys key) a.numbered
  read key old new was is said noted Plain line other a = ap (λ (t : Table). told_of t key) a.numbered.keys_are

  stays : (key : ℕ) (old new : Replica S) (was is : Option Held) (lines : List (List ℕ)) (said noted : List ℕ) → AllByRecursion (IsNotOf key) lines → Answers (by_stand (IsReplied A)) (stand old was) lines said noted (stand new is) → new.lost ≡ false → told_of new.numbered.keys key ≡ told_of old.numbered.keys key
  stays key old new was is [] said noted others a whole = ap (λ (s : Stand (Replica S)). told_of s.service.numbered.keys key) a.2
  stays key old new was is (line ∷ lines) said noted others a whole =
      let mid = a.0 in
      let w = whole_at A mid.service new mid.files is lines a.2 a.4 a.8 whole in
      stays key mid.service new mid.files is lines a.2 a.4 others.1 a.8 whole
      ∙ read key old mid.service was mid.files a.1 a.3 (heard line) line others.0 (whole_line A old mid.service was mid.files line a.1 a.3 a.5 w)

  -- a tagged line is answered by whether its number is new
  once : (old new : Replica S) (was is : Option Held) (tag : Tag) (line said noted : List ℕ) → (t : IsTagged tag line) → IsReplied A old was line said noted new is → new.lost ≡ false → IsAnsweredOnce A (turn_of old.numbered.keys tag) tag old.numbered was t.rest said noted new.numbered is
  once old new was is tag line said noted t r whole =
      let h : IsHeard A (Tagged tag t.rest) old was line said noted new is = subst (λ (h : Heard). IsHeard A h old was line said noted new is) t.tagged (whole_line A old new was is line said noted r whole) in
      let word : IsTagTaken A None tag old.numbered was t.rest said noted new.numbered is = subst (λ (d : Option (List ℕ)). IsTagTaken A d tag old.numbered was t.rest said noted new.numbered is) t.no_word h.numbered in
      subst (λ (b : Bool). cond b (IsTold [] (forgotten_if (turn_of old.numbered.keys tag) old.numbered.keys tag.key) (forget_note (turn_of old.numbered.keys tag) tag) old.numbered was said noted new.numbered is) (IsAnsweredOnce A (turn_of old.numbered.keys tag) tag old.numbered was t.rest said noted new.numbered is)) t.kept word

  done : (old new : Numbered S) (was is : Option Held) (tag : Tag) (input said noted : List ℕ) → IsAnsweredOnce A turn.Fresh tag old was input said noted new is → told_of new.keys tag.key ≡ Some (record { number = tag.number; first = line_to_asker input said })
  done old new was is tag input said noted p = ap (λ (t : Table). told_of t tag.key) p.keys_are ∙ told_same old.keys tag.key _

  last_turn : (keys : Table) (tag : Tag) (first : List ℕ) → told_of keys tag.key ≡ Some (record { number = tag.number; first = first }) → turn_of keys tag ≡ turn.Again
  last_turn keys tag first e = ap (λ (o : Option ToldView). turn_after (option_map (λ (t : ToldView). t.number) o) tag.number) e ∙ ap (λ r. turn_by r tag.number) (sym (nat_cmp_is tag.number tag.number Equal refl))

  same_numbered : (old new : Numbered S) → new.inner ≡ old.inner → new.keys ≡ old.keys → new ≡ old
  same_numbered old new a b = λ i. record { inner = a i; keys = b i }

  pub told_again : IsToldAgain A
  told_again old new was is tag line said noted first t kept r whole =
      let turn_is = last_turn old.numbered.keys tag first kept in
      let a : IsAnsweredOnce A turn.Again tag old.numbered was t.rest said noted new.numbered is = subst (λ (x : Turn). IsAnsweredOnce A x tag old.numbered was t.rest said noted new.numbered is) turn_is (once old new was is tag line said noted t r whole) in
      (a.says ∙ ap first_of kept, a.notes, same_numbered old.numbered new.numbered a.inner a.keys_are, a.files)

  pub as_before : IsAnsweredAsBefore A
  as_before old mid late new was then by is tag line said noted between meanwhile notes text more t fresh first whole others a last unlost =
      let now : IsAnsweredOnce A turn.Fresh tag old.numbered was t.rest said noted mid.numbered then = subst (λ (r : Turn). IsAnsweredOnce A r tag old.numbered was t.rest said noted mid.numbered then) fresh (once old mid was then tag line said noted t first whole) in
      told_again late new by is tag line text more (line_to_asker t.rest said) t (stays tag.key mid late then by between meanwhile notes others a last.before ∙ done old.numbered mid.numbered was then tag t.rest said noted now) last unlost
