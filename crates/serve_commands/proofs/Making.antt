-- A journal whose file was there, or was made, empty, before it was read.
use Rattle.std.proofs.Common.{◌≡◌, ◌⊎◌, ◌∙◌, ℕ, List, [], get_or, arith, Bool, true, false, Option, None, Some, Result, Ok, Err, IfOk, refl, sym, ap, subst, inl, inr}
use Rattle.std.specs.Prelude.{OnOk, OnErr, IfSome, IsSome}
use Rattle.std.specs.Option.{unwrap_or}
use Rattle.std.specs.Result.{is_err}
use Rattle.std.specs.Str.{bytes_eq}
use Rattle.std.proofs.lemmas.Bool.{false≢true}
use Rattle.std.proofs.lemmas.Slice.Eq.{bytes_eq-Decides}
use Rattle.disks.specs.Held.{Held, Thing, Nothing, Folder, File, file_bytes, is_a_folder, is_a_thing, bytes_of, is_there, IsReplaced, IsRemoved, Creates, Discards, Replaces}
use Rattle.saved_history.specs.declared.saved.Saved.{Saved}
use Rattle.saved_history.specs.Content.{Content, content}
use Rattle.journal.specs.Spelling.{journal_head}
use Rattle.journal.specs.Recovery.{IsRecovered}
use Rattle.ring_service.specs.Standings.{Standing}
use Rattle.ring_service.specs.Saved.{content_of}
use Rattle.ring_service.specs.Starting.{AreResumed}
use Rattle.serve_commands.specs.Served.{IsNoted, IsSame, AreAsBefore, IsUntouched}

-- nothing is recovered of no bytes
unrecovered : (bytes : List ℕ) (c : Content) → bytes ≡ [] → IsRecovered bytes c → ⊥
unrecovered bytes c none r =
    let first : 0 ≡ 114 = ap (λ (x : List ℕ). get_or x 0 0) (sym none ∙ r.lines.spelled) in
    omega (arith, first)

-- where the rings begin follows from the files before, too
pub noted_before : (before there : Option Held) (name : List ℕ) (made : Bool) (given : Option Saved) (from : Saved) → Creates before there name made → IsNoted there name given from → IsNoted before name given from
noted_before None there name made given from c h = subst (λ (x : Option Held). IsNoted x name given from) c h
noted_before (Some was) there name false given from c h = subst (λ (x : Option Held). IsNoted x name given from) c.0 h
noted_before (Some was) None name true given from c h = absurd c.1
noted_before (Some was) (Some is) name true given from c (plain, inl h) =
    (sym (c.1.folders name) ∙ plain, inl (subst (λ (o : Option (List ℕ)). IfSome o (λ bytes. bytes ≡ [])) (sym c.0) tt, h.1))
noted_before (Some was) (Some is) name true given from c (plain, inr h) =
    absurd (unrecovered h.bytes (content from) (ap (λ (o : Option (List ℕ)). unwrap_or o []) (sym h.held ∙ c.1.here name refl)) h.recovered)

thing_stays : (x y : Thing) → is_a_folder y ≡ is_a_folder x → (IsSome (file_bytes x) → IsSome (file_bytes y)) → is_a_thing x ≡ true → is_a_thing y ≡ true
thing_stays Nothing y folders files there = absurd (false≢true there)
thing_stays Folder Nothing folders files there = absurd (false≢true folders)
thing_stays Folder Folder folders files there = refl
thing_stays Folder (File bytes) folders files there = refl
thing_stays (File bytes) Nothing folders files there = absurd (false≢true (files refl))
thing_stays (File bytes) Folder folders files there = refl
thing_stays (File bytes) (File more) folders files there = refl

-- where a file is replaced what was there is there
stays_there : (was is : Held) (name bytes : List ℕ) → IsReplaced was is name bytes → (other : List ℕ) → is_there was other ≡ true → is_there is other ≡ true
stays_there was is name bytes put other there = thing_stays (was.at (was.place other)) (is.at (is.place other)) (put.folders other) (at (bytes_eq (was.place name) (was.place other)) refl) there
  where
    at : (b : Bool) → bytes_eq (was.place name) (was.place other) ≡ b → IsSome (bytes_of was other) → IsSome (bytes_of is other)
    at true e some = subst (λ (x : Option (List ℕ)). IsSome x) (sym (put.here other ((bytes_eq-Decides (was.place name) (was.place other)).0 e))) refl
    at false e some =
        let differs : was.place name ≡ was.place other → ⊥ = λ same. false≢true (sym e ∙ (bytes_eq-Decides (was.place name) (was.place other)).1 same) in
        subst (λ (x : Option (List ℕ)). IsSome x) (sym (put.others other differs)) some

-- what replaces an empty file that was made replaces none
put_before : (was there begun : Held) (name bytes : List ℕ) → IsReplaced was there name [] → IsReplaced there begun name bytes → IsReplaced was begun name bytes
put_before was there begun name bytes made put = record {
  places = λ other. put.places other ∙ made.places other;
  folders = λ other. put.folders other ∙ made.folders other;
  locks = λ place. put.locks place ∙ made.locks place;
  kinds = λ other known. put.kinds other (stays_there was there name [] made other known) ∙ made.kinds other known;
  here = λ other same. put.here other (made.places name ∙ same ∙ sym (made.places other));
  others = λ other differs. put.others other (λ same. differs (sym (made.places name) ∙ same ∙ made.places other)) ∙ made.others other differs;
}

pub replaced_before : (before there begun : Option Held) (name : List ℕ) (made : Bool) (bytes : List ℕ) → Creates before there name made → Replaces there begun name (Some bytes) → Replaces before begun name (Some bytes)
replaced_before None there begun name made bytes c h = tt
replaced_before (Some was) there begun name false bytes c h = subst (λ (x : Option Held). Replaces x begun name (Some bytes)) c.0 h
replaced_before (Some was) None begun name true bytes c h = absurd c.1
replaced_before (Some was) (Some there) None name true bytes c h = absurd h
replaced_before (Some was) (Some there) (Some begun) name true bytes c h = put_before was there begun name bytes c.1 h

-- what is kept unless there is a refusal
pub kept_if_ok : {A E : Type 0} (r : Result A E) (b : Bool) (P : Type 0) → b ≡ is_err r → (b ≡ false → P) → OnOk r P
kept_if_ok (Ok a) b P same f = f same
kept_if_ok (Err e) b P same f = tt

-- the rings that begin, and their journal
pub made_answer : {A E : Type 0} (r : Result A E) (rings : A → List Standing) (before there ended after : Option Held) (name : List ℕ) (made : Bool) (given : Option Saved) → Creates before there name made → OnOk r (after ≡ ended) →
    IfOk r (λ a. (x : Saved) × IsNoted there name given x × AreResumed (rings a) x.rings.items × Replaces there ended name (Some (journal_head (content_of (rings a))))) →
    IfOk r (λ a. (x : Saved) × IsNoted before name given x × AreResumed (rings a) x.rings.items × Replaces before after name (Some (journal_head (content_of (rings a)))))
made_answer (Err e) rings before there ended after name made given c same h = tt
made_answer (Ok a) rings before there ended after name made given c same h = (
  h.0,
  noted_before before there name made given h.0 c h.1,
  h.2,
  subst (λ (x : Option Held). Replaces before x name (Some (journal_head (content_of (rings a))))) (sym same) (replaced_before before there ended name made _ c h.3),
)

-- ---- a file that was made and removed

-- a file that was made and removed has changed none
removed_is_same : (was there is : Held) (name : List ℕ) → bytes_of was name ≡ None → IsReplaced was there name [] → IsRemoved there is name → IsSame was is
removed_is_same was there is name none made gone = record {
  places = λ other. gone.places other ∙ made.places other;
  folders = λ other. gone.folders other ∙ made.folders other;
  files = λ other. at other (bytes_eq (was.place name) (was.place other)) refl;
}
  where
    at : (other : List ℕ) (b : Bool) → bytes_eq (was.place name) (was.place other) ≡ b → bytes_of is other ≡ bytes_of was other
    at other true e =
        let same : was.place name ≡ was.place other = (bytes_eq-Decides (was.place name) (was.place other)).0 e in
        gone.here other (made.places name ∙ same ∙ sym (made.places other)) ∙ sym (ap (λ (p : List ℕ). file_bytes (was.at p)) (sym same) ∙ none)
    at other false e =
        let differs : was.place name ≡ was.place other → ⊥ = λ same. false≢true (sym e ∙ (bytes_eq-Decides (was.place name) (was.place other)).1 same) in
        gone.others other (λ same. differs (sym (made.places name) ∙ same ∙ made.places other)) ∙ made.others other differs

pub as_before : (files : Option Held) → AreAsBefore files files
as_before None = refl
as_before (Some held) = record { places = λ other. refl; folders = λ other. refl; files = λ other. refl }

same_as_before : (before after : Option Held) → after ≡ before → AreAsBefore before after
same_as_before before after same = subst (λ (x : Option Held). AreAsBefore before x) (sym same) (as_before before)

-- what is left of it, if it is removed or not
discarded : (before there after : Option Held) (name : List ℕ) → Creates before there name true → Discards there after name true → IsUntouched before after name
discarded None there after name c d = inl (subst (λ (x : Option Held). Discards x after name true) c d)
discarded (Some was) None after name c d = absurd c.1
discarded (Some was) (Some there) None name c d = absurd d
discarded (Some was) (Some there) (Some is) name c d = inl (removed_is_same was there is name c.0 c.1 d.1)

unmade : (before there after : Option Held) (name : List ℕ) → Creates before there name false → after ≡ there → IsUntouched before after name
unmade None there after name c same = inl (same ∙ c)
unmade (Some was) there after name c same = inl (same_as_before (Some was) after (same ∙ c.0))

remains : (before there after : Option Held) (name : List ℕ) (made : Bool) → Creates before there name made → (made ≡ false → after ≡ there) → (after ≡ there) ⊎ Discards there after name true → IsUntouched before after name
remains before there after name false c kept h = unmade before there after name c (kept refl)
remains before there after name true c kept (inl same) = inr (subst (λ (x : Option Held). Creates before x name true) (sym same) c)
remains before there after name true c kept (inr d) = discarded before there after name c d

pub untouched : {A E : Type 0} (r : Result A E) (before there ended after : Option Held) (name : List ℕ) (made : Bool) → Creates before there name made → OnErr r (ended ≡ there) → (made ≡ false → after ≡ ended) →
    (after ≡ ended) ⊎ Discards ended after name true → OnErr r (IsUntouched before after name)
untouched (Ok a) before there ended after name made c same kept h = tt
untouched (Err e) before there ended after name made c same kept h =
    remains before there after name made c (subst (λ (x : Option Held). made ≡ false → after ≡ x) same kept) (subst (λ (x : Option Held). (after ≡ x) ⊎ Discards x after name true) same h)

-- what the removal of a file that may hold something left
pub taken : {E : Type 0} (r : Result Bool E) (was is : Option Held) (name : List ℕ) → IfOk r (λ gone. Discards was is name gone) → OnErr r (is ≡ was) → (is ≡ was) ⊎ Discards was is name true
taken (Err e) was is name h same = inl same
taken (Ok true) was is name h same = inr h
taken (Ok false) None is name h same = inl h
taken (Ok false) (Some held) is name h same = inl h.0
