-- What is there in the end, if a journal was kept in a file or in segments.
use Rattle.std.proofs.Common.{◌≡◌, ◌+◌, ◌++◌, ℕ, List, [], ◌∷◌, Bool, true, false, Option, None, Some, refl, sym, ap, subst, ◌∙◌, inl, inr}
use Rattle.std.specs.Prelude.{IsSome, IfSome}
use Rattle.std.specs.Option.{is_some}
use Rattle.std.specs.Io.KnownBytes.{Appends}
use Rattle.std.proofs.lemmas.Bool.{false≢true, true≢false}
use Rattle.disks.specs.Held.{Held, Thing, Nothing, Folder, File, file_bytes, is_a_folder, is_a_thing, bytes_of, is_folder, is_there, LeadsToFolder, IsOneFile, IsReplaced, Grows, Creates, Locks, Replaces}
use Rattle.line_service.specs.SegmentNames.{segment_file}
use Rattle.saved_history.specs.declared.saved.Saved.{Saved}
use Rattle.ring_service.specs.declared.permits.Permits.{Permits}
use Rattle.ring_service.specs.Permits.{Terms}
use Rattle.ring_service.specs.Standings.{Standing}
use Rattle.ring_service.specs.Starts.{HaveChanged, answered_changed}
use Rattle.ring_service.specs.Serving.{IsAnswered, Answers}
use Rattle.line_service.specs.Stands.{Stand}
use Rattle.line_service.specs.declared.segmented.EndFault.{EndFault}
use Rattle.line_service.specs.Segments.{Moment, IsReady, HasBegun}
use Rattle.line_service.specs.Service.{Part, IsPart, AreParts}
use Rattle.line_service.proofs.Changing.{HoldsSame, kept_file}
use Rattle.ring_service.specs.declared.chain_segments.ChainRules.{ChainRules}
use Rattle.ring_service.specs.Texts.{segment_text}
use Rattle.ring_service.specs.Rules.{file_of}
use Rattle.ring_service.specs.Services.{ServiceView, terms_of, IsServed as IsLineServed, segmenting}
use Rattle.ring_service.proofs.ChainRecovering.{part_answers}
use Rattle.tool_parts.specs.declared.requests.ServeWords.{ServeWords}
use Rattle.serve_commands.specs.Served.{journal_of, permits_of, IsNoted, BeginsAt, IsServedNoted, IsServed, IsServedFrom}
use Rattle.serve_commands.specs.ServedFolder.{Place, IsRun, IsServedIn}
use Rattle.tool_parts.specs.Locking.{lock_of}
use Rattle.serve_commands.specs.ServeAnswer.{IsServedTo}
use Rattle.wrong_commands.proofs.Cuts.{known_after, if_some}

-- ---- files that are known stay known, and so does what a journal holds

abbrev pub Known : Option Held → Type 0
Known files = (h : Held) × (files ≡ Some h)

pub replaced_known : (was is : Option Held) (name bytes : List ℕ) → Known was → Replaces was is name (Some bytes) → Known is
replaced_known was is name bytes k r = known_after was is name (Some bytes) k.0 bytes k.1 refl r

same_known : (was is : Option Held) → Known was → is ≡ was → Known is
same_known was is k same = (k.0, same ∙ k.1)

changed_known : (journal : Option (List ℕ)) (was is : Option Held) → Known was → HaveChanged journal was is → Known is
changed_known journal was is k (inl e) = same_known was is k e
changed_known journal was is k (inr r) = replaced_known was is r.0 r.1 k r.2

pub answers_known : (terms : Terms) (old new : List Standing) (was is : Option Held) (lines : List (List ℕ)) (said noted : List ℕ) → Known was → Answers terms old was lines said noted new is → Known is
answers_known terms old new was is [] said noted k h = same_known was is k (ap (λ (x : Stand (List Standing)). x.files) h.2)
answers_known terms old new was is (line ∷ lines) said noted k h =
    let mid : List Standing = h.0.service in
    let between : Option Held = h.0.files in
    let one : IsAnswered terms old was line h.1 h.3 mid between = h.5 in
    answers_known terms mid new between is lines h.2 h.4 (changed_known terms.journal was between k (answered_changed terms old mid was between line h.1 h.3 one)) h.8

abbrev pub Has : Option (List ℕ) → Type 0
Has contents = (bytes : List ℕ) × (contents ≡ Some bytes)

appended_has : (was is : Option (List ℕ)) (bytes : List ℕ) → Has was → Appends was is bytes → Has is
appended_has was is bytes k a = go is (subst (λ (x : Option (List ℕ)). Appends x is bytes) k.1 a)
  where
    go : (is : Option (List ℕ)) → Appends (Some k.0) is bytes → Has is
    go None a = absurd a
    go (Some xs) a = (xs, refl)

-- what is replaced holds its bytes
abbrev pub Holds : Option Held → List ℕ → Type 0
Holds files name = (h : Held) × (bytes : List ℕ) × (files ≡ Some h) × (bytes_of h name ≡ Some bytes)

put_holds : (was is : Option Held) (name : List ℕ) (journal : Option (List ℕ)) → Known was → Has journal → Replaces was is name journal → Holds is name
put_holds was is name journal k j r =
    go is (subst (λ (x : Option (List ℕ)). Replaces (Some k.0) is name x) j.1 (subst (λ (x : Option Held). Replaces x is name journal) k.1 r))
  where
    go : (is : Option Held) → Replaces (Some k.0) is name (Some j.0) → Holds is name
    go None r = absurd r
    go (Some h) r = (h, j.0, refl, r.here name refl)

-- ---- a journal in a file

grown_has : (files : Option Held) (name : List ℕ) (contents : Option (List ℕ)) → Known files → Grows files name contents → Has contents
grown_has files name contents k g =
    let opened = subst (λ (x : Option Held). Grows x name contents) k.1 g in (opened.0, opened.2)

noted_there : (permits : Permits) (name : List ℕ) (start end : List Standing) (before after : Option Held) (was is old new : Option (List ℕ)) → Known before → IsServedNoted permits name start end before after was is old new → Holds after name
noted_there permits name start end before after was is old new k h =
    let begun = replaced_known before h.begun name _ k h.put in
    let first = grown_has h.begun name h.first begun h.opened in
    let ended = answers_known _ start end h.begun h.ended h.served.told.answered.lines h.served.told.said h.served.told.noted begun h.served.told.answered.answers in
    let last = appended_has h.first h.last h.served.told.noted first h.served.told.wrote_notes in
    put_holds h.ended after name h.last ended last h.settled

-- ---- a journal in segments

record IsKnown (m : Moment ServiceView) : Type 0 where
  pub files : Known m.files
  pub journal : Has m.journal

module _ (folder : List ℕ) where
  ready_known : (kept : Option EndFault) (a b : Moment ServiceView) → IsKnown a → IsReady segmenting folder kept a b → IsKnown b
  ready_known None a b k (inl h) = subst IsKnown (sym h.1) k
  ready_known None a b k (inr h) =
      let e = h.1.file in
      let text : List ℕ = segment_text b.number e.behind b.service.rings in
      let between = known_after a.files e.between (segment_file folder a.number) a.journal k.files.0 k.journal.0 k.files.1 k.journal.1 e.settled in
      record {
        files = replaced_known e.between b.files (segment_file folder (a.number + 1)) _ between e.put;
        journal = (text, if_some e.between between.0 (λ _. b.journal ≡ Some text) between.1 h.1.journal);
      }
  ready_known (Some why) a b k h = kept_known (kept_file segmenting folder why a b h.1)
    where
      kept_known : HoldsSame folder a b → IsKnown b
      kept_known (inl f) = record { files = same_known a.files b.files k.files f.0; journal = (k.journal.0, f.1 ∙ k.journal.1) }
      kept_known (inr f) = record {
        files = known_after a.files b.files (segment_file folder a.number) a.journal k.files.0 k.journal.0 k.files.1 k.journal.1 f.0;
        journal = (k.journal.0, if_some a.journal k.journal.0 (λ (bytes : List ℕ). b.journal ≡ Some bytes) k.journal.1 (if_some a.files k.files.0 (λ _. IfSome a.journal (λ (bytes : List ℕ). b.journal ≡ Some bytes)) k.files.1 f.1));
      }

  part_known : (p : Part ServiceView) → IsKnown p.from → IsPart IsLineServed p → IsKnown p.to
  part_known p k h = record {
    files = answers_known (terms_of p.from.service) p.from.service.rings p.to.service.rings p.from.files p.to.files p.lines p.said p.noted k.files (part_answers p h);
    journal = appended_has p.from.journal p.to.journal p.noted k.journal h.wrote;
  }

  parts_known : (a b : Moment ServiceView) (ps : List (Part ServiceView)) → IsKnown a → AreParts IsLineServed segmenting folder a ps b → IsKnown b
  parts_known a b [] k h = subst IsKnown (sym h) k
  parts_known a b (p ∷ ps) k h = parts_known p.to b ps (part_known p (ready_known p.kept a p.from k h.0) h.1) h.2

run_there : (s : ChainRules) (start : Place) (first last : Moment ServiceView) (end : List Standing) (before after : Option Held) (was is old new : Option (List ℕ)) → Known before → IsRun s start first last end before after was is old new → Holds after (file_of s last.number)
run_there s start first last end before after was is old new k h =
    let text : List ℕ = segment_text start.number start.behind start.rings in
    let begun : IsKnown first = record {
      files = replaced_known before first.files (file_of s start.number) text k h.begun.file.put;
      journal = (text, if_some before k.0 (λ _. first.journal ≡ Some text) k.1 h.begun.file.journal);
    } in
    let ended = parts_known s.files.folder.now first last h.served.parts begun h.served.served in
    put_holds last.files after (file_of s last.number) last.journal ended.files ended.journal h.settled

created_known : (was is : Option Held) (name : List ℕ) (made : Bool) → Known was → Creates was is name made → Known is
created_known was is name made k c = go made (subst (λ (x : Option Held). Creates x is name made) k.1 c)
  where
    go : (made : Bool) → Creates (Some k.0) is name made → Known is
    go true c = replaced_known (Some k.0) is name [] (k.0, refl) c.1
    go false c = (k.0, c.0)

locking_known : (was is : Option Held) (name : List ℕ) → Known was → Locks was is name → Known is
locking_known was is name k l = go is (subst (λ (x : Option Held). Locks x is name) k.1 l)
  where
    go : (is : Option Held) → Locks (Some k.0) is name → Known is
    go None l = absurd l
    go (Some h) l = (h, refl)

-- some segment's file is there
segments_there : (words : ServeWords) (folder : List ℕ) (saved : Option Saved) (end : List Standing) (before after : Option Held) (was is old new : Option (List ℕ)) → Known before → IsServedIn words folder saved end before after was is old new
    → (n : ℕ) × Holds after (segment_file folder n)
segments_there words folder saved end before after was is old new k h =
    let made = created_known before h.locked.0 (lock_of folder) h.locked.1.0 k h.locked.1.1 in
    let there = locking_known h.locked.0 h.there (lock_of folder) made h.locked.2 in
    (h.last.number, subst (λ (f : List ℕ). Holds after (segment_file f h.last.number)) h.by_words.0 (run_there h.rules h.start h.first h.last end h.there after was is old new there h.run))

-- ---- neither

pub known_of : (files : Option Held) → IsSome files → Known files
known_of None s = absurd (false≢true s)
known_of (Some held) s = (held, refl)

nothing_there : (t : Thing) → is_a_thing t ≡ false → (file_bytes t ≡ None) × (is_a_folder t ≡ false)
nothing_there Nothing h = (refl, refl)
nothing_there Folder h = absurd (true≢false h)
nothing_there (File bytes) h = absurd (true≢false h)

pub one_name : (a b : List ℕ) → Some a ≡ Some b → a ≡ b
one_name a b p = cc

none_some : {A : Type 0} (o : Option A) (a : A) → o ≡ None → o ≡ Some a → ⊥
none_some o a n s = false≢true (ap is_some (sym n ∙ s))

-- in the end nothing is there, though it was served as a file
pub not_in_a_file : (words : ServeWords) (name : List ℕ) (saved : Option Saved) (end : List Standing) (before after : Option Held) (was is old new : Option (List ℕ)) → journal_of words ≡ Some name → Known before
    → ((h : Held) → after ≡ Some h → bytes_of h name ≡ None) → IsServedFrom words saved end before after was is old new → ⊥
not_in_a_file words name saved end before after was is old new named k none h =
    let noted = subst (λ (j : Option (List ℕ)). IsServed (permits_of words) j h.start end before after was is old new) named h.served in
    let there = noted_there (permits_of words) name h.start end before after was is old new k noted in
    none_some (bytes_of there.0 name) there.1 (none there.0 there.2) there.3

pub new_name_is_no_folder : (words : ServeWords) (name : List ℕ) (held : Held) (before after : Option Held) (saved : Option Saved) (end : List Standing) (was is old new : Option (List ℕ)) → journal_of words ≡ Some name → before ≡ Some held
    → is_there held name ≡ false → ((h : Held) → after ≡ Some h → bytes_of h name ≡ None) → IsServedTo words saved end before after was is old new → ⊥
new_name_is_no_folder words name held before after saved end was is old new named files nothing none (inl h) =
    not_in_a_file words name saved end before after was is old new named (held, files) none h
new_name_is_no_folder words name held before after saved end was is old new named files nothing none (inr h) =
    let same : h.0 ≡ name = one_name h.0 name (sym h.1 ∙ named) in
    let folder : is_folder held name ≡ true = subst (λ (x : Option Held). LeadsToFolder x name) files (subst (λ (n : List ℕ). LeadsToFolder before n) same h.2) in
    false≢true (sym (nothing_there (held.at (held.place name)) nothing).1 ∙ folder)

pub folder_is_no_file : (words : ServeWords) (name : List ℕ) (held : Held) (before after : Option Held) (saved : Option Saved) (end : List Standing) (was is old new : Option (List ℕ)) → journal_of words ≡ Some name → before ≡ Some held
    → is_folder held name ≡ true → ((h : Held) (n : ℕ) → after ≡ Some h → bytes_of h (segment_file name n) ≡ None) → IsServedTo words saved end before after was is old new → ⊥
folder_is_no_file words name held before after saved end was is old new named files folder none (inl h) =
    let begins = subst (λ (x : Option Held). IsNoted x name saved h.from) files (subst (λ (j : Option (List ℕ)). BeginsAt before j saved h.from) named h.begins) in
    false≢true (sym begins.0 ∙ folder)
folder_is_no_file words name held before after saved end was is old new named files folder none (inr h) =
    let same : h.0 ≡ name = one_name h.0 name (sym h.1 ∙ named) in
    let there = segments_there words h.0 saved end before after was is old new (held, files) h.3 in
    let file = subst (λ (f : List ℕ). Holds after (segment_file f there.0)) same there.1 in
    none_some (bytes_of file.0 (segment_file name there.0)) file.1 (none file.0 there.0 file.2) file.3

-- ---- what the twins leave

-- a file elsewhere is as it was
pub elsewhere : (was : Held) (after : Option Held) (name other bytes : List ℕ) → Replaces (Some was) after name (Some bytes) → (IsOneFile was name other → ⊥) → bytes_of was other ≡ None → (h : Held) → after ≡ Some h → bytes_of h other ≡ None
elsewhere was after name other bytes r apart none h is =
    let put : IsReplaced was h name bytes = subst (λ (x : Option Held). Replaces (Some was) x name (Some bytes)) is r in
    put.others other apart ∙ none

pub begun_and_closed : (folder : List ℕ) (v : ServiceView) (behind : List ℕ) (held : Held) (before after : Option Held) (m : Moment ServiceView) (name : List ℕ) → before ≡ Some held → HasBegun segmenting folder v 1 behind before m
    → name ≡ segment_file folder m.number → Replaces m.files after name m.journal → is_there held folder ≡ false → (IsOneFile held (segment_file folder 1) folder → ⊥)
    → (h : Held) → after ≡ Some h → bytes_of h folder ≡ None
begun_and_closed folder v behind held before after m name files b named r nothing apart h is =
    let first : List ℕ = segment_file folder 1 in
    let text : List ℕ = segment_text 1 behind v.rings in
    let there = subst (λ (x : Option Held). Replaces x m.files first (Some text)) files b.file.put in
    let mid = replaced_known (Some held) m.files first text (held, refl) there in
    let put : IsReplaced held mid.0 first text = subst (λ (x : Option Held). Replaces (Some held) x first (Some text)) mid.1 there in
    let journal = if_some before held (λ _. m.journal ≡ Some text) files b.file.journal in
    let closed = subst (λ (x : Option Held). Replaces x after first (Some text)) mid.1
    (subst (λ (j : Option (List ℕ)). Replaces m.files after first j) journal
    (subst (λ (n : List ℕ). Replaces m.files after n m.journal) (named ∙ ap (λ (n : ℕ). segment_file folder n) b.number_is) r)) in
    elsewhere mid.0 after first folder text closed
    (λ same. apart (sym (put.places first) ∙ same ∙ put.places folder))
    (put.others folder apart ∙ (nothing_there (held.at (held.place folder)) nothing).0) h is

pub at_known : (files : Option Held) (P : Held → Type 0) → IsSome files → IfSome files P → (held : Held) × (files ≡ Some held) × P held
at_known None P s p = absurd (false≢true s)
at_known (Some held) P s p = (held, refl, p)
