-- The file of the last segment has the notes of its parts.
use Rattle.std.proofs.Common.{◌≡◌, ℕ, ◌+◌, List, [], ◌∷◌, ◌++◌, Option, None, Some, refl, sym, ap, subst, ◌∙◌, ◌⊎◌, inl, inr, append_assoc, arith}
use Rattle.std.specs.Prelude.{IfSome, IsSome}
use Rattle.std.specs.Io.KnownBytes.{Appends, Consumes}
use Rattle.std.proofs.lemmas.List.{append-nil}
use Rattle.std.proofs.lemmas.Bool.{false≢true}
use Rattle.disks.specs.Held.{Held, Replaces}
use Rattle.disks.specs.Lasting.{BeginsWith, HasFront}
use Rattle.text_lines.proofs.Writing.{appends_then, appends_nil}
use Rattle.line_service.specs.SegmentNames.{segment_file}
use Rattle.line_service.specs.Answering.{Answers, AreAnswered, joined_lines}
use Rattle.line_service.specs.Stands.{Stand, AnsweringWith, by_stand, stand}
use Rattle.line_service.specs.Loop.{Stops}
use Rattle.line_service.proofs.Telling.{none_answered}
use Rattle.line_service.specs.declared.segmented.EndFault.{EndFault}
use Rattle.line_service.specs.Segmenting.{Segmenting, KeepsKnown}
use Rattle.line_service.specs.Segments.{Moment, moment_of, stand_of, IsReady}
use Rattle.line_service.specs.Service.{Part, IsPart, AreParts, all_lines, all_said}
use Rattle.line_service.specs.Notes.{all_noted, AreIn, KeepsLast, ToldLinesAreNoted}
use Rattle.line_service.specs.Lasting.{LeavesSegment, ToldLinesLast, LeavesFile, LeavesEarlier, EachSegmentLasts}
use Rattle.line_service.proofs.Changing.{kept_file}
use Rattle.line_service.proofs.SegmentLasting.{front_leaves}
use Rattle.line_service.proofs.SegmentParts.{Served, parts_more, lines_more, said_more}
use Rattle.line_service.proofs.Earlier.{LeavesWhole, whole_keeps, whole_then, each_of}

-- ---- within a segment

-- if the files are known they stay so, and the file of the segment has got these bytes since then
abbrev Goes : {S : Type 0} → Moment S → Moment S → List ℕ → Type 0
Goes m b bytes = (held : Held) → m.files ≡ Some held → ((h : Held) × (b.files ≡ Some h)) × Appends m.journal b.journal bytes

goes_none : {S : Type 0} (m : Moment S) → Goes m m []
goes_none m = λ held e. ((held, e), appends_nil m.journal)

goes_then : {S : Type 0} (m n b : Moment S) (x y : List ℕ) → Goes m n x → Goes n b y → Goes m b (x ++ y)
goes_then m n b x y p q = λ held e.
    let one = p held e in
    let two = q one.0.0 one.0.1 in
    (two.0, appends_then m.journal n.journal b.journal x y one.1 two.1)

still_held : (was is : Option Held) (name : List ℕ) (journal : Option (List ℕ)) (held : Held) → was ≡ Some held → Replaces was is name journal → (h : Held) × (is ≡ Some h)
still_held was None name journal held e r = absurd (subst (λ (w : Option Held). Replaces w None name journal) e r)
still_held was (Some h) name journal held e r = (h, refl)

same_known : (files : Option Held) (held : Held) (old new : Option (List ℕ)) → files ≡ Some held → IfSome files (λ (h : Held). IfSome old (λ (bytes : List ℕ). new ≡ Some bytes)) → Appends old new []
same_known files held None new e k = tt
same_known files held (Some bytes) new e k =
    let same : new ≡ Some bytes = subst (λ (f : Option Held). IfSome f (λ (h : Held). new ≡ Some bytes)) e k in
    subst (λ (x : Option (List ℕ)). Appends (Some bytes) x []) (sym same) (appends_nil (Some bytes))

kept_goes : {S : Type 0} (m b : Moment S) (name : List ℕ) → ((b.files ≡ m.files) × (b.journal ≡ m.journal)) ⊎ (Replaces m.files b.files name m.journal × IfSome m.files (λ (h : Held). IfSome m.journal (λ (bytes : List ℕ). b.journal ≡ Some bytes))) → Goes m b []
kept_goes m b name (inl k) = λ held e. ((held, k.0 ∙ e), subst (λ (x : Option (List ℕ)). Appends m.journal x []) (sym k.1) (appends_nil m.journal))
kept_goes m b name (inr k) = λ held e. (still_held m.files b.files name m.journal held e k.0, same_known m.files held m.journal b.journal e k.1)

-- between two parts of one segment nothing is written
ready_goes : {S : Type 0} (G : Segmenting S) (folder : List ℕ) (kept : Option EndFault) (m b : Moment S) → IsReady G folder kept m b → b.number ≡ m.number → Goes m b []
ready_goes G folder None m b (inl h) same = subst (λ (x : Moment _). Goes m x []) (sym h.1) (goes_none m)
ready_goes G folder None m b (inr h) same = let up = h.1.number in absurd (omega (arith, up, same))
ready_goes G folder (Some why) m b h same = kept_goes m b (segment_file folder m.number) (kept_file G folder why m b h.1)

is_held : (files : Option Held) → IsSome files → (h : Held) × (files ≡ Some h)
is_held None some = absurd (false≢true some)
is_held (Some h) some = (h, refl)

pub lines_known : {S : Type 0} (A : AnsweringWith S) → KeepsKnown A → (old new : Stand S) (lines : List (List ℕ)) (said noted : List ℕ) → Answers (by_stand A) old lines said noted new → IsSome old.files → IsSome new.files
lines_known A law old new [] said noted a some = subst (λ (x : Stand _). IsSome x.files) (sym a.2) some
lines_known A law old new (line ∷ lines) said noted a some = lines_known A law a.0 new lines a.2 a.4 a.8 (law old.service a.0.service old.files a.0.files line a.1 a.3 a.5 some)

part_goes : {S : Type 0} (A : AnsweringWith S) → KeepsKnown A → (p : Part S) → IsPart A p → Goes p.from p.to p.noted
part_goes A law p is = λ held e.
    let some : IsSome p.from.files = subst (λ (f : Option Held). IsSome f) (sym e) refl in
    (is_held p.to.files (lines_known A law (stand_of p.from) (stand_of p.to) p.lines p.said p.noted is.answers some), is.wrote)

parts_go : {S : Type 0} (A : AnsweringWith S) → KeepsKnown A → (G : Segmenting S) (folder : List ℕ) (m b : Moment S) (ps : List (Part S)) (number : ℕ) → m.number ≡ number → AreParts A G folder m ps b → AreIn number ps → Goes m b (all_noted ps)
parts_go A law G folder m b [] number same served within = subst (λ (x : Moment _). Goes m x []) (sym served) (goes_none m)
parts_go A law G folder m b (p ∷ ps) number same served within =
    goes_then m p.from b [] (p.noted ++ all_noted ps) (ready_goes G folder p.kept m p.from served.0 (within.0 ∙ sym same))
    (goes_then p.from p.to b p.noted (all_noted ps) (part_goes A law p served.1) (parts_go A law G folder p.to b ps number (served.1.number ∙ within.0) served.2 within.1))

-- ---- one of the parts

record IsAt {S : Type 0} (A : AnsweringWith S) (G : Segmenting S) (folder : List ℕ) (first : Part S) (others : List (Part S)) (b : Moment S) : Type 0 where
  pub is : IsPart A first
  pub then_ : AreParts A G folder first.to others b

parts_at : {S : Type 0} (A : AnsweringWith S) (G : Segmenting S) (folder : List ℕ) (a b : Moment S) (earlier : List (Part S)) (first : Part S) (others : List (Part S)) → AreParts A G folder a (earlier ++ first ∷ others) b → IsAt A G folder first others b
parts_at A G folder a b [] first others h = record { is = h.1; then_ = h.2 }
parts_at A G folder a b (q ∷ qs) first others h = parts_at A G folder q.to b qs first others h.2

if_known : (f : Option Held) (P : Type 0) → ((held : Held) → f ≡ Some held → P) → IfSome f (λ (h : Held). P)
if_known None P k = tt
if_known (Some held) P k = k held refl

pub keeps_last : {S : Type 0} (A : AnsweringWith S) → KeepsKnown A → (G : Segmenting S) (folder : List ℕ) (a mid : Moment S) (parts : List (Part S)) (more : List ℕ) (journal : Option (List ℕ)) → AreParts A G folder a parts mid → Appends mid.journal journal more → KeepsLast parts more journal
keeps_last A law G folder a mid parts more journal served got earlier first others parted within =
    let at = parts_at A G folder a mid earlier first others (subst (λ (x : List (Part _)). AreParts A G folder a x mid) parted served) in
    let goes : Goes first.from mid (all_noted (first ∷ others)) = goes_then first.from first.to mid first.noted (all_noted others) (part_goes A law first at.is) (parts_go A law G folder first.to mid others first.from.number at.is.number at.then_ within) in
    if_known first.from.files (Appends first.from.journal journal (all_noted (first ∷ others) ++ more))
    (λ held e. appends_then first.from.journal mid.journal journal (all_noted (first ∷ others)) more (goes held e).1 got)

-- ---- wherever serving ends

-- all that was answered was delivered
module _ {S : Type 0} (A : AnsweringWith S) (law : KeepsKnown A) (G : Segmenting S) (folder : List ℕ) (a b : Moment S) (unread line : List ℕ) (input rest out after : Option (List ℕ)) (new : S) (d : Served A G folder a b unread line input rest out after) (same : new ≡ b.service) where
  -- with the journal, or another value that it is
  told_with : (journal : Option (List ℕ)) → b.journal ≡ journal → ToldLinesAreNoted A G folder a new input rest out after journal
  told_with journal e =
      let none = subst (λ (x : Option (List ℕ)). Appends b.journal x []) e (appends_nil b.journal) in
      record {
        parts = d.parts;
        mid = b;
        bytes = d.read;
        behind = d.begun ++ unread;
        left = [];
        untaken = d.begun ++ unread;
        unsaid = [];
        more = [];
        back = [];
        told = d.served;
        is = b.files;
        untold = subst (λ (s : S). AreAnswered (by_stand A) (stand_of b) (d.begun ++ unread) (d.begun ++ unread) [] [] (stand s b.files)) (sym same) (none_answered (by_stand A) (stand_of b) (d.begun ++ unread));
        read = d.consumed;
        split = d.split;
        wrote = (all_said d.parts, sym (append-nil (all_said d.parts)), d.wrote);
        wrote_notes = none;
        keeps = keeps_last A law G folder a b d.parts [] journal d.served none;
      }

  pub all_told : ToldLinesAreNoted A G folder a new input rest out after b.journal
  all_told = told_with b.journal refl

  -- the same, where a loss of power leaves the notes
  pub all_last : (journal : List ℕ) → b.journal ≡ Some journal → (left : Option Held) → LeavesSegment G folder b journal left → ToldLinesLast A G folder a new input rest out after left
  unfolding told_with
  all_last journal e left l = record {
    journal = journal;
    noted = told_with (Some journal) e;
    left_is = l;
  }

  -- and the segments before it, whole
  pub all_each : (journal : List ℕ) → (e : b.journal ≡ Some journal) → (left : Option Held) → (l : LeavesSegment G folder b journal left) → LeavesWhole folder a d.parts left → LeavesFile folder b.number left (λ (has : Option (List ℕ)). BeginsWith has (Some journal)) →
      EachSegmentLasts A G folder a new input rest out after left
  unfolding all_last told_with
  all_each journal e left l whole front = record {
    told = all_last journal e left l;
    each = each_of A G folder a d.parts b.number journal left whole front;
  }

-- ---- where a part stopped

abbrev after_notes : Option (List ℕ) → List ℕ → Option (List ℕ)
after_notes None noted = None
after_notes (Some xs) noted = Some (xs ++ noted)

with_notes : (before : Option (List ℕ)) (noted : List ℕ) → Appends before (after_notes before noted) noted
with_notes None noted = tt
with_notes (Some xs) noted = refl

then_more : (before after : Option (List ℕ)) (noted more : List ℕ) → Appends before after (noted ++ more) → Appends (after_notes before noted) after more
then_more None after noted more h = tt
then_more (Some xs) None noted more h = absurd h
then_more (Some xs) (Some ys) noted more h = h ∙ sym (append_assoc xs noted more)

module _ {S : Type 0} (A : AnsweringWith S) (law : KeepsKnown A) (G : Segmenting S) (folder : List ℕ) (a b from : Moment S) (kept : Option EndFault) (unread line : List ℕ) (input middle out before : Option (List ℕ)) (d : Served A G folder a b unread line input middle out before) (ready : IsReady G folder kept b from) where
  pub some_told : (new : S) (files : Option Held) (journal rest after : Option (List ℕ)) → (read : List ℕ) → Consumes input rest (d.read ++ read) →
      Stops (by_stand A) (stand_of from) (record { journal = from.journal; out = before }) (record { journal = journal; out = after }) (d.begun ++ (unread ++ read)) (stand new files) →
      ToldLinesAreNoted A G folder a new input rest out after journal
  some_told new files journal rest after read consumed st =
      let part : Part S = record { kept = kept; from = from; to = moment_of st.mid.service st.mid.files from.number (after_notes from.journal st.noted); lines = st.told.lines; said = st.said; noted = st.noted } in
      let parts : List (Part S) = d.parts ++ part ∷ [] in
      let served : AreParts A G folder a parts part.to = parts_more A G folder a b d.parts part d.served ready (record { number = refl; each = st.told.each; answers = st.told.answers; wrote = with_notes from.journal st.noted }) in
      let joined = joined_lines st.told.lines in
      let got = then_more from.journal journal st.noted st.front st.wrote_notes in
      record {
        parts = parts;
        mid = part.to;
        bytes = d.read ++ read;
        behind = st.behind;
        left = st.left;
        untaken = st.rest;
        unsaid = st.unsaid;
        more = st.front;
        back = st.back;
        is = files;
        told = served;
        untold = st.untold;
        read = consumed;
        split = ap (λ (x : List ℕ). x ++ read) d.split
            ∙ (append_assoc (all_lines d.parts) (d.begun ++ unread) read
            ∙ (ap (λ (x : List ℕ). all_lines d.parts ++ x) (append_assoc d.begun unread read ∙ st.told.split)
            ∙ (sym (append_assoc (all_lines d.parts) joined st.behind) ∙ ap (λ (x : List ℕ). x ++ st.behind) (sym (lines_more d.parts part)))));
        wrote = (
          all_said d.parts ++ st.wrote.0,
          said_more d.parts part ∙ (ap (λ (x : List ℕ). all_said d.parts ++ x) st.wrote.1 ∙ sym (append_assoc (all_said d.parts) st.wrote.0 st.left)),
          appends_then out before after (all_said d.parts) st.wrote.0 d.wrote st.wrote.2,
        );
        wrote_notes = got;
        keeps = keeps_last A law G folder a part.to parts st.front journal served got;
      }

  -- the same, where a loss of power leaves the notes
  pub some_last : (new : S) (files : Option Held) (journal : List ℕ) (rest after : Option (List ℕ)) → (read : List ℕ) → Consumes input rest (d.read ++ read) →
      Stops (by_stand A) (stand_of from) (record { journal = from.journal; out = before }) (record { journal = Some journal; out = after }) (d.begun ++ (unread ++ read)) (stand new files) →
      (left : Option Held) (name : List ℕ) → name ≡ segment_file folder from.number → IfSome left (λ (held : Held). HasFront held name (Some journal)) → ToldLinesLast A G folder a new input rest out after left
  unfolding some_told
  some_last new files journal rest after read consumed st left name named l = record {
    journal = journal;
    noted = some_told new files (Some journal) rest after read consumed st;
    left_is = front_leaves G folder (moment_of st.mid.service st.mid.files from.number (after_notes from.journal st.noted)) left name journal named l;
  }

  -- and the segments before it, whole
  pub some_each : (new : S) (files : Option Held) (journal : List ℕ) (rest after : Option (List ℕ)) → (read : List ℕ) → (consumed : Consumes input rest (d.read ++ read)) →
      (st : Stops (by_stand A) (stand_of from) (record { journal = from.journal; out = before }) (record { journal = Some journal; out = after }) (d.begun ++ (unread ++ read)) (stand new files)) →
      (was mid left : Option Held) (name : List ℕ) → (named : name ≡ segment_file folder from.number) → (l : IfSome left (λ (held : Held). HasFront held name (Some journal))) →
      LeavesWhole folder a d.parts was → LeavesEarlier folder b.number was mid → (from.number ≡ b.number + 1 → LeavesFile folder b.number mid (λ (has : Option (List ℕ)). has ≡ b.journal)) →
      LeavesEarlier folder from.number mid left → LeavesFile folder from.number left (λ (has : Option (List ℕ)). BeginsWith has (Some journal)) → EachSegmentLasts A G folder a new input rest out after left
  unfolding some_last some_told
  some_each new files journal rest after read consumed st was mid left name named l whole keeps ended others front =
      let part : Part S = record { kept = kept; from = from; to = moment_of st.mid.service st.mid.files from.number (after_notes from.journal st.noted); lines = st.told.lines; said = st.said; noted = st.noted } in
      let parts : List (Part S) = d.parts ++ part ∷ [] in
      let served : AreParts A G folder a parts part.to = parts_more A G folder a b d.parts part d.served ready (record { number = refl; each = st.told.each; answers = st.told.answers; wrote = with_notes from.journal st.noted }) in
      let begun : LeavesWhole folder a parts mid = whole_then A G folder a b d.parts part d.served mid ended (whole_keeps A G folder a b d.parts d.served was mid keeps whole) in
      record {
        told = some_last new files journal rest after read consumed st left name named l;
        each = each_of A G folder a parts from.number journal left (whole_keeps A G folder a part.to parts served mid left others begun) front;
      }
