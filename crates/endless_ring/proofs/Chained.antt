-- The text of a ring's segment is a whole file, and the next one follows it.
use Rattle.std.proofs.Common.{◌≡◌, ℕ, ◌≤◌, List, [], ◌∷◌, ◌++◌, length, length-append, map, refl, sym, ◌∙◌, ap, subst, arith}
use Rattle.std.proofs.lemmas.List.{append-nil, length-map}
use Rattle.std.specs.Fmt.{decimal}
use Rattle.text_lines.specs.Spelling.{spaced}
use Rattle.ring_model.specs.Limits.{event_limit}
use Rattle.ring_model.specs.Ring.{Ring, ring_with}
use Rattle.ring_model.specs.History.{State, IsLegal, next, opening, after}
use Rattle.ring_model.specs.Resources.{till}
use Rattle.ring_model.specs.declared.events.Event.{Event}
use Rattle.ring_check.specs.Table.{event_of}
use Rattle.ring_check.specs.Legal.{history}
use Rattle.one_thread_ring.specs.SavedOf.{saved_event}
use Rattle.journal.specs.Spelling.{Journal, JournalFits, journal_text, journal_line, call_line, journal_head}
use Rattle.journal.specs.declared.calls.JournalLine.{JournalLine}
use Rattle.journal.specs.ContentAfter.{content_after}
use Rattle.journal.proofs.Orders.{nothing_after}
use Rattle.ring_model.specs.declared.bases.Base.{Base}
use Rattle.ring_model.specs.Bases.{base_after}
use Rattle.segment_files.specs.Spelling.{head_text}
use Rattle.segment_files.specs.Remarks.{without_remarks}
use Rattle.segment_files.specs.Files.{IsFile, IsWhole, AreBases, AreStarts, Place, place_after, segments}
use Rattle.segment_files.proofs.LineCounts.{journal_ended}
use Rattle.segment_files.proofs.Hashless.{journal_without}
use Rattle.one_thread_ring.specs.Rings.{RingView}
use Rattle.one_thread_ring.specs.Texts.{saved_alone, saved_block}
use Rattle.one_thread_ring.proofs.Saved.{ring_right}
use Rattle.endless_ring.proofs.Segments.{few}
use Rattle.endless_ring.specs.Files.{FilesView, PlaceView, IsFiled, IsFileText, head_at, file_with}
use Rattle.endless_ring.specs.FileLaws.{FilesAreWhole, FilesFollow}
use Rattle.one_thread_ring.proofs.WrittenBlocks.{line_tells}

-- ---- lines record their events

pub lines_tell : (a : State ℕ) (h : List Event) → IsLegal till a h → map event_of (map saved_event h) ≡ h
lines_tell a [] l = refl
lines_tell a (e ∷ h) l =
    let one : event_of (saved_event e) ≡ e = line_tells a (next till a e.op) e.seat e.op e.reply l.0 in
    ap (λ (x : Event). x ∷ map event_of (map saved_event h)) one ∙ ap (λ (x : List Event). e ∷ x) (lines_tell (next till a e.op) h l.1)

-- ---- a file

-- no line is empty
no_line : (a : JournalLine) (more : List ℕ) → [] ≡ journal_line a ++ more → ⊥
no_line a more e =
    let one = length-append (journal_line a) more in
    let two = length-append (spaced a.ring) (call_line a.call) in
    let three = length-append (decimal a.ring) (32 ∷ []) in
    let all : 0 ≡ length (journal_line a ++ more) = ap length e in
    omega (arith, one, two, three, all)

short : (d : FilesView) → IsFiled d → length (map saved_event d.ring.ring.book.history) ≤ event_limit
short d i =
    let same = length-map d.ring.ring.book.history saved_event in
    let most = few d.ring.ring i.ring.ring in
    omega (arith, same, most)

-- a journal with no calls
abbrev alone : FilesView → Journal
alone d = record { began = saved_alone d.ring.ring; calls = [] }

module _ (d : FilesView) (bytes : List ℕ) (i : IsFiled d) (t : IsFileText d bytes) where
  spelled : bytes ≡ head_text (head_at d.place d.ring.base) ++ journal_text (alone d)
  spelled = t.spelled ∙ ap (λ (x : List ℕ). head_text (head_at d.place d.ring.base) ++ x) (sym (append-nil (journal_head (saved_alone d.ring.ring))))

  fits : JournalFits (alone d)
  fits = record { began = t.fits; calls = tt }

  same : saved_alone d.ring.ring ≡ content_after (saved_alone d.ring.ring) []
  same = sym (nothing_after (saved_alone d.ring.ring) (record { blocks = (ring_right 0 d.ring.ring i.ring.ring, tt); rings_said = refl }))

  -- it has no remark
  kept : journal_text (alone d) ≡ without_remarks (journal_text (alone d))
  kept = sym (journal_without (alone d) fits)

  pub whole : IsWhole (file_with d bytes)
  whole = record {
    rest = journal_text (alone d);
    spelled = spelled;
    ended = journal_ended (alone d) fits;
    all = record { journal = alone d; fits = fits; spelled = sym kept; closed = refl; is = same };
  }

  pub file : IsFile (file_with d bytes)
  file = record {
    rest = journal_text (alone d);
    fits = t.head;
    spelled = spelled;
    recovered = record {
      journal = alone d;
      tail = [];
      lines = record { fits = fits; spelled = sym kept ∙ sym (append-nil (journal_text (alone d))); behind = λ a more f e. no_line a more e };
      unended = refl;
      began = t.legal;
      is = same;
      legal = t.legal;
    };
  }

pub files_are_whole : FilesAreWhole
files_are_whole d bytes i t = whole d bytes i t

-- ---- the next file

-- where the ring begins in its segment, and where it continues after it
start_same : (d : RingView ℕ) → ring_with d.book.start.k d.book.start.values ≡ d.book.start
start_same d = refl

-- the segment that the file records is that of the ring
segment_same : (d : FilesView) → IsFiled d → history (saved_block 0 d.ring.ring) ≡ d.ring.ring.book.history
segment_same d i = lines_tell (opening d.ring.ring.book.start 0) d.ring.ring.book.history i.ring.ring.book.legal

-- and so is where it continues
place_same : (d : FilesView) (bytes : List ℕ) → IsFiled d
    → map place_after (segments (file_with d bytes))
    ≡ record { base = base_after d.ring.base d.ring.ring.book.start d.ring.ring.book.history; ring = d.ring.ring.book.now.ring } ∷ []
place_same d bytes i =
    let b : Base = d.ring.base in
    let r : Ring = d.ring.ring.book.start in
    let told : List Event → List Place = λ h. record { base = base_after b r h; ring = (after till (opening r 0) h).ring } ∷ [] in
    let led : State ℕ → List Place = λ x. record { base = base_after b r d.ring.ring.book.history; ring = x.ring } ∷ [] in
    ap told (segment_same d i) ∙ ap led i.ring.ring.book.current

pub files_follow : FilesFollow
files_follow d next later sealed bytes i t n s j u =
    let base : later.ring.base ≡ base_after d.ring.base d.ring.ring.book.start d.ring.ring.book.history = s.base ∙ n.ring.base in
    let start : later.ring.ring.book.start ≡ d.ring.ring.book.now.ring = s.start ∙ n.ring.start in
    let places = place_same d sealed i in
    record {
      file = file later bytes j u;
      number = ap (λ (p : PlaceView). p.number) s.place ∙ n.number;
      behind = ap (λ (p : PlaceView). p.behind) s.place ∙ n.behind;
      bases = record { rings = refl; bases = subst (λ (ps : List Place). AreBases ps (later.ring.base ∷ [])) (sym places) (base, j.ring.base, tt) };
      starts = subst (λ (ps : List Place). AreStarts ps (saved_block 0 later.ring.ring ∷ [])) (sym places) (start, tt);
      short = (short later j, tt);
    }
