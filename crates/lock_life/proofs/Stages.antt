-- Lines that are delivered in parts are a run in stages, segment by segment.
use Rattle.std.proofs.Common.{◌≡◌, ℕ, ◌+◌, Bool, true, false, List, [], ◌∷◌, ◌++◌, Option, Some, None, refl, sym, ◌∙◌, ap, subst, inl, inr, append_assoc, append-nil, ◌⊎◌}
use Rattle.std.specs.Prelude.{not, IsSome, IfSome}
use Rattle.std.specs.Io.KnownBytes.{Appends}
use Rattle.std.specs.List.{AllByRecursion}
use Rattle.std.proofs.lemmas.Bool.{false≢true}
use Rattle.std.proofs.lemmas.List.Elements.{filter-append}
use Rattle.disks.specs.Held.{Held, Replaces}
use Rattle.line_service.specs.SegmentNames.{segment_file}
use Rattle.line_service.specs.Answering.{IsLine, Answers}
use Rattle.line_service.specs.Stands.{by_stand, stand}
use Rattle.line_service.specs.declared.segmented.EndFault.{EndFault}
use Rattle.line_service.specs.Segments.{Moment, stand_of, HasEnded, IsReady, IsKept}
use Rattle.line_service.specs.Service.{Part, AreParts, all_said, IsPart}
use Rattle.line_service.proofs.Changing.{kept_file}
use Rattle.segment_files.specs.Remarks.{without_remarks}
use Rattle.ring_service.specs.Recovered.{IsPrefix}
use Rattle.line_replica.specs.Log.{numbers_of, given, Numbers}
use Rattle.line_replica.specs.Keys.{Table}
use Rattle.line_replica.specs.State.{own_lines, remarks_of, is_state}
use Rattle.held_locks.specs.Kept.{AreKept}
use Rattle.held_locks.specs.Cuts.{AreNext}
use Rattle.held_locks.proofs.NextSegments.{next_all}
use Rattle.lock_service.specs.declared.service.LockService.{LockService}
use Rattle.lock_journal.specs.declared.terms.Terms.{Terms}
use Rattle.lock_service.specs.Remarked.{begun_with_remarks}
use Rattle.lock_service.proofs.SameNames.{all_names_stay}
use Rattle.lock_service.proofs.WithoutRemarks.{begun_ends, begun_goes_by}
use Rattle.lock_journal.proofs.CutRemarks.{without_cut}
use Rattle.lock_journal.proofs.Replicas.{numbers_all, given_then, around_then, after_then}
use Rattle.lock_journal.proofs.Segments.{next_locks_begin}
use Rattle.lock_journal.proofs.WholeEnds.{noted_journal}
use Rattle.lock_journal.proofs.WholeTexts.{of_both}
use Rattle.lock_journal.proofs.WithoutRemarks.{remark_lines}
use Rattle.lock_journal.specs.Begun.{begun_text, HaveBegun}
use Rattle.lock_journal.specs.Counting.{SegmentView}
use Rattle.lock_journal.specs.Replicas.{AreToldAround, AreToldAfter, others_of}
use Rattle.lock_life.proofs.Around.{without_nothing}
use Rattle.lock_life.proofs.LifeTelling.{CanTell, sound_tells, own_are_lines, same_tells}
use Rattle.lock_life.proofs.Parted.{part_so, whole_before, SoFar, none_so_far, goes_on, part_more}
use Rattle.lock_life.proofs.Untold.{kept_after, are_asked}
use Rattle.lock_life.specs.Life.{Stage, AreFound, AreStages, IsStage, Follows}
use Rattle.lock_life.specs.Runs.{Service, answering, inside, by_segments, EndWith, lines_in, IsPlain, told_of, said_of, IsWholeJournal, PartsAreStages, RunsFollow}
use Rattle.lock_service.specs.Serving as serving

-- ---- what the file of a segment holds

appended : (x : List ℕ) (new : Option (List ℕ)) (bs : List ℕ) → Appends (Some x) new bs → new ≡ Some (x ++ bs)
appended x None bs a = absurd a
appended x (Some y) bs a = ap (λ (u : List ℕ). Some u) a

if_known : (files : Option Held) (T : Type 0) → IsSome files → IfSome files (λ (h : Held). T) → T
if_known None T some t = absurd (false≢true some)
if_known (Some h) T some t = t

replaced_known : (was is : Option Held) (name : List ℕ) (contents : Option (List ℕ)) → Replaces was is name contents → IsSome was → IsSome is
replaced_known None is name contents r some = absurd (false≢true some)
replaced_known (Some w) None name contents r some = absurd r
replaced_known (Some w) (Some h) name contents r some = refl

module _ (first : Moment Service) (before : List ℕ) where
  -- the files are known, and that of the first segment holds its text
  abbrev Known : Type 0
  Known = IsSome first.files × (first.journal ≡ Some (by_segments.text first.service first.number before))

  -- the first segment has a text
  abbrev Begins : Type 0
  Begins = by_segments.HasText first.service first.number before

  record Holds (start : Service) (now : Moment Service) (digest noted : List ℕ) : Type 0 where
    pub files : Known → IsSome now.files
    pub journal : Known → now.journal ≡ Some (by_segments.text start now.number digest ++ noted)
    pub fits : Begins → by_segments.HasText start now.number digest

  holds_first : Holds first.service first before []
  holds_first = record {
    files = λ k. k.0;
    journal = λ k. k.1 ∙ ap (λ (u : List ℕ). Some u) (sym (append-nil (by_segments.text first.service first.number before)));
    fits = λ f. f;
  }

  holds_part : (start : Service) (digest noted : List ℕ) (p : Part Service) → Holds start p.from digest noted → IsPart answering p → p.to.files ≡ p.from.files → Holds start p.to digest (noted ++ p.noted)
  holds_part start digest noted p h is same = record {
    files = λ k. subst (λ (f : Option Held). IsSome f) (sym same) (h.files k);
    journal = λ k.
        let text : List ℕ = by_segments.text start p.from.number digest in
        appended (text ++ noted) p.to.journal p.noted (subst (λ (j : Option (List ℕ)). Appends j p.to.journal p.noted) (h.journal k) is.wrote)
        ∙ (ap (λ (u : List ℕ). Some u) (append_assoc text noted p.noted)
        ∙ ap (λ (n : ℕ). Some (by_segments.text start n digest ++ (noted ++ p.noted))) (sym is.number));
    fits = λ f. subst (λ (n : ℕ). by_segments.HasText start n digest) (sym is.number) (h.fits f);
  }

  holds_kept : (folder : List ℕ) (start : Service) (digest noted : List ℕ) (why : EndFault) (a b : Moment Service) → Holds start a digest noted → IsKept by_segments folder why a b → Holds start b digest noted
  holds_kept folder start digest noted why a b h is = by (kept_file by_segments folder why a b is)
    where
      renumbered : a.journal ≡ Some (by_segments.text start a.number digest ++ noted) → a.journal ≡ Some (by_segments.text start b.number digest ++ noted)
      renumbered e = e ∙ ap (λ (n : ℕ). Some (by_segments.text start n digest ++ noted)) (sym is.number)

      fitting : Begins → by_segments.HasText start b.number digest
      fitting f = subst (λ (n : ℕ). by_segments.HasText start n digest) (sym is.number) (h.fits f)

      by : ((b.files ≡ a.files) × (b.journal ≡ a.journal)) ⊎ (Replaces a.files b.files (segment_file folder a.number) a.journal × IfSome a.files (λ (f : Held). IfSome a.journal (λ (bytes : List ℕ). b.journal ≡ Some bytes))) → Holds start b digest noted
      by (inl k) = record {
        files = λ known. subst (λ (f : Option Held). IsSome f) (sym k.0) (h.files known);
        journal = λ known. k.1 ∙ renumbered (h.journal known);
        fits = fitting;
      }
      by (inr k) = record {
        files = λ known. replaced_known a.files b.files (segment_file folder a.number) a.journal k.0 (h.files known);
        journal = λ known.
            let j : IfSome a.journal (λ (bytes : List ℕ). b.journal ≡ Some bytes) = if_known a.files (IfSome a.journal (λ (bytes : List ℕ). b.journal ≡ Some bytes)) (h.files known) k.1 in
            subst (λ (x : Option (List ℕ)). IfSome x (λ (bytes : List ℕ). b.journal ≡ Some bytes)) (renumbered (h.journal known)) j;
        fits = fitting;
      }

  holds_ended : (folder : List ℕ) (start : Service) (digest noted : List ℕ) (a b : Moment Service) → Holds start a digest noted → (e : HasEnded by_segments folder a b) → Holds b.service b e.file.behind []
  holds_ended folder start digest noted a b h e =
      let text : List ℕ = by_segments.text b.service b.number e.file.behind in
      let settled : Known → IsSome e.file.between = λ k. replaced_known a.files e.file.between (segment_file folder a.number) a.journal e.file.settled (h.files k) in record {
        files = λ k. replaced_known e.file.between b.files (segment_file folder (a.number + 1)) (Some (by_segments.text b.service (a.number + 1) e.file.behind)) e.file.put (settled k);
        journal = λ k. if_known e.file.between (b.journal ≡ Some text) (settled k) e.journal ∙ ap (λ (u : List ℕ). Some u) (sym (append-nil text));
        fits = λ f. subst (λ (n : ℕ). by_segments.HasText b.service n e.file.behind) (sym e.number) e.file.fits;
      }

  -- ---- a segment, so far

  -- From the service with which it began, up to now: these lines, of which the replica said and noted
  -- this.
  record Segment (start : Service) (now : Moment Service) (digest : List ℕ) (lines : List (List ℕ)) (replied noted : List ℕ) : Type 0 where
    pub begun : HaveBegun (inside start).segment.locks
    pub plain : IsPlain start
    pub own : AllByRecursion IsLine (own_lines start.inner)
    pub tells : CanTell now.service.inner
    pub kept : serving.IsKept (inside now.service)
    pub so_far : SoFar start now.service lines replied noted
    pub holds : Holds start now digest noted

  -- ---- the run from there

  record AreSo (start last : Service) (lines : List (List ℕ)) (replied : List ℕ) (ps : List (Part Service)) (kept : List ℕ) : Type 0 where
    pub one : Stage
    pub more : List Stage
    pub stages : AreStages one more
    pub begins : one.start ≡ (inside start).segment
    pub ends : EndWith one more (inside last).segment (without_remarks kept)
    pub told : told_of (one ∷ more) ≡ given (numbers_of start.inner.numbered.keys) (lines ++ others_of (lines_in ps))
    pub later : List ℕ
    pub behind : AreToldAfter (lines_in ps) (all_said ps) later
    pub around : AreToldAround (numbers_of start.inner.numbered.keys) (lines ++ others_of (lines_in ps)) (replied ++ later) (said_of (one ∷ more))

  module _ (folder : List ℕ) (b : Moment Service) (untold : List (List ℕ)) (unsaid notes : List ℕ) (new : Service) (is : Option Held) (whole_b : b.service.inner.lost ≡ false) (each : AllByRecursion IsLine untold) (answers : Answers (by_stand answering) (stand_of b) untold unsaid notes (stand new is)) where
    record Goes (start : Service) (lines : List (List ℕ)) (replied : List ℕ) (ps : List (Part Service)) : Type 0 where
      pub last : Service
      pub digest : List ℕ
      pub noted : List ℕ
      pub holds : Known → b.journal ≡ Some (by_segments.text last b.number digest ++ noted)
      pub fits : Begins → by_segments.HasText last b.number digest
      pub whole : IsWholeJournal (begun_with_remarks last.inner ++ noted)
      pub stages : (kept : List ℕ) → IsPrefix (begun_with_remarks last.inner ++ noted) kept → IsPrefix kept (begun_with_remarks last.inner ++ (noted ++ notes)) → AreSo start last lines replied ps kept

    -- it ends here
    ends_so : (start : Service) (digest : List ℕ) (lines : List (List ℕ)) (replied noted : List ℕ) → Segment start b digest lines replied noted → Goes start lines replied []
    ends_so start digest lines replied noted g =
        let sf = g.so_far in
        let n : Numbers = numbers_of start.inner.numbered.keys in
        let noting : (inside b.service).terms.noting ≡ true = ap (λ (t : Terms). t.noting) sf.terms ∙ g.plain.noting in
        let l = are_asked start b.service new b.files is lines untold replied unsaid noted notes g.begun g.kept sf noting each answers whole_b in
        let begun : List ℕ = begun_text (inside start).segment.locks in
        let of_told : without_remarks noted ≡ sf.inside_noted = ap without_remarks (sym (append-nil noted)) ∙ (sf.left [] ∙ (ap (λ (u : List ℕ). sf.inside_noted ++ u) without_nothing ∙ append-nil sf.inside_noted)) in
        let of_notes : without_remarks notes ≡ l.inside_notes = ap without_remarks (sym (append-nil notes)) ∙ (l.left [] ∙ (ap (λ (u : List ℕ). l.inside_notes ++ u) without_nothing ∙ append-nil l.inside_notes)) in
        let front : without_remarks (begun_with_remarks start.inner ++ noted) ≡ begun ++ sf.inside_noted = begun_goes_by start.inner noted g.begun g.own ∙ ap (λ (u : List ℕ). begun ++ u) of_told in
        let j = noted_journal (inside start).terms (inside start).segment (inside b.service).segment (given n lines) sf.told sf.inside_noted g.kept.0 g.begun sf.answered g.kept.1 in
        let all : without_remarks (begun_with_remarks start.inner ++ (noted ++ notes)) ≡ begun ++ (sf.inside_noted ++ l.inside_notes) =
        begun_goes_by start.inner (noted ++ notes) g.begun g.own ∙ (ap (λ (u : List ℕ). begun ++ u) (sf.left notes) ∙ ap (λ (u : List ℕ). begun ++ (sf.inside_noted ++ u)) of_notes) in record {
          last = start;
          digest = digest;
          noted = noted;
          holds = g.holds.journal;
          fits = g.holds.fits;
          whole = record {
            journal = j.0;
            right = j.1;
            lines = of_both (begun_with_remarks start.inner) noted (of_both begun (remarks_of (own_lines start.inner)) (begun_ends start.inner) (remark_lines (own_lines start.inner) g.own)) sf.ends;
            is = front ∙ j.2;
          };
          stages = λ kept pre post.
              let s : Stage = record {
                terms = (inside start).terms;
                start = (inside start).segment;
                told = given n lines;
                mid = (inside b.service).segment;
                untold = l.asked;
                end = (inside new).segment;
                out = sf.told;
                journal = without_remarks kept;
                killed = true;
              } in record {
                one = s;
                more = [];
                stages = record {
                  said = sf.told;
                  noted = sf.inside_noted;
                  unsaid = l.told;
                  notes = l.inside_notes;
                  entries = l.kept.0;
                  begun = g.begun;
                  answered = sf.answered;
                  more = l.answered;
                  right = l.kept.1;
                  plain = g.plain.plain;
                  out_is = ([], sym (append-nil sf.told));
                  has_told = subst (λ (u : List ℕ). IsPrefix u (without_remarks kept)) front (without_cut (begun_with_remarks start.inner ++ noted) kept pre);
                  no_more = subst (λ (u : List ℕ). IsPrefix (without_remarks kept) u) all (without_cut kept (begun_with_remarks start.inner ++ (noted ++ notes)) post);
                };
                begins = refl;
                ends = (refl, refl, refl);
                told = append-nil (given n lines) ∙ ap (λ (ls : List (List ℕ)). given n ls) (sym (append-nil lines));
                later = [];
                behind = (refl, refl);
                around = subst (λ (ls : List (List ℕ)). AreToldAround n ls (replied ++ []) (sf.told ++ [])) (sym (append-nil lines))
                    (subst (λ (u : List ℕ). AreToldAround n lines u (sf.told ++ [])) (sym (append-nil replied))
                    (subst (λ (u : List ℕ). AreToldAround n lines replied u) (sym (append-nil sf.told)) sf.around));
              };
        }

    -- a part more before it
    goes_more : (start : Service) (lines : List (List ℕ)) (replied part_replied : List ℕ) (p : Part Service) (ps : List (Part Service)) → AreToldAfter p.lines p.said part_replied → Goes start (lines ++ others_of p.lines) (replied ++ part_replied) ps → Goes start lines replied (p ∷ ps)
    goes_more start lines replied part_replied p ps behind g =
        let n : Numbers = numbers_of start.inner.numbered.keys in
        let joined : (lines ++ others_of p.lines) ++ others_of (lines_in ps) ≡ lines ++ others_of (p.lines ++ lines_in ps) =
        append_assoc lines (others_of p.lines) (others_of (lines_in ps)) ∙ ap (λ (u : List (List ℕ)). lines ++ u) (sym (filter-append (λ (line : List ℕ). not (is_state line)) p.lines (lines_in ps))) in record {
          last = g.last;
          digest = g.digest;
          noted = g.noted;
          holds = g.holds;
          fits = g.fits;
          whole = g.whole;
          stages = λ kept pre post.
              let a = g.stages kept pre post in record {
                one = a.one;
                more = a.more;
                stages = a.stages;
                begins = a.begins;
                ends = a.ends;
                told = a.told ∙ ap (λ (ls : List (List ℕ)). given n ls) joined;
                later = part_replied ++ a.later;
                behind = after_then p.lines (lines_in ps) p.said (all_said ps) part_replied a.later behind a.behind;
                around = subst (λ (ls : List (List ℕ)). AreToldAround n ls (replied ++ (part_replied ++ a.later)) (said_of (a.one ∷ a.more))) joined
                    (subst (λ (u : List ℕ). AreToldAround n ((lines ++ others_of p.lines) ++ others_of (lines_in ps)) u (said_of (a.one ∷ a.more))) (append_assoc replied part_replied a.later) a.around);
              };
        }

    -- ---- before a part

    -- the segment in which the part is, and how a run from there continues what was before
    record Readied (start : Service) (lines : List (List ℕ)) (replied : List ℕ) (f : Moment Service) : Type 0 where
      pub began : Service
      pub digest : List ℕ
      pub so_far : List (List ℕ)
      pub so_replied : List ℕ
      pub noted : List ℕ
      pub segment : Segment began f digest so_far so_replied noted
      pub lift : (ps : List (Part Service)) → Goes began so_far so_replied ps → Goes start lines replied ps

    same_segment : (start : Service) (digest : List ℕ) (lines : List (List ℕ)) (replied noted : List ℕ) (f : Moment Service) → Segment start f digest lines replied noted → Readied start lines replied f
    same_segment start digest lines replied noted f g = record { began = start; digest = digest; so_far = lines; so_replied = replied; noted = noted; segment = g; lift = λ ps more. more }

    -- a segment that has ended is a stage
    next_segment : (start : Service) (digest : List ℕ) (lines : List (List ℕ)) (replied noted : List ℕ) (a f : Moment Service) → Segment start a digest lines replied noted → HasEnded by_segments folder a f → Readied start lines replied f
    next_segment start digest lines replied noted a f g e =
        let sf = g.so_far in
        let n : Numbers = numbers_of start.inner.numbered.keys in
        let next = e.file.follows in
        let are_next : AreNext (inside a.service).segment.locks (inside f.service).segment.locks = next.0.locks in
        let named : (inside f.service).segment.names ≡ (inside start).segment.names =
        next.0.names ∙ all_names_stay (inside start).terms (inside start).segment (inside a.service).segment (given n lines) sf.told sf.inside_noted sf.answered.answers in
        let next_kept = next_all (inside a.service).segment.locks (inside f.service).segment.locks g.kept.0 g.kept.0 g.kept.1 are_next refl in
        let terms : (inside f.service).terms ≡ (inside start).terms = next.0.terms ∙ sf.terms in
        let numbers : numbers_of f.service.inner.numbered.keys ≡ numbers_all n lines = ap (λ (k : Table). numbers_of k) next.1.keys ∙ sf.numbers in
        let tells : CanTell f.service.inner = same_tells a.service.inner f.service.inner g.tells next.1.keys next.1.running in
        let begun : List ℕ = begun_text (inside start).segment.locks in
        let s : Stage = record {
          terms = (inside start).terms;
          start = (inside start).segment;
          told = given n lines;
          mid = (inside a.service).segment;
          untold = [];
          end = (inside a.service).segment;
          out = sf.told;
          journal = begun ++ sf.inside_noted;
          killed = false;
        } in
        let is_stage : IsStage s = record {
          said = sf.told;
          noted = sf.inside_noted;
          unsaid = [];
          notes = [];
          entries = g.kept.0;
          begun = g.begun;
          answered = sf.answered;
          more = record { noting = g.plain.noting; answers = (refl, refl, refl) };
          right = g.kept.1;
          plain = g.plain.plain;
          out_is = ([], sym (append-nil sf.told));
          has_told = ([], sym (append-nil (begun ++ sf.inside_noted)));
          no_more = ([], ap (λ (u : List ℕ). begun ++ u) (append-nil sf.inside_noted) ∙ sym (append-nil (begun ++ sf.inside_noted)));
        } in record {
          began = f.service;
          digest = e.file.behind;
          so_far = [];
          so_replied = [];
          noted = [];
          segment = record {
            begun = record {
              entries = g.kept.0;
              kept = next_kept;
              each = next_locks_begin (inside start).terms (inside start).segment (inside a.service).segment g.kept.0 (given n lines) sf.told sf.inside_noted g.begun sf.answered g.kept.1 (inside f.service).segment.locks are_next;
              text = e.file.fits.rings;
            };
            plain = record {
              noting = ap (λ (t : Terms). t.noting) terms ∙ g.plain.noting;
              plain = ap (λ (t : Terms). t.faults) terms ∙ g.plain.plain;
            };
            own = own_are_lines f.service.inner tells;
            tells = tells;
            kept = (g.kept.0, next_kept);
            so_far = none_so_far f.service (ap (λ (t : Terms). t.noting) terms ∙ g.plain.noting);
            holds = holds_ended folder start digest noted a f g.holds e;
          };
          lift = λ ps more. record {
            last = more.last;
            digest = more.digest;
            noted = more.noted;
            holds = more.holds;
            fits = more.fits;
            whole = more.whole;
            stages = λ kept pre post.
                let r = more.stages kept pre post in
                let given_later : told_of (r.one ∷ r.more) ≡ given (numbers_all n lines) (others_of (lines_in ps)) = r.told ∙ ap (λ (m : Numbers). given m (others_of (lines_in ps))) numbers in record {
                  one = s;
                  more = r.one ∷ r.more;
                  stages = (is_stage, (refl, subst (λ (v : SegmentView). AreNext (inside a.service).segment.locks v.locks) (sym r.begins) are_next, ap (λ (v : SegmentView). v.names) r.begins ∙ named), r.stages);
                  begins = refl;
                  ends = (refl, r.ends);
                  told = ap (λ (u : List (List ℕ)). given n lines ++ u) given_later ∙ sym (given_then n lines (others_of (lines_in ps)));
                  later = r.later;
                  behind = r.behind;
                  around = around_then n lines (others_of (lines_in ps)) replied r.later sf.told (said_of (r.one ∷ r.more)) sf.around
                      (subst (λ (m : Numbers). AreToldAround m (others_of (lines_in ps)) r.later (said_of (r.one ∷ r.more))) numbers r.around);
                };
          };
        }

    ready : (start : Service) (digest : List ℕ) (lines : List (List ℕ)) (replied noted : List ℕ) (a f : Moment Service) (kept : Option EndFault) → Segment start a digest lines replied noted → IsReady by_segments folder kept a f → Readied start lines replied f
    ready start digest lines replied noted a f None g (inl h) = same_segment start digest lines replied noted f (subst (λ (m : Moment Service). Segment start m digest lines replied noted) (sym h.1) g)
    ready start digest lines replied noted a f None g (inr h) = next_segment start digest lines replied noted a f g h.1
    ready start digest lines replied noted a f (Some why) g h =
        let k = h.1.kept in
        same_segment start digest lines replied noted f (record {
          begun = g.begun;
          plain = g.plain;
          own = g.own;
          tells = same_tells a.service.inner f.service.inner g.tells k.1.keys k.1.running;
          kept = subst (λ (v : SegmentView). (entries : List (ℕ × ℕ)) × AreKept v.locks entries) (sym (ap (λ (s : LockService). s.segment) k.0)) g.kept;
          so_far = goes_on start a.service f.service lines replied noted g.so_far (record {
            segment = ap (λ (s : LockService). s.segment) k.0;
            terms = ap (λ (s : LockService). s.terms) k.0;
            numbers = ap (λ (t : Table). numbers_of t) k.1.keys;
          });
          holds = holds_kept folder start digest noted why a f g.holds h.1;
        })

    -- ---- all parts

    abbrev Whole : Part Service → Type 0
    Whole p = p.to.service.inner.lost ≡ false

    go : (start : Service) (now : Moment Service) (digest : List ℕ) (lines : List (List ℕ)) (replied noted : List ℕ) (ps : List (Part Service)) → Segment start now digest lines replied noted → AllByRecursion Whole ps → AreParts answering by_segments folder now ps b → Goes start lines replied ps
    go start now digest lines replied noted [] g whole h = ends_so start digest lines replied noted (subst (λ (m : Moment Service). Segment start m digest lines replied noted) (sym h) g)
    go start now digest lines replied noted (p ∷ ps) g whole h =
        let n = ready start digest lines replied noted now p.from p.kept g h.0 in
        let s = n.segment in
        let noting : (inside p.from.service).terms.noting ≡ true = ap (λ (t : Terms). t.noting) s.so_far.terms ∙ s.plain.noting in
        let part = part_so p.from.service p.to.service p.from.files p.to.files p.lines p.said p.noted noting h.1.each h.1.answers whole.0 in
        let k = kept_after (stand (inside p.from.service) p.from.files) (stand (inside p.to.service) p.to.files) (given (numbers_of p.from.service.inner.numbered.keys) (others_of p.lines)) part.taken.told part.taken.inside s.kept part.taken.answered in
        let more = go n.began p.to n.digest (n.so_far ++ others_of p.lines) (n.so_replied ++ part.replied) (n.noted ++ p.noted) ps (record {
          begun = s.begun;
          plain = s.plain;
          own = s.own;
          tells = part.tells s.tells;
          kept = k;
          so_far = part_more n.began p.from.service p.to.service p.from.files p.to.files n.so_far p.lines p.said n.so_replied n.noted p.noted k.0 s.begun k.1 s.so_far part;
          holds = holds_part n.began n.digest n.noted p s.holds h.1 part.files;
        }) whole.1 h.2 in
        n.lift (p ∷ ps) (goes_more n.began n.so_far n.so_replied part.replied p ps part.behind more)

-- ---- no answer was lost before the last moment

ready_whole : (folder : List ℕ) (kept : Option EndFault) (a f : Moment Service) → IsReady by_segments folder kept a f → f.service.inner.lost ≡ false → a.service.inner.lost ≡ false
ready_whole folder None a f (inl h) w = ap (λ (m : Moment Service). m.service.inner.lost) (sym h.1) ∙ w
ready_whole folder None a f (inr h) w = sym h.1.file.follows.1.lost ∙ w
ready_whole folder (Some why) a f h w = sym h.1.kept.1.lost ∙ w

wholes : (folder : List ℕ) (a b : Moment Service) (ps : List (Part Service)) → AreParts answering by_segments folder a ps b → b.service.inner.lost ≡ false → (a.service.inner.lost ≡ false) × AllByRecursion (λ (p : Part Service). p.to.service.inner.lost ≡ false) ps
wholes folder a b [] h w = (ap (λ (m : Moment Service). m.service.inner.lost) (sym h) ∙ w, tt)
wholes folder a b (p ∷ ps) h w =
    let m = wholes folder p.to b ps h.2 w in
    let from = whole_before p.from.service p.to.service p.from.files p.to.files p.lines p.said p.noted h.1.answers m.0 in
    (ready_whole folder p.kept a p.from h.0 from, (m.0, m.1))

pub parts_are_stages : PartsAreStages
parts_are_stages folder a b before parts untold unsaid notes new is begun plain sound whole h each answers =
    let w = wholes folder a b parts h whole in
    let g = go a before folder b untold unsaid notes new is whole each answers a.service a before [] [] [] parts (record {
      begun = begun;
      plain = plain;
      own = own_are_lines a.service.inner (sound_tells a.service.inner sound);
      tells = sound_tells a.service.inner sound;
      kept = (begun.entries, begun.kept);
      so_far = none_so_far a.service plain.noting;
      holds = holds_first a before;
    }) w.1 h in record {
      last = g.last;
      digest = g.digest;
      noted = g.noted;
      holds = λ known text. g.holds (known, text);
      fits = g.fits;
      whole = g.whole;
      stages = λ kept pre post.
          let s = g.stages kept pre post in (
            s.one,
            s.more,
            record {
              stages = s.stages;
              begins = s.begins;
              ends = s.ends;
              told = s.told;
              replied = s.later;
              replied_so = s.behind;
              said_so = s.around;
            },
          );
    }

-- ---- one run after the other

pub runs_follow : RunsFollow
runs_follow one next [] others last journal a e f b =
    let found : AreFound one.start.locks one.journal next.start.locks =
    subst (λ (v : SegmentView). AreFound v.locks one.journal next.start.locks) (sym e.1) (subst (λ (j : List ℕ). AreFound last.locks j next.start.locks) (sym e.2) f) in
    (a, subst (λ (k : Bool). Follows k one next) (sym e.0) found, b)
runs_follow one next (s ∷ more) others last journal a e f b = (a.0, a.1, runs_follow s next more others last journal a.2 e.1 f b)
