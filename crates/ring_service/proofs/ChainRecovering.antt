-- The calls of delivered lines are recovered from the last segment.
use Rattle.std.proofs.Common.{◌≡◌, ℕ, true, ◌^◌, ◌<◌, List, [], ◌∷◌, ◌++◌, length, Option, None, Some, refl, sym, ap, subst, ◌∙◌, inl, inr, arith, append_assoc}
use Rattle.std.specs.List.{AllByRecursion}
use Rattle.std.specs.Option.{option_map, is_some}
use Rattle.disks.specs.Held.{Held}
use Rattle.journal.specs.declared.calls.JournalLine.{JournalLine}
use Rattle.journal.specs.Spelling.{journal_head}
use Rattle.line_service.specs.Answering as told
use Rattle.line_service.specs.Stands.{Stand, stand, by_stand}
use Rattle.line_service.specs.declared.segmented.EndFault.{EndFault}
use Rattle.line_service.specs.Segments.{Moment, stand_of, IsReady}
use Rattle.line_service.specs.Service.{Part, IsPart, AreParts}
use Rattle.line_service.specs.Notes.{all_noted, AreIn, ToldLinesAreNoted}
use Rattle.line_service.specs.Lasting.{ToldLinesLast, EachSegmentLasts}
use Rattle.ring_service.specs.Standings.{Standing}
use Rattle.ring_service.specs.Saved.{IsRight, content_of}
use Rattle.ring_service.specs.Permits.{Terms, terms_by, journal_name}
use Rattle.ring_service.specs.Serving.{Answers}
use Rattle.ring_service.specs.Recovered.{HaveGrown}
use Rattle.ring_service.proofs.Journaling.{Stands, begins}
use Rattle.ring_service.proofs.Grown.{answers_grown, calls_in, have_then}
use Rattle.ring_service.proofs.Looped.{answers_of}
use Rattle.ring_service.proofs.Recovering.{AllTurned, none_turned, turned_then, all_turned, rebuilt}
use Rattle.ring_service.specs.declared.rules.JournalFile.{JournalFile}
use Rattle.ring_service.specs.declared.rules.Rules.{Rules}
use Rattle.ring_service.specs.Rules.{file_after, next_rules}
use Rattle.ring_service.specs.Services.{ServiceView, terms_of, keeps_journal, IsServed, IsNext, with_refusal, refusal_of, segmenting}
use Rattle.ring_service.specs.ChainRecovered.{HasCallsIn, AnsweredCallsAreRecovered, AnsweredCallsLast, CallsOfEachSegmentLast, SegmentsKeepCalls}

-- ---- lines

ring_answers : (old new : Stand ServiceView) (lines : List (List ℕ)) (said noted : List ℕ) → told.Answers (by_stand IsServed) old lines said noted new → Answers (terms_of old.service) old.service.rings old.files lines said noted new.service.rings new.files
ring_answers old new lines said noted h = (answers_of old new lines said noted h).0

pub part_answers : (p : Part ServiceView) → IsPart IsServed p → Answers (terms_of p.from.service) p.from.service.rings p.from.files p.lines p.said p.noted p.to.service.rings p.to.files
part_answers p is = ring_answers (stand_of p.from) (stand_of p.to) p.lines p.said p.noted is.answers

-- ---- the rings with which a part begins are right, and what they record is noted

record IsNoting (v : ServiceView) : Type 0 where
  pub right : AllByRecursion IsRight v.rings
  pub journal : keeps_journal v ≡ true

by_rules : (old new : ServiceView) → new.rules ≡ old.rules → keeps_journal old ≡ true → keeps_journal new ≡ true
by_rules old new e k = subst (λ (r : Rules). is_some (terms_by r).journal ≡ true) (sym e) k

-- in the next segment too
kept_after : (j : Option JournalFile) → is_some (option_map journal_name (option_map file_after j)) ≡ is_some (option_map journal_name j)
kept_after None = refl
kept_after (Some j) = refl

by_next : (old new : ServiceView) → new.rules ≡ next_rules old.rules → keeps_journal old ≡ true → keeps_journal new ≡ true
by_next old new e k = ap (λ (r : Rules). is_some (terms_by r).journal) e ∙ (kept_after old.rules.journal ∙ k)

keeps_noting : (old new : Stand ServiceView) (lines : List (List ℕ)) (said noted : List ℕ) → told.Answers (by_stand IsServed) old lines said noted new → IsNoting old.service → IsNoting new.service
keeps_noting old new [] said noted h at = subst (λ (x : Stand ServiceView). IsNoting x.service) (sym h.2) at
keeps_noting old new (line ∷ lines) said noted h at =
    let mid : Stand ServiceView = h.0 in
    let one : IsServed old.service old.files line h.1 h.3 mid.service mid.files = h.5 in
    keeps_noting mid new lines h.2 h.4 h.8 (record { right = one.right; journal = by_rules old.service mid.service one.rules at.journal })

abbrev AreNoting : List (Part ServiceView) → Type 0
AreNoting parts = AllByRecursion (λ (p : Part ServiceView). IsNoting p.from.service) parts

noting_at : (earlier : List (Part ServiceView)) (first : Part ServiceView) (others : List (Part ServiceView)) → AreNoting (earlier ++ first ∷ others) → AreNoting (first ∷ others)
noting_at [] first others h = h
noting_at (q ∷ qs) first others h = noting_at qs first others h.1

-- ---- one part

part_turned : (old : List Standing) → length old < 2 ^ 32 → (done : List JournalLine) (p : Part ServiceView) → IsNoting p.from.service → Stands old done p.from.service.rings → IsPart IsServed p → AllTurned old done p.to.service.rings p.noted
part_turned old few done p noting st is =
    all_turned (terms_of p.from.service) noting.journal old few done p.from.service.rings p.to.service.rings p.from.files p.to.files p.lines p.said p.noted st (part_answers p is)

part_calls : (p : Part ServiceView) (rings : List Standing) → IsPart IsServed p → HaveGrown p.to.service.rings rings → HasCallsIn rings p × HaveGrown p.from.service.rings rings
part_calls p rings is g =
    let terms : Terms = terms_of p.from.service in
    let answers = part_answers p is in (
      calls_in terms p.from.service.rings p.to.service.rings rings p.from.files p.to.files p.lines p.said p.noted answers g,
      have_then p.from.service.rings p.to.service.rings rings (answers_grown terms p.from.service.rings p.to.service.rings p.from.files p.to.files p.lines p.said p.noted answers) g,
    )

-- ---- the parts of a run

module _ (folder : List ℕ) where
  ready_noting : (kept : Option EndFault) (a b : Moment ServiceView) → IsReady segmenting folder kept a b → IsNoting a.service → IsNoting b.service
  ready_noting None a b (inl h) at = subst (λ (m : Moment ServiceView). IsNoting m.service) (sym h.1) at
  ready_noting None a b (inr h) at =
      let next : IsNext a.service b.service = h.1.file.follows in
      record { right = next.right; journal = by_next a.service b.service next.rules at.journal }
  ready_noting (Some why) a b h at =
      let kept : b.service ≡ with_refusal a.service (refusal_of why) = h.1.kept in
      subst IsNoting (sym kept) (record { right = at.right; journal = at.journal })

  notings : (a b : Moment ServiceView) (ps : List (Part ServiceView)) → AreParts IsServed segmenting folder a ps b → IsNoting a.service → AreNoting ps × IsNoting b.service
  notings a b [] h at = (tt, subst (λ (m : Moment ServiceView). IsNoting m.service) (sym h) at)
  notings a b (p ∷ ps) h at =
      let from = ready_noting p.kept a p.from h.0 at in
      let rest = notings p.to b ps h.2 (keeps_noting (stand_of p.from) (stand_of p.to) p.lines p.said p.noted h.1.answers from) in
      ((from, rest.0), rest.1)

  -- ---- parts of one segment

  -- within a segment the rings stay as they are between two parts
  stays : (kept : Option EndFault) (a b : Moment ServiceView) → IsReady segmenting folder kept a b → b.number ≡ a.number → b.service.rings ≡ a.service.rings
  stays None a b (inl h) same = ap (λ (m : Moment ServiceView). m.service.rings) h.1
  stays None a b (inr h) same = let up = h.1.number in absurd (omega (arith, up, same))
  stays (Some why) a b h same =
      let kept : b.service ≡ with_refusal a.service (refusal_of why) = h.1.kept in
      ap (λ (v : ServiceView). v.rings) kept

  parts_turned : (old : List Standing) → length old < 2 ^ 32 → (done : List JournalLine) (m b : Moment ServiceView) (ps : List (Part ServiceView)) (number : ℕ) → AreNoting ps → Stands old done m.service.rings → m.number ≡ number → AreParts IsServed segmenting folder m ps b → AreIn number ps →
      AllTurned old done b.service.rings (all_noted ps)
  parts_turned old few done m b [] number noting st same served within = subst (λ (x : Moment ServiceView). AllTurned old done x.service.rings []) (sym served) (none_turned old done m.service.rings st)
  parts_turned old few done m b (p ∷ ps) number noting st same served within =
      let at : p.from.service.rings ≡ m.service.rings = stays p.kept m p.from served.0 (within.0 ∙ sym same) in
      let t = part_turned old few done p noting.0 (subst (λ (x : List Standing). Stands old done x) (sym at) st) served.1 in
      turned_then t (parts_turned old few (done ++ t.calls) p.to b ps number noting.1 t.stands (served.1.number ∙ within.0) served.2 within.1)

  record HaveCalls (m : Moment ServiceView) (ps : List (Part ServiceView)) (rings : List Standing) : Type 0 where
    pub calls : AllByRecursion (HasCallsIn rings) ps
    pub grown : HaveGrown m.service.rings rings

  parts_calls : (m b : Moment ServiceView) (ps : List (Part ServiceView)) (number : ℕ) (rings : List Standing) → m.number ≡ number → AreParts IsServed segmenting folder m ps b → AreIn number ps → HaveGrown b.service.rings rings → HaveCalls m ps rings
  parts_calls m b [] number rings same served within g = record { calls = tt; grown = subst (λ (x : Moment ServiceView). HaveGrown x.service.rings rings) served g }
  parts_calls m b (p ∷ ps) number rings same served within g =
      let at : p.from.service.rings ≡ m.service.rings = stays p.kept m p.from served.0 (within.0 ∙ sym same) in
      let later = parts_calls p.to b ps number rings (served.1.number ∙ within.0) served.2 within.1 g in
      let one = part_calls p rings served.1 later.grown in
      record { calls = (one.0, later.calls); grown = subst (λ (x : List Standing). HaveGrown x rings) at one.1 }

  -- ---- one of the parts

  record IsAt (first : Part ServiceView) (others : List (Part ServiceView)) (b : Moment ServiceView) : Type 0 where
    pub is : IsPart IsServed first
    pub then_ : AreParts IsServed segmenting folder first.to others b

  parts_at : (a b : Moment ServiceView) (earlier : List (Part ServiceView)) (first : Part ServiceView) (others : List (Part ServiceView)) → AreParts IsServed segmenting folder a (earlier ++ first ∷ others) b → IsAt first others b
  parts_at a b [] first others h = record { is = h.1; then_ = h.2 }
  parts_at a b (q ∷ qs) first others h = parts_at q.to b qs first others h.2

-- ---- the last segment keeps the answers

pub keeps_calls : SegmentsKeepCalls
keeps_calls folder a new input rest out after journal noting right t earlier first others kept lost parted within fits whole_ front =
    let old : List Standing = first.from.service.rings in
    let few : length old < 2 ^ 32 = fits.rings_said in
    let all = notings folder a t.mid t.parts t.told (record { right = right; journal = noting }) in
    let each = noting_at earlier first others (subst AreNoting parted all.0) in
    let at = parts_at folder a t.mid earlier first others (subst (λ (x : List (Part ServiceView)). AreParts IsServed segmenting folder a x t.mid) parted t.told) in
    let turned = part_turned old few [] first each.0 (begins old each.0.right) at.is in
    let later_turned = parts_turned folder old few turned.calls first.to t.mid others first.from.number each.1 turned.stands at.is.number at.then_ within in
    let notes : List ℕ = t.more ++ t.back in
    let untold = ring_answers (stand_of t.mid) (stand new t.is) t.untold.lines t.unsaid notes t.untold.answers in
    let head : List ℕ = journal_head (content_of old) in
    let noted : List ℕ = all_noted (first ∷ others) in
    let all_notes : kept ++ (lost ++ t.back) ≡ head ++ (noted ++ notes) =
    sym (append_assoc kept lost t.back)
    ∙ (ap (λ (x : List ℕ). x ++ t.back) whole_ ∙ (append_assoc head (noted ++ t.more) t.back ∙ ap (λ (x : List ℕ). head ++ x) (append_assoc noted t.more t.back))) in
    let mid : List Standing = t.mid.service.rings in
    let terms : Terms = terms_of t.mid.service in
    let r = rebuilt terms all.1.journal old mid new.rings t.mid.files t.is t.untold.lines noted t.unsaid notes kept (lost ++ t.back) each.0.right fits (turned_then turned later_turned) untold all_notes front in
    let grown : HaveGrown mid r.rings = answers_grown terms mid r.rings t.mid.files r.reached.2 r.lines r.reached.0 r.reached.1 r.reached.3 in
    let later = parts_calls folder first.to t.mid others first.from.number r.rings at.is.number at.then_ within grown in
    record {
      rings = r.rings;
      recovered = r.recovered;
      calls = ((part_calls first r.rings at.is later.grown).0, later.calls);
      grown = r.grown;
    }

-- ---- with what is said of the lines

pub recovered : {folder : List ℕ} {a : Moment ServiceView} {new : ServiceView} {input rest out after journal : Option (List ℕ)} → ToldLinesAreNoted IsServed segmenting folder a new input rest out after journal → keeps_journal a.service ≡ true → AllByRecursion IsRight a.service.rings →
    AnsweredCallsAreRecovered folder a new input rest out after journal
recovered {folder} {a} {new} {input} {rest} {out} {after} {journal} t noting right = (t, keeps_calls folder a new input rest out after journal noting right t)

pub lasts : {folder : List ℕ} {a : Moment ServiceView} {new : ServiceView} {input rest out after : Option (List ℕ)} {left : Option Held} → ToldLinesLast IsServed segmenting folder a new input rest out after left → keeps_journal a.service ≡ true → AllByRecursion IsRight a.service.rings →
    AnsweredCallsLast folder a new input rest out after left
lasts {folder} {a} {new} {input} {rest} {out} {after} {left} t noting right = (t, keeps_calls folder a new input rest out after (Some t.journal) noting right t.noted)

pub each_lasts : {folder : List ℕ} {a : Moment ServiceView} {new : ServiceView} {input rest out after : Option (List ℕ)} {left : Option Held} → EachSegmentLasts IsServed segmenting folder a new input rest out after left → keeps_journal a.service ≡ true → AllByRecursion IsRight a.service.rings →
    CallsOfEachSegmentLast folder a new input rest out after left
each_lasts {folder} {a} {new} {input} {rest} {out} {after} {left} t noting right = (t, keeps_calls folder a new input rest out after (Some t.told.journal) noting right t.told.noted)
