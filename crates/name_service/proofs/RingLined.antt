-- Lines about names are lines of rings.
use Rattle.std.proofs.Common.{◌≡◌, ℕ, ◌^◌, ◌<◌, ◌≤◌, Bool, true, false, List, [], ◌∷◌, ◌++◌, Option, Some, None, ◌⊎◌, inl, inr, refl, sym, ap, subst, ◌∙◌, arith}
use Rattle.line_service.specs.Answering.{Answers}
use Rattle.segment_files.specs.Remarks.{without_remarks}
use Rattle.segment_files.specs.RemarkLaws.{AreLines}
use Rattle.segment_files.proofs.Remarked.{nothing_kept, without_append}
use Rattle.held_locks.specs.Locks.{Ask, Acquire, Try, Release, Cancel, Corrupt, Stats}
use Rattle.text_lines.specs.LongNumbers.{in_32_bits}
use Rattle.lock_protocol.specs.declared.answers.Denial.{Denial}
use Rattle.lock_protocol.specs.declared.answers.Denial.TheVariants as denial
use Rattle.held_locks.specs.declared.answers.Answer.TheVariants as answer
use Rattle.held_locks.specs.declared.answers.Refusal.TheVariants as refusal
use Rattle.lock_names.specs.declared.replies.Reply.TheVariants as reply
use Rattle.lock_protocol.specs.Asks as lines
use Rattle.lock_protocol.specs.Answers.{answer_line, denial_line}
use Rattle.lock_protocol.specs.Names.{IsName}
use Rattle.lock_protocol.specs.Inputs.{IsReadAs}
use Rattle.lock_protocol.specs.Views.{Input}
use Rattle.lock_protocol.specs.Views as input
use Rattle.lock_journal.specs.Asking.{one_ask, is_off}
use Rattle.lock_journal.specs.Answering.{IsLineAnswered, denial_of}
use Rattle.lock_journal.proofs.WholeTexts.{of_both}
use Rattle.lock_names.specs.Names.{Bound}
use Rattle.lock_names.specs.Kept.{NamedView, named_of, reached, IsTaken}
use Rattle.name_service.specs.declared.service.NameTerms.{NameTerms}
use Rattle.name_service.specs.Naming.{NamingView, is_no_lock}
use Rattle.name_service.specs.Serving.{IsOnlySaid, IsNameToldOf, IsNameToldIf, IsNameTold, IsNameAnsweredIf, IsNameInputAnswered, IsNameLineAnswered}
use Rattle.name_service.specs.RightNames.{AreRightNames}
use Rattle.name_service.specs.RingLines.{ring_segment, IsOfRing, IsOfNoRing, HaveRingLines, NameLinesAreRingLines}
use Rattle.name_service.proofs.AskedRings.{IsOne, of_none, wanting_is, none_is, ring_is}
use Rattle.name_service.proofs.LeaveOfRings.{leave_is}
use Rattle.name_service.proofs.RightNames.{line_right, lines_right}

-- ---- a line

module _ (terms : NameTerms) (old new : NamingView) (said noted : List ℕ) (right : AreRightNames old.named) (bits : old.named.top < 2 ^ 64) where
  denied : (line : List ℕ) (c : ℕ) (why : Denial) → IsOnlySaid (denial_line c why) old said noted new → IsOne terms old line said noted new
  denied line c why t = of_none terms old new line said noted (record {
    same = ap (λ (v : NamingView). v.named) t.leaves;
    notes = t.notes;
    nothing = inr (inl (c, why, t.says));
  })

  nobodys : (line : List ℕ) → IsOnlySaid [] old said noted new → IsOne terms old line said noted new
  nobodys line t = of_none terms old new line said noted (record {
    same = ap (λ (v : NamingView). v.named) t.leaves;
    notes = t.notes;
    nothing = inl t.says;
  })

  by_reached : (c : ℕ) (name : List ℕ) (a : Ask) (line : List ℕ) (ask : lines.Ask) → IsName name → one_ask ask ≡ Some (name, a) → is_off terms.lines.faults ask ≡ false → IsReadAs line (input.Asked c ask) →
      (t : IsNameToldOf terms c name a old said noted new) → IsTaken old.named new.named c name a t.answers → (o : Option (ℕ × Bound)) → reached (named_of old.named) name a ≡ o → IsOne terms old line said noted new
  by_reached c name a line ask named one off reads t k None e = of_none terms old new line said noted (none_is terms c name a old new said noted t e k)
  by_reached c name a line ask named one off reads t k (Some p) e = ring_is terms c name a old new said noted t named right bits p e k line ask one off reads

  asked : (c : ℕ) (name : List ℕ) (a : Ask) (line : List ℕ) (ask : lines.Ask) → IsName name → one_ask ask ≡ Some (name, a) → is_off terms.lines.faults ask ≡ false → IsReadAs line (input.Asked c ask) →
      IsNameToldOf terms c name a old said noted new → IsOne terms old line said noted new
  asked c name a line ask named one off reads t = elim t.done.answer [
    | inl k ↦ by_reached c name a line ask named one off reads t k (reached (named_of old.named) name a) refl
    | inr w ↦ of_none terms old new line said noted (wanting_is terms c name a old new said noted t w)
  ]

  unknown : (line : List ℕ) (c : ℕ) (name : List ℕ) → IsOnlySaid (answer_line c name (answer.Refused refusal.Lock)) old said noted new → IsOne terms old line said noted new
  unknown line c name t = of_none terms old new line said noted (record {
    same = ap (λ (v : NamingView). v.named) t.leaves;
    notes = t.notes;
    nothing = inr (inr (c, name, reply.Lock (answer.Refused refusal.Lock), tt, t.says));
  })

  if_lock : (q : Bool) (c : ℕ) (name : List ℕ) (a : Ask) (line : List ℕ) (ask : lines.Ask) → IsName name → one_ask ask ≡ Some (name, a) → is_off terms.lines.faults ask ≡ false → IsReadAs line (input.Asked c ask) →
      IsNameToldIf q terms c name a old said noted new → IsOne terms old line said noted new
  if_lock true c name a line ask named one off reads t = unknown line c name t
  if_lock false c name a line ask named one off reads t = asked c name a line ask named one off reads t

  told : (c : ℕ) (line : List ℕ) (ask : lines.Ask) → is_off terms.lines.faults ask ≡ false → IsReadAs line (input.Asked c ask) → IsNameTold terms c (one_ask ask) old said noted new → IsOne terms old line said noted new
  told c line (lines.acquire name label) off r t = if_lock (is_no_lock terms.most old.named name (Acquire label)) c name (Acquire label) line (lines.acquire name label) r.1.named refl off r t
  told c line (lines.try name label) off r t = if_lock (is_no_lock terms.most old.named name (Try label)) c name (Try label) line (lines.try name label) r.1.named refl off r t
  told c line (lines.release name token) off r t = if_lock (is_no_lock terms.most old.named name (Release token)) c name (Release token) line (lines.release name token) r.1.named refl off r t
  told c line (lines.cancel name) off r t = if_lock (is_no_lock terms.most old.named name Cancel) c name Cancel line (lines.cancel name) r.1.named refl off r t
  told c line lines.leave off r t = leave_is terms c old new said noted t right line r
  told c line (lines.corrupt name machine value) off r t = if_lock (is_no_lock terms.most old.named name (Corrupt (in_32_bits machine) (in_32_bits value))) c name (Corrupt (in_32_bits machine) (in_32_bits value)) line (lines.corrupt name machine value) r.1.named refl off r t
  told c line (lines.stats name) off r t = if_lock (is_no_lock terms.most old.named name Stats) c name Stats line (lines.stats name) r.1.named refl off r t

  answered_if : (off : Bool) (c : ℕ) (line : List ℕ) (ask : lines.Ask) → is_off terms.lines.faults ask ≡ off → IsReadAs line (input.Asked c ask) → IsNameAnsweredIf off terms c ask old said noted new → IsOne terms old line said noted new
  answered_if true c line ask e r t = denied line c denial.Off t
  answered_if false c line ask e r t = told c line ask e r t

  of_input : (line : List ℕ) (i : Input) → IsReadAs line i → IsNameInputAnswered terms i old said noted new → IsOne terms old line said noted new
  of_input line (input.Asked c ask) r t = answered_if (is_off terms.lines.faults ask) c line ask refl r t
  of_input line (input.Refused c why) r t = denied line c (denial_of why) t
  of_input line input.Nobody r t = nobodys line t

  pub of_line : (line : List ℕ) → IsNameLineAnswered terms old line said noted new → IsOne terms old line said noted new
  of_line line a = of_input line a.0 a.1 a.2

-- ---- lines

module _ (terms : NameTerms) (old mid new : NamingView) (line : List ℕ) (lines : List (List ℕ)) (said noted first later note notes : List ℕ) (a : IsNameLineAnswered terms old line first note mid) (says : said ≡ first ++ later) (notes_are : noted ≡ note ++ notes)
    (ends : AreLines note) (r : HaveRingLines terms mid lines later notes new) where
  left : without_remarks noted ≡ without_remarks note ++ without_remarks notes
  left = ap (λ (u : List ℕ). without_remarks u) notes_are ∙ without_append note notes ends

  whole : AreLines noted
  whole = subst (λ (u : List ℕ). AreLines u) (sym notes_are) (of_both note notes ends r.whole)

  more_none : IsOfNoRing old.named first note mid.named → HaveRingLines terms old (line ∷ lines) said noted new
  more_none n =
      let none : without_remarks noted ≡ without_remarks notes = left ∙ ap (λ (u : List ℕ). u ++ without_remarks notes) (ap (λ (u : List ℕ). without_remarks u) n.notes ∙ nothing_kept) in
      record {
        rings = r.rings;
        told = r.told;
        each = (mid, first, later, note, notes, [], r.told, r.rings, a, inl (refl, refl, n), says, notes_are, refl, r.each);
        answers =
            subst (λ (u : List ℕ). Answers (IsLineAnswered terms.lines) (ring_segment old.named) r.rings r.told u (ring_segment new.named)) (sym none)
            (subst (λ (v : NamedView). Answers (IsLineAnswered terms.lines) (ring_segment v) r.rings r.told (without_remarks notes) (ring_segment new.named)) n.same r.answers);
        whole = whole;
        right = r.right;
      }

  more_ring : (ring now : List ℕ) → IsOfRing terms old.named line first note mid.named ring now → HaveRingLines terms old (line ∷ lines) said noted new
  more_ring ring now i = record {
    rings = ring ∷ r.rings;
    told = now ++ r.told;
    each = (mid, first, later, note, notes, now, r.told, r.rings, a, inr (ring, refl, i), says, notes_are, refl, r.each);
    answers = (ring_segment mid.named, now, r.told, without_remarks note, without_remarks notes, i.answered, refl, left, r.answers);
    whole = whole;
    right = r.right;
  }

  more_by : (IsOfNoRing old.named first note mid.named ⊎ ((ring : List ℕ) × (now : List ℕ) × IsOfRing terms old.named line first note mid.named ring now)) → HaveRingLines terms old (line ∷ lines) said noted new
  more_by (inl n) = more_none n
  more_by (inr (ring, now, i)) = more_ring ring now i

pub name_lines_are_ring_lines : NameLinesAreRingLines
name_lines_are_ring_lines terms old new [] said noted right bits a =
    let same : new.named ≡ old.named = ap (λ (v : NamingView). v.named) a.2 in
    record {
      rings = [];
      told = [];
      each = (a.0, a.1, a.2, refl, refl);
      whole = inl a.1;
      answers = (refl, ap (λ (u : List ℕ). without_remarks u) a.1 ∙ nothing_kept, ap (λ (v : NamedView). ring_segment v) same);
      right = subst (λ (v : NamedView). AreRightNames v) (sym same) right;
    }
name_lines_are_ring_lines terms old new (line ∷ lines) said noted right bits a =
    let here = line_right terms old a.0 a.1 a.3 right line a.5 in
    let rest = lines_right terms a.0 new lines a.2 a.4 here.right a.8 in
    let low : old.named.top ≤ a.0.named.top = here.more in
    let high : a.0.named.top ≤ new.named.top = rest.more in
    let one = of_line terms old a.0 a.1 a.3 right (omega (arith, low, high, bits)) line a.5 in
    let r = name_lines_are_ring_lines terms a.0 new lines a.2 a.4 here.right bits a.8 in
    more_by terms old a.0 new line lines said noted a.1 a.2 a.3 a.4 a.5 a.6 a.7 one.lines r one.is
