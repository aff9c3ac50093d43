-- The lines are read just as they are spelled.
use Rattle.std.proofs.Common.{◌≡◌, ◌≢◌, ℕ, zero, suc, ◌^◌, ◌<◌, Bool, true, false, ltb, cond, List, [], ◌∷◌, ◌++◌, length, Option, Some, None, refl, sym, ◌∙◌, ap, ◌⊎◌, inl, inr, arith}
use Rattle.std.proofs.lemmas.Bool.{ltb-true, ltb-false}
use Rattle.std.proofs.lemmas.Fmt.{decimal_digit}
use Rattle.std.specs.Prelude.{codes}
use Rattle.text_lines.specs.Reading.{Reader, Either, this, that, as_at, branch, choice_at}
use Rattle.text_lines.specs.Spelling.{spaced, ended, Below, OfEither, of_either}
use Rattle.text_lines.specs.Grammar.{Reads, RunFits, many, Repeats, StartsWith, ReadsBranch}
use Rattle.text_lines.proofs.Sequences.{both_reads, as_reads, after_reads, nothing_reads}
use Rattle.text_lines.proofs.Choices.{choice_reads, starts_otherwise}
use Rattle.text_lines.proofs.Repetitions.{Always, many_reads}
use Rattle.text_lines.proofs.Decimals.{number_reads, positive_reads}
use Rattle.saved_history.specs.declared.saved.SavedEvent.{SavedEvent}
use Rattle.saved_history.specs.declared.saved.SavedEvent.TheVariants.{Granted, Refused, Member, Corrupted}
use Rattle.saved_history.specs.declared.saved.SavedSurvey.{SavedSurvey}
use Rattle.saved_history.specs.declared.saved.RingHeader.{RingHeader}
use Rattle.saved_history.specs.Versions.{first_version, latest_version, HasGroups, IsVersion}
use Rattle.saved_history.specs.Spelling.{head_line, event_line, end_line, survey_line, done_line, EventFits, SurveyFits, RingHeaderFits}
use Rattle.saved_history.specs.Lines.{first_branch, latest_branch, version_at, small, last_small, large, last_large, grant_branch, refusal_branch, reply_at, pass_of, pass_at, pass_branch, corruption_of, corruption_at, corruption_branch, member_of, member_at, member_branch, end_at, end_branch, event_or_end_at, events_at, head_from, head_at, head_branch, done_at, done_branch, survey_of, survey_at, Follow, survey_branch, survey_or_next_at, surveys_at}

abbrev Small : ℕ → Type 0
Small = Below (2 ^ 32)

abbrev pub Large : ℕ → Type 0
Large = Below (2 ^ 64)

small_reads : Reads Small spaced small
small_reads = number_reads (2 ^ 32) 32 (omega arith) (omega arith) (omega arith)

last_small_reads : Reads Small ended last_small
last_small_reads = number_reads (2 ^ 32) 10 (omega arith) (omega arith) (omega arith)

large_reads : Reads Large spaced large
large_reads = number_reads (2 ^ 64) 32 (omega arith) (omega arith) (omega arith)

last_large_reads : Reads Large ended last_large
last_large_reads = number_reads (2 ^ 64) 10 (omega arith) (omega arith) (omega arith)

-- ---- the version

first_spelled : ended first_version ≡ codes "1\n"
first_spelled = ap (λ (u : List ℕ). u ++ 10 ∷ []) (decimal_digit 1 (omega arith))

latest_spelled : ended latest_version ≡ codes "2\n"
latest_spelled = ap (λ (u : List ℕ). u ++ 10 ∷ []) (decimal_digit 2 (omega arith))

first_apart : StartsWith 50 (ended first_version) → ⊥
first_apart s = starts_otherwise 49 50 (10 ∷ []) (λ e. omega arith) (s.0, sym first_spelled ∙ s.1)

latest_apart : StartsWith 49 (ended latest_version) → ⊥
latest_apart s = starts_otherwise 50 49 (10 ∷ []) (λ e. omega arith) (s.0, sym latest_spelled ∙ s.1)

first_reads : ReadsBranch IsVersion ended first_branch
first_reads = as_reads (λ a. IsVersion a × StartsWith 49 (ended a)) ended (λ u. first_version) (λ b. tt) (after_reads (codes "1\n") nothing_reads)
    (λ u f. ((omega arith, omega arith), (10 ∷ [], first_spelled))) (λ b f. tt) same (λ u f. first_spelled)
  where
    same : (b : ℕ) → IsVersion b × StartsWith 49 (ended b) → first_version ≡ b
    same zero f = absurd (let low = f.0.0 in omega arith)
    same (suc zero) f = refl
    same (suc (suc zero)) f = absurd (latest_apart f.1)
    same (suc (suc (suc b))) f = absurd (let high = f.0.1 in omega arith)

latest_reads : ReadsBranch IsVersion ended latest_branch
latest_reads = as_reads (λ a. IsVersion a × StartsWith 50 (ended a)) ended (λ u. latest_version) (λ b. tt) (after_reads (codes "2\n") nothing_reads)
    (λ u f. ((omega arith, omega arith), (10 ∷ [], latest_spelled))) (λ b f. tt) same (λ u f. latest_spelled)
  where
    same : (b : ℕ) → IsVersion b × StartsWith 50 (ended b) → latest_version ≡ b
    same zero f = absurd (let low = f.0.0 in omega arith)
    same (suc zero) f = absurd (first_apart f.1)
    same (suc (suc zero)) f = refl
    same (suc (suc (suc b))) f = absurd (let high = f.0.1 in omega arith)

pub version_reads : Reads IsVersion ended version_at
unfolding version_at
version_reads = choice_reads IsVersion ended first_branch (latest_branch ∷ []) (first_reads, (latest_reads, tt)) (((λ e. omega arith), tt), (tt, tt)) kinds
  where
    kinds : (b : ℕ) → IsVersion b → StartsWith 49 (ended b) ⊎ (StartsWith 50 (ended b) ⊎ ⊥)
    kinds zero f = absurd (let low = f.0 in omega arith)
    kinds (suc zero) f = inl (10 ∷ [], first_spelled)
    kinds (suc (suc zero)) f = inr (inl (10 ∷ [], latest_spelled))
    kinds (suc (suc (suc b))) f = absurd (let high = f.1 in omega arith)

-- ---- a pass

abbrev Nothing : Unit {0} → Type 0
Nothing u = Unit {0}

abbrev ReplyFits : Option (ℕ × ℕ) → Type 0
ReplyFits (Some p) = Large p.0 × Large p.1
ReplyFits None = Unit {0}

abbrev reply_text : Option (ℕ × ℕ) → List ℕ
reply_text (Some p) = codes "g " ++ (spaced p.0 ++ ended p.1)
reply_text None = codes "n\n"

abbrev grant_back : Option (ℕ × ℕ) → ℕ × ℕ
grant_back (Some p) = p
grant_back None = (0, 0)

grant_reads : ReadsBranch ReplyFits reply_text grant_branch
grant_reads = as_reads (λ a. ReplyFits a × StartsWith 103 (reply_text a)) reply_text (λ p. Some p) grant_back (after_reads (codes "g ") (both_reads large_reads last_large_reads))
    (λ p f. (f, (_, refl))) back same (λ p f. refl)
  where
    back : (b : Option (ℕ × ℕ)) → ReplyFits b × StartsWith 103 (reply_text b) → Large (grant_back b).0 × Large (grant_back b).1
    back (Some p) f = f.0
    back None f = absurd (starts_otherwise 110 103 _ (λ e. omega arith) f.1)

    same : (b : Option (ℕ × ℕ)) → ReplyFits b × StartsWith 103 (reply_text b) → Some (grant_back b) ≡ b
    same (Some p) f = refl
    same None f = absurd (starts_otherwise 110 103 _ (λ e. omega arith) f.1)

refusal_reads : ReadsBranch ReplyFits reply_text refusal_branch
refusal_reads = as_reads (λ a. ReplyFits a × StartsWith 110 (reply_text a)) reply_text (λ u. None) (λ b. tt) (after_reads (codes "n\n") nothing_reads)
    (λ u f. (tt, (_, refl))) (λ b f. tt) same (λ u f. refl)
  where
    same : (b : Option (ℕ × ℕ)) → ReplyFits b × StartsWith 110 (reply_text b) → None ≡ b
    same (Some p) f = absurd (starts_otherwise 103 110 _ (λ e. omega arith) f.1)
    same None f = refl

reply_reads : Reads ReplyFits reply_text reply_at
unfolding reply_at
reply_reads = choice_reads ReplyFits reply_text grant_branch (refusal_branch ∷ []) (grant_reads, (refusal_reads, tt)) (((λ e. omega arith), tt), (tt, tt)) kinds
  where
    kinds : (b : Option (ℕ × ℕ)) → ReplyFits b → StartsWith 103 (reply_text b) ⊎ (StartsWith 110 (reply_text b) ⊎ ⊥)
    kinds (Some p) f = inl (_, refl)
    kinds None f = inr (inl (_, refl))

abbrev PassFits : ℕ → SavedEvent → Type 0
PassFits version (Granted seat machine order number answer) = EventFits version (Granted seat machine order number answer)
PassFits version (Refused seat machine order) = EventFits version (Refused seat machine order)
PassFits version (Member seat machine order left number answer) = ⊥
PassFits version (Corrupted seat machine value old) = ⊥

abbrev Pass : Type 0
Pass = ℕ × (ℕ × (ℕ × Option (ℕ × ℕ)))

abbrev pass_back : SavedEvent → Pass
pass_back (Granted seat machine order number answer) = (seat, (machine, (order, Some (number, answer))))
pass_back (Refused seat machine order) = (seat, (machine, (order, None)))
pass_back (Member seat machine order left number answer) = (0, (0, (0, None)))
pass_back (Corrupted seat machine value old) = (0, (0, (0, None)))

abbrev PassParts : Pass → Type 0
PassParts p = Small p.0 × (Small p.1.0 × (Large p.1.1.0 × ReplyFits p.1.1.1))

abbrev pass_parts : Pass → List ℕ
pass_parts p = codes "p " ++ (spaced p.0 ++ (spaced p.1.0 ++ (spaced p.1.1.0 ++ reply_text p.1.1.1)))

pass_reads : (version : ℕ) → Reads (PassFits version) event_line pass_at
unfolding pass_at
pass_reads version = as_reads (PassFits version) event_line pass_of pass_back (after_reads (codes "p ") (both_reads small_reads (both_reads small_reads (both_reads large_reads reply_reads)))) fits_to fits_back same spelled
  where
    fits_to : (a : Pass) → PassParts a → PassFits version (pass_of a)
    fits_to (s, (m, (o, Some (n, r)))) f = (f.0, f.1.0, f.1.1.0, f.1.1.1.0, f.1.1.1.1)
    fits_to (s, (m, (o, None))) f = (f.0, f.1.0, f.1.1.0)

    fits_back : (b : SavedEvent) → PassFits version b → PassParts (pass_back b)
    fits_back (Granted s m o n r) f = (f.0, (f.1, (f.2, (f.3, f.4))))
    fits_back (Refused s m o) f = (f.0, (f.1, (f.2, tt)))
    fits_back (Member s m o l n r) f = absurd f
    fits_back (Corrupted s m v o) f = absurd f

    same : (b : SavedEvent) → PassFits version b → pass_of (pass_back b) ≡ b
    same (Granted s m o n r) f = refl
    same (Refused s m o) f = refl
    same (Member s m o l n r) f = absurd f
    same (Corrupted s m v o) f = absurd f

    spelled : (a : Pass) → PassParts a → event_line (pass_of a) ≡ pass_parts a
    spelled (s, (m, (o, Some (n, r)))) f = refl
    spelled (s, (m, (o, None))) f = refl

-- ---- a corruption

abbrev CorruptionFits : ℕ → SavedEvent → Type 0
CorruptionFits version (Granted seat machine order number answer) = ⊥
CorruptionFits version (Refused seat machine order) = ⊥
CorruptionFits version (Member seat machine order left number answer) = ⊥
CorruptionFits version (Corrupted seat machine value old) = EventFits version (Corrupted seat machine value old)

abbrev corruption_back : SavedEvent → ℕ × (ℕ × (ℕ × ℕ))
corruption_back (Granted seat machine order number answer) = (0, (0, (0, 0)))
corruption_back (Refused seat machine order) = (0, (0, (0, 0)))
corruption_back (Member seat machine order left number answer) = (0, (0, (0, 0)))
corruption_back (Corrupted seat machine value old) = (seat, (machine, (value, old)))

corruption_reads : (version : ℕ) → Reads (CorruptionFits version) event_line corruption_at
unfolding corruption_at
corruption_reads version = as_reads (CorruptionFits version) event_line corruption_of corruption_back (after_reads (codes "c ") (both_reads small_reads (both_reads small_reads (both_reads small_reads last_small_reads))))
    (λ a f. (f.0, f.1.0, f.1.1.0, f.1.1.1)) fits_back same (λ a f. refl)
  where
    fits_back : (b : SavedEvent) → CorruptionFits version b → (λ (p : ℕ × (ℕ × (ℕ × ℕ))). Small p.0 × (Small p.1.0 × (Small p.1.1.0 × Small p.1.1.1))) (corruption_back b)
    fits_back (Granted s m o n r) f = absurd f
    fits_back (Refused s m o) f = absurd f
    fits_back (Member s m o l n r) f = absurd f
    fits_back (Corrupted s m v o) f = (f.0, (f.1, (f.2, f.3)))

    same : (b : SavedEvent) → CorruptionFits version b → corruption_of (corruption_back b) ≡ b
    same (Granted s m o n r) f = absurd f
    same (Refused s m o) f = absurd f
    same (Member s m o l n r) f = absurd f
    same (Corrupted s m v o) f = refl

-- ---- a member of a group

abbrev MemberFits : ℕ → SavedEvent → Type 0
MemberFits version (Granted seat machine order number answer) = ⊥
MemberFits version (Refused seat machine order) = ⊥
MemberFits version (Member seat machine order left number answer) = EventFits version (Member seat machine order left number answer)
MemberFits version (Corrupted seat machine value old) = ⊥

abbrev MemberNumbers : Type 0
MemberNumbers = ℕ × (ℕ × (ℕ × (ℕ × (ℕ × ℕ))))

abbrev member_back : SavedEvent → MemberNumbers
member_back (Granted seat machine order number answer) = (0, (0, (0, (0, (0, 0)))))
member_back (Refused seat machine order) = (0, (0, (0, (0, (0, 0)))))
member_back (Member seat machine order left number answer) = (seat, (machine, (order, (left, (number, answer)))))
member_back (Corrupted seat machine value old) = (0, (0, (0, (0, (0, 0)))))

member_reads : (version : ℕ) → HasGroups version → Reads (MemberFits version) event_line member_at
unfolding member_at
member_reads version groups = as_reads (MemberFits version) event_line member_of member_back (after_reads (codes "m ") (both_reads small_reads (both_reads small_reads (both_reads large_reads (both_reads small_reads (both_reads large_reads last_large_reads))))))
    (λ a f. (groups, f.0, f.1.0, f.1.1.0, f.1.1.1.0, f.1.1.1.1.0, f.1.1.1.1.1)) fits_back same (λ a f. refl)
  where
    fits_back : (b : SavedEvent) → MemberFits version b → (λ (p : MemberNumbers). Small p.0 × (Small p.1.0 × (Large p.1.1.0 × (Small p.1.1.1.0 × (Large p.1.1.1.1.0 × Large p.1.1.1.1.1))))) (member_back b)
    fits_back (Granted s m o n r) f = absurd f
    fits_back (Refused s m o) f = absurd f
    fits_back (Member s m o l n r) f = (f.1, (f.2, (f.3, (f.4, (f.5, f.6)))))
    fits_back (Corrupted s m v o) f = absurd f

    same : (b : SavedEvent) → MemberFits version b → member_of (member_back b) ≡ b
    same (Granted s m o n r) f = absurd f
    same (Refused s m o) f = absurd f
    same (Member s m o l n r) f = refl
    same (Corrupted s m v o) f = absurd f

-- ---- an event or the end of the events

end_reads : Reads Large end_line end_at
unfolding end_at
end_reads = after_reads (codes "end ") last_large_reads

abbrev Item : Type 0
Item = Either SavedEvent ℕ

abbrev pub item_line : Item → List ℕ
item_line = of_either event_line end_line

abbrev pub ItemFits : ℕ → Item → Type 0
ItemFits version = OfEither (EventFits version) Large

abbrev event_back : Item → SavedEvent
event_back (this e) = e
event_back (that n) = Refused 0 0 0

-- a kind of event, by its byte
event_branch_reads : (version : ℕ) (F : SavedEvent → Type 0) (at : Reader SavedEvent) (c : ℕ) → c ≢ 101 → ((e : SavedEvent) → F e → EventFits version e × StartsWith c (event_line e))
    → ((e : SavedEvent) → EventFits version e × StartsWith c (event_line e) → F e) → Reads F event_line at → ReadsBranch (ItemFits version) item_line (branch c (as_at this at))
event_branch_reads version F at c no_end to back reads = as_reads (λ a. ItemFits version a × StartsWith c (item_line a)) item_line this event_back reads to fits_back same (λ a f. refl)
  where
    fits_back : (b : Item) → ItemFits version b × StartsWith c (item_line b) → F (event_back b)
    fits_back (this e) f = back e f
    fits_back (that n) f = absurd (starts_otherwise 101 c _ (λ e. no_end (sym e)) f.1)

    same : (b : Item) → ItemFits version b × StartsWith c (item_line b) → this (event_back b) ≡ b
    same (this e) f = refl
    same (that n) f = absurd (starts_otherwise 101 c _ (λ e. no_end (sym e)) f.1)

pass_branch_reads : (version : ℕ) → ReadsBranch (ItemFits version) item_line pass_branch
pass_branch_reads version = event_branch_reads version (PassFits version) pass_at 112 (λ e. omega arith) to back (pass_reads version)
  where
    to : (e : SavedEvent) → PassFits version e → EventFits version e × StartsWith 112 (event_line e)
    to (Granted s m o n r) f = (f, (_, refl))
    to (Refused s m o) f = (f, (_, refl))
    to (Member s m o l n r) f = absurd f
    to (Corrupted s m v o) f = absurd f

    back : (e : SavedEvent) → EventFits version e × StartsWith 112 (event_line e) → PassFits version e
    back (Granted s m o n r) f = f.0
    back (Refused s m o) f = f.0
    back (Member s m o l n r) f = absurd (starts_otherwise 109 112 _ (λ e. omega arith) f.1)
    back (Corrupted s m v o) f = absurd (starts_otherwise 99 112 _ (λ e. omega arith) f.1)

corruption_branch_reads : (version : ℕ) → ReadsBranch (ItemFits version) item_line corruption_branch
corruption_branch_reads version = event_branch_reads version (CorruptionFits version) corruption_at 99 (λ e. omega arith) to back (corruption_reads version)
  where
    to : (e : SavedEvent) → CorruptionFits version e → EventFits version e × StartsWith 99 (event_line e)
    to (Granted s m o n r) f = absurd f
    to (Refused s m o) f = absurd f
    to (Member s m o l n r) f = absurd f
    to (Corrupted s m v o) f = (f, (_, refl))

    back : (e : SavedEvent) → EventFits version e × StartsWith 99 (event_line e) → CorruptionFits version e
    back (Granted s m o n r) f = absurd (starts_otherwise 112 99 _ (λ e. omega arith) f.1)
    back (Refused s m o) f = absurd (starts_otherwise 112 99 _ (λ e. omega arith) f.1)
    back (Member s m o l n r) f = absurd (starts_otherwise 109 99 _ (λ e. omega arith) f.1)
    back (Corrupted s m v o) f = f.0

member_branch_reads : (version : ℕ) → HasGroups version → ReadsBranch (ItemFits version) item_line member_branch
member_branch_reads version groups = event_branch_reads version (MemberFits version) member_at 109 (λ e. omega arith) to back (member_reads version groups)
  where
    to : (e : SavedEvent) → MemberFits version e → EventFits version e × StartsWith 109 (event_line e)
    to (Granted s m o n r) f = absurd f
    to (Refused s m o) f = absurd f
    to (Member s m o l n r) f = (f, (_, refl))
    to (Corrupted s m v o) f = absurd f

    back : (e : SavedEvent) → EventFits version e × StartsWith 109 (event_line e) → MemberFits version e
    back (Granted s m o n r) f = absurd (starts_otherwise 112 109 _ (λ e. omega arith) f.1)
    back (Refused s m o) f = absurd (starts_otherwise 112 109 _ (λ e. omega arith) f.1)
    back (Member s m o l n r) f = f.0
    back (Corrupted s m v o) f = absurd (starts_otherwise 99 109 _ (λ e. omega arith) f.1)

abbrev end_back : Item → ℕ
end_back (this e) = 0
end_back (that n) = n

no_event : (e : SavedEvent) → StartsWith 101 (event_line e) → ⊥
no_event (Granted s m o n r) b = starts_otherwise 112 101 _ (λ e. omega arith) b
no_event (Refused s m o) b = starts_otherwise 112 101 _ (λ e. omega arith) b
no_event (Member s m o l n r) b = starts_otherwise 109 101 _ (λ e. omega arith) b
no_event (Corrupted s m v o) b = starts_otherwise 99 101 _ (λ e. omega arith) b

end_branch_reads : (version : ℕ) → ReadsBranch (ItemFits version) item_line end_branch
end_branch_reads version = as_reads (λ a. ItemFits version a × StartsWith 101 (item_line a)) item_line that end_back end_reads (λ n f. (f, (_, refl))) back same (λ n f. refl)
  where
    back : (b : Item) → ItemFits version b × StartsWith 101 (item_line b) → Large (end_back b)
    back (this e) f = absurd (no_event e f.1)
    back (that n) f = f.0

    same : (b : Item) → ItemFits version b × StartsWith 101 (item_line b) → that (end_back b) ≡ b
    same (this e) f = absurd (no_event e f.1)
    same (that n) f = refl

-- the branches of all versions, and those that only some have
abbrev items_at : Bool → Reader Item
items_at has = choice_at (pass_branch ∷ corruption_branch ∷ end_branch ∷ cond has (member_branch ∷ []) [])

items_read : (version : ℕ) (has : Bool) → ltb first_version version ≡ has → Reads (ItemFits version) item_line (items_at has)
items_read version true e = choice_reads (ItemFits version) item_line pass_branch (corruption_branch ∷ end_branch ∷ member_branch ∷ [])
    (pass_branch_reads version, (corruption_branch_reads version, (end_branch_reads version, (member_branch_reads version (ltb-true first_version version e), tt))))
    (((λ e. omega arith), ((λ e. omega arith), ((λ e. omega arith), tt))), (((λ e. omega arith), ((λ e. omega arith), tt)), (((λ e. omega arith), tt), (tt, tt)))) kinds
  where
    kinds : (a : Item) → ItemFits version a → StartsWith 112 (item_line a) ⊎ (StartsWith 99 (item_line a) ⊎ (StartsWith 101 (item_line a) ⊎ (StartsWith 109 (item_line a) ⊎ ⊥)))
    kinds (this (Granted s m o n r)) f = inl (_, refl)
    kinds (this (Refused s m o)) f = inl (_, refl)
    kinds (this (Member s m o l n r)) f = inr (inr (inr (inl (_, refl))))
    kinds (this (Corrupted s m v o)) f = inr (inl (_, refl))
    kinds (that n) f = inr (inr (inl (_, refl)))
items_read version false e = choice_reads (ItemFits version) item_line pass_branch (corruption_branch ∷ end_branch ∷ [])
    (pass_branch_reads version, (corruption_branch_reads version, (end_branch_reads version, tt)))
    (((λ e. omega arith), ((λ e. omega arith), tt)), (((λ e. omega arith), tt), (tt, tt))) kinds
  where
    kinds : (a : Item) → ItemFits version a → StartsWith 112 (item_line a) ⊎ (StartsWith 99 (item_line a) ⊎ (StartsWith 101 (item_line a) ⊎ ⊥))
    kinds (this (Granted s m o n r)) f = inl (_, refl)
    kinds (this (Refused s m o)) f = inl (_, refl)
    kinds (this (Member s m o l n r)) f = absurd (let low = ltb-false first_version version e in let groups = f.0 in omega (arith, low, groups))
    kinds (this (Corrupted s m v o)) f = inr (inl (_, refl))
    kinds (that n) f = inr (inr (inl (_, refl)))

pub item_reads : (version : ℕ) → Reads (ItemFits version) item_line (event_or_end_at version)
unfolding event_or_end_at
item_reads version = items_read version (ltb first_version version) refl

event_long : (version : ℕ) (st : Unit {0}) (a : SavedEvent) → EventFits version a → 0 < length (event_line a)
event_long version st (Granted s m o n r) f = omega arith
event_long version st (Refused s m o) f = omega arith
event_long version st (Member s m o l n r) f = omega arith
event_long version st (Corrupted s m v o) f = omega arith

pub events_repeat : (version : ℕ) → Repeats {S = Unit {0}} Always (λ _. EventFits version) event_line (λ _. Large) end_line (λ _. event_or_end_at version) (λ _. tt)
events_repeat version = record { reads = λ st v. item_reads version; keeps = λ st a f. tt; some = event_long version; final = λ st v. (0, omega arith) }

abbrev pub EventsFit : ℕ → List SavedEvent × ℕ → Type 0
EventsFit version p = RunFits {S = Unit {0}} (λ _. EventFits version) (λ _. Large) (λ _. tt) tt p.0 p.1

pub events_reads : (version : ℕ) → Reads (EventsFit version) (many event_line end_line) (events_at version)
unfolding events_at
events_reads version = many_reads (events_repeat version) tt tt

-- ---- a ring's first line, the last line, and surveys

pub head_reads : Reads RingHeaderFits head_line head_at
unfolding head_at
head_reads = as_reads RingHeaderFits head_line head_from (λ h. (h.index, (h.n, h.k)))
    (after_reads (codes "ring ") (both_reads small_reads (both_reads (positive_reads (2 ^ 32) 32 (omega arith) (omega arith) (omega arith)) last_small_reads)))
    (λ a f. record { index = f.0; some = f.1.0.0; n = f.1.0.1; k = f.1.1 }) (λ h f. (f.index, ((f.some, f.n), f.k))) (λ h f. refl) (λ a f. refl)

done_reads : Reads Small done_line done_at
unfolding done_at
done_reads = after_reads (codes "done ") last_small_reads

survey_reads : Reads SurveyFits survey_line survey_at
unfolding survey_at
survey_reads = as_reads SurveyFits survey_line survey_of (λ v. (v.seat, (v.position, (v.privileged, (v.first, (v.calm, v.rest))))))
    (after_reads (codes "s ") (both_reads small_reads (both_reads large_reads (both_reads small_reads (both_reads small_reads (both_reads large_reads last_large_reads))))))
    (λ a f. record { seat = f.0; position = f.1.0; privileged = f.1.1.0; first = f.1.1.1.0; calm = f.1.1.1.1.0; rest = f.1.1.1.1.1 }) (λ v f. (f.seat, (f.position, (f.privileged, (f.first, (f.calm, f.rest)))))) (λ v f. refl) (λ a f. refl)

abbrev pub NextFits : Either RingHeader ℕ → Type 0
NextFits = OfEither RingHeaderFits Small

abbrev pub next_line : Either RingHeader ℕ → List ℕ
next_line = of_either head_line done_line

abbrev pub FollowFits : Follow → Type 0
FollowFits = OfEither SurveyFits NextFits

abbrev pub follow_line : Follow → List ℕ
follow_line = of_either survey_line next_line

abbrev survey_back : Follow → SavedSurvey
survey_back (this v) = v
survey_back (that x) = record { seat = 0; position = 0; privileged = 0; first = 0; calm = 0; rest = 0 }

survey_branch_reads : ReadsBranch FollowFits follow_line survey_branch
survey_branch_reads = as_reads (λ a. FollowFits a × StartsWith 115 (follow_line a)) follow_line this survey_back survey_reads (λ v f. (f, (_, refl))) back same (λ v f. refl)
  where
    back : (b : Follow) → FollowFits b × StartsWith 115 (follow_line b) → SurveyFits (survey_back b)
    back (this v) f = f.0
    back (that (this h)) f = absurd (starts_otherwise 114 115 _ (λ e. omega arith) f.1)
    back (that (that n)) f = absurd (starts_otherwise 100 115 _ (λ e. omega arith) f.1)

    same : (b : Follow) → FollowFits b × StartsWith 115 (follow_line b) → this (survey_back b) ≡ b
    same (this v) f = refl
    same (that (this h)) f = absurd (starts_otherwise 114 115 _ (λ e. omega arith) f.1)
    same (that (that n)) f = absurd (starts_otherwise 100 115 _ (λ e. omega arith) f.1)

abbrev head_back : Follow → RingHeader
head_back (this v) = record { index = 0; n = 0; k = 0 }
head_back (that (this h)) = h
head_back (that (that n)) = record { index = 0; n = 0; k = 0 }

head_branch_reads : ReadsBranch FollowFits follow_line head_branch
head_branch_reads = as_reads (λ a. FollowFits a × StartsWith 114 (follow_line a)) follow_line (λ h. that (this h)) head_back head_reads (λ h f. (f, (_, refl))) back same (λ h f. refl)
  where
    back : (b : Follow) → FollowFits b × StartsWith 114 (follow_line b) → RingHeaderFits (head_back b)
    back (this v) f = absurd (starts_otherwise 115 114 _ (λ e. omega arith) f.1)
    back (that (this h)) f = f.0
    back (that (that n)) f = absurd (starts_otherwise 100 114 _ (λ e. omega arith) f.1)

    same : (b : Follow) → FollowFits b × StartsWith 114 (follow_line b) → that (this (head_back b)) ≡ b
    same (this v) f = absurd (starts_otherwise 115 114 _ (λ e. omega arith) f.1)
    same (that (this h)) f = refl
    same (that (that n)) f = absurd (starts_otherwise 100 114 _ (λ e. omega arith) f.1)

abbrev done_back : Follow → ℕ
done_back (this v) = 0
done_back (that (this h)) = 0
done_back (that (that n)) = n

done_branch_reads : ReadsBranch FollowFits follow_line done_branch
done_branch_reads = as_reads (λ a. FollowFits a × StartsWith 100 (follow_line a)) follow_line (λ n. that (that n)) done_back done_reads (λ n f. (f, (_, refl))) back same (λ n f. refl)
  where
    back : (b : Follow) → FollowFits b × StartsWith 100 (follow_line b) → Small (done_back b)
    back (this v) f = absurd (starts_otherwise 115 100 _ (λ e. omega arith) f.1)
    back (that (this h)) f = absurd (starts_otherwise 114 100 _ (λ e. omega arith) f.1)
    back (that (that n)) f = f.0

    same : (b : Follow) → FollowFits b × StartsWith 100 (follow_line b) → that (that (done_back b)) ≡ b
    same (this v) f = absurd (starts_otherwise 115 100 _ (λ e. omega arith) f.1)
    same (that (this h)) f = absurd (starts_otherwise 114 100 _ (λ e. omega arith) f.1)
    same (that (that n)) f = refl

pub survey_or_next_reads : Reads FollowFits follow_line survey_or_next_at
unfolding survey_or_next_at
survey_or_next_reads = choice_reads FollowFits follow_line survey_branch (head_branch ∷ done_branch ∷ []) (survey_branch_reads, (head_branch_reads, (done_branch_reads, tt))) (((λ e. omega arith), ((λ e. omega arith), tt)), (((λ e. omega arith), tt), (tt, tt))) kinds
  where
    kinds : (a : Follow) → FollowFits a → StartsWith 115 (follow_line a) ⊎ (StartsWith 114 (follow_line a) ⊎ (StartsWith 100 (follow_line a) ⊎ ⊥))
    kinds (this v) f = inl (_, refl)
    kinds (that (this h)) f = inr (inl (_, refl))
    kinds (that (that n)) f = inr (inr (inl (_, refl)))

pub surveys_repeat : Repeats {S = Unit {0}} Always (λ _. SurveyFits) survey_line (λ _. NextFits) next_line (λ _. survey_or_next_at) (λ _. tt)
surveys_repeat = record { reads = λ st v. survey_or_next_reads; keeps = λ st a f. tt; some = λ st a f. omega arith; final = λ st v. (that 0, omega arith) }

abbrev pub SurveysFit : List SavedSurvey × Either RingHeader ℕ → Type 0
SurveysFit p = RunFits {S = Unit {0}} (λ _. SurveyFits) (λ _. NextFits) (λ _. tt) tt p.0 p.1

pub surveys_reads : Reads SurveysFit (many survey_line next_line) surveys_at
unfolding surveys_at
surveys_reads = many_reads surveys_repeat tt tt
