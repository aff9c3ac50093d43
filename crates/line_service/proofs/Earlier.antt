-- The segments before the last one, step by step.
use Rattle.std.proofs.Common.{◌≡◌, ℕ, ◌+◌, ◌<◌, ◌≤◌, ◌⊎◌, List, [], ◌∷◌, ◌++◌, Option, None, Some, refl, sym, ap, subst, ◌∙◌, inl, inr, arith}
use Rattle.std.specs.Prelude.{IfSome, ⊤}
use Rattle.disks.specs.Held.{Held, IsOneFile, bytes_of}
use Rattle.disks.specs.Lasting.{BeginsWith, HasFront, HasJust, ChangesOnly, Changes, MayChange, Leaves, MayLeave}
use Rattle.line_service.specs.SegmentNames.{segment_file}
use Rattle.line_service.specs.declared.faults.Ending.{Ending}
use Rattle.line_service.specs.Loop.{ServesPart}
use Rattle.line_service.specs.Stands.{AnsweringWith, by_stand, stand}
use Rattle.line_service.specs.declared.segmented.EndFault.{EndFault}
use Rattle.line_service.specs.Segmenting.{Segmenting}
use Rattle.line_service.specs.Segments.{Moment, moment_of, stand_of, IsReady}
use Rattle.line_service.specs.Service.{Part, AreParts}
use Rattle.line_service.specs.Lasting.{AreApart, AreWhole, LeavesFile, KeepsEarlier, LeavesEarlier}
use Rattle.line_service.proofs.SegmentParts.{Served, none_served, one_served}

-- ---- what is left of other files, from one call to the next

pub changes_any : (was is : Option Held) (name : List ℕ) (Such : Option (List ℕ) → Type 0) → Changes was is name Such → Changes was is name (λ (_ : Option (List ℕ)). ⊤)
changes_any None is name Such c = c
changes_any (Some was) None name Such c = absurd c
changes_any (Some was) (Some is) name Such c = record { places = c.places; here = λ other one. tt; others = c.others }

module _ (folder : List ℕ) where
  apart_back : (was is : Held) → ((other : List ℕ) → is.place other ≡ was.place other) → AreApart folder is → AreApart folder was
  apart_back was is places apart = λ m n one. apart m n (places (segment_file folder m) ∙ (one ∙ sym (places (segment_file folder n))))

  keeps_same : (number : ℕ) (held : Held) → KeepsEarlier folder number held held
  keeps_same number held = record { places = λ other. refl; files = λ apart m lt. refl }

  keeps_then : (number : ℕ) (was mid is : Held) → KeepsEarlier folder number was mid → KeepsEarlier folder number mid is → KeepsEarlier folder number was is
  keeps_then number was mid is p q = record {
    places = λ other. q.places other ∙ p.places other;
    files = λ apart m lt. q.files (apart_back mid was (λ other. sym (p.places other)) apart) m lt ∙ p.files apart m lt;
  }

  changes_keeps : (number k : ℕ) (was is : Held) (name : List ℕ) (Such : Option (List ℕ) → Type 0) → name ≡ segment_file folder k → number ≤ k → ChangesOnly was is name Such → KeepsEarlier folder number was is
  changes_keeps number k was is name Such named most c = record {
    places = c.places;
    files = λ apart m lt. c.others (segment_file folder m)
        (λ one.
        let same : k ≡ m = apart k m (subst (λ (x : List ℕ). IsOneFile was x (segment_file folder m)) named one) in
        absurd (omega (arith, same, lt, most)));
  }

  pub same_left : (number : ℕ) (left : Option Held) → LeavesEarlier folder number left left
  same_left number None = refl
  same_left number (Some held) = keeps_same number held

  pub left_then : (number : ℕ) (was mid is : Option Held) → LeavesEarlier folder number was mid → LeavesEarlier folder number mid is → LeavesEarlier folder number was is
  left_then number None mid is p q = subst (λ (x : Option Held). LeavesEarlier folder number x is) p q
  left_then number (Some was) None is p q = absurd p
  left_then number (Some was) (Some mid) None p q = absurd q
  left_then number (Some was) (Some mid) (Some is) p q = keeps_then number was mid is p q

  pub changes_left : (number k : ℕ) (was is : Option Held) (name : List ℕ) (Such : Option (List ℕ) → Type 0) → name ≡ segment_file folder k → number ≤ k → Changes was is name Such → LeavesEarlier folder number was is
  changes_left number k None is name Such named most c = c
  changes_left number k (Some was) None name Such named most c = absurd c
  changes_left number k (Some was) (Some is) name Such named most c = changes_keeps number k was is name Such named most c

  pub may_left : (number k : ℕ) (was is : Option Held) (name : List ℕ) (Such : Option (List ℕ) → Type 0) → name ≡ segment_file folder k → number ≤ k → MayChange was is name Such → LeavesEarlier folder number was is
  may_left number k None is name Such named most c = c
  may_left number k (Some was) is name Such named most (inl e) = subst (λ (x : Option Held). LeavesEarlier folder number (Some was) x) (sym e) (keeps_same number was)
  may_left number k (Some was) is name Such named most (inr c) = changes_left number k (Some was) is name Such named most c

  -- ---- the file of one segment

  file_on : (number m : ℕ) (was is : Option Held) (Such : Option (List ℕ) → Type 0) → m < number → LeavesEarlier folder number was is → LeavesFile folder m was Such → LeavesFile folder m is Such
  file_on number m None is Such lt k h = subst (λ (x : Option Held). LeavesFile folder m x Such) (sym k) tt
  file_on number m (Some was) None Such lt k h = absurd k
  file_on number m (Some was) (Some is) Such lt k h = λ apart.
      let before = apart_back was is k.places apart in
      subst Such (sym (k.files before m lt)) (h before)

  file_here : (k : ℕ) (was is : Option Held) (name : List ℕ) (Such : Option (List ℕ) → Type 0) → name ≡ segment_file folder k → Changes was is name Such → LeavesFile folder k is Such
  file_here k None is name Such named c = subst (λ (x : Option Held). LeavesFile folder k x Such) (sym c) tt
  file_here k (Some was) None name Such named c = absurd c
  file_here k (Some was) (Some is) name Such named c = λ apart. subst (λ (x : List ℕ). Such (bytes_of is x)) named (c.here name refl)

  file_may : (k : ℕ) (was is : Option Held) (name : List ℕ) (Such : Option (List ℕ) → Type 0) → name ≡ segment_file folder k → MayChange was is name Such → LeavesFile folder k was Such → LeavesFile folder k is Such
  file_may k None is name Such named c h = subst (λ (x : Option Held). LeavesFile folder k x Such) (sym c) tt
  file_may k (Some was) is name Such named (inl e) h = subst (λ (x : Option Held). LeavesFile folder k x Such) (sym e) h
  file_may k (Some was) is name Such named (inr c) h = file_here k (Some was) is name Such named c

  pub file_map : (k : ℕ) (left : Option Held) (Such Other : Option (List ℕ) → Type 0) → ((has : Option (List ℕ)) → Such has → Other has) → LeavesFile folder k left Such → LeavesFile folder k left Other
  file_map k None Such Other f h = tt
  file_map k (Some held) Such Other f h = λ apart. f (bytes_of held (segment_file folder k)) (h apart)

  pub front_file : (k : ℕ) (left : Option Held) (name : List ℕ) (front : Option (List ℕ)) → name ≡ segment_file folder k → IfSome left (λ (held : Held). HasFront held name front) → LeavesFile folder k left (λ (has : Option (List ℕ)). BeginsWith has front)
  front_file k None name front named h = tt
  front_file k (Some held) name front named h = λ apart. subst (λ (x : List ℕ). HasFront held x front) named h

  -- ---- a segment is settled, and the file of the next one put there

  module _ (number k : ℕ) (name other : List ℕ) (named : name ≡ segment_file folder number) (next : other ≡ segment_file folder k) (after : k ≡ number + 1) (was mid made : Option Held) (text : Option (List ℕ)) (put : MayLeave mid made other text) where
    settled_earlier : (contents : Option (List ℕ)) → Leaves was mid name contents → LeavesEarlier folder number was made
    settled_earlier contents settled =
        left_then number was mid made (changes_left number number was mid name (λ (has : Option (List ℕ)). HasJust has contents) named (omega arith) settled) (may_left number k mid made other (λ (has : Option (List ℕ)). HasJust has text) next (omega (arith, after)) put)

    -- and opened; or the file that was settled is opened again
    pub put_earlier : (left : Option Held) (contents bytes : Option (List ℕ)) → Leaves was mid name contents → MayLeave made left other bytes → LeavesEarlier folder number was left
    put_earlier left contents bytes settled opened =
        left_then number was made left (settled_earlier contents settled) (may_left number k made left other (λ (has : Option (List ℕ)). HasJust has bytes) next (omega (arith, after)) opened)

    pub kept_earlier : (left : Option Held) (contents bytes : Option (List ℕ)) → Leaves was mid name contents → MayLeave made left name bytes → LeavesEarlier folder number was left
    kept_earlier left contents bytes settled opened =
        left_then number was made left (settled_earlier contents settled) (may_left number number made left name (λ (has : Option (List ℕ)). HasJust has bytes) named (omega arith) opened)

    settled_whole : (bytes : List ℕ) → Leaves was mid name (Some bytes) → LeavesFile folder number made (λ (has : Option (List ℕ)). has ≡ Some bytes)
    settled_whole bytes settled =
        file_on k number mid made (λ (has : Option (List ℕ)). has ≡ Some bytes) (omega (arith, after)) (may_left k k mid made other (λ (has : Option (List ℕ)). HasJust has text) next (omega arith) put)
        (file_here number was mid name (λ (has : Option (List ℕ)). has ≡ Some bytes) named settled)

    pub put_whole : (left : Option Held) (bytes : List ℕ) (there : Option (List ℕ)) → Leaves was mid name (Some bytes) → MayLeave made left other there → LeavesFile folder number left (λ (has : Option (List ℕ)). has ≡ Some bytes)
    put_whole left bytes there settled opened =
        file_on k number made left (λ (has : Option (List ℕ)). has ≡ Some bytes) (omega (arith, after)) (may_left k k made left other (λ (has : Option (List ℕ)). HasJust has there) next (omega arith) opened) (settled_whole bytes settled)

    pub kept_whole : (left : Option Held) (bytes : List ℕ) → Leaves was mid name (Some bytes) → MayLeave made left name (Some bytes) → LeavesFile folder number left (λ (has : Option (List ℕ)). has ≡ Some bytes)
    kept_whole left bytes settled opened = file_may number made left name (λ (has : Option (List ℕ)). has ≡ Some bytes) named opened (settled_whole bytes settled)

-- ---- numbers rise from part to part

module _ {S : Type 0} (A : AnsweringWith S) (G : Segmenting S) (folder : List ℕ) where
  ready_step : (kept : Option EndFault) (a b : Moment S) → IsReady G folder kept a b → (b.number ≡ a.number) ⊎ (b.number ≡ a.number + 1)
  ready_step None a b (inl h) = inl (ap (λ (m : Moment _). m.number) h.1)
  ready_step None a b (inr h) = inr h.1.number
  ready_step (Some why) a b h = inl h.1.number

  step_up : (m n : ℕ) → (n ≡ m) ⊎ (n ≡ m + 1) → m ≤ n
  step_up m n (inl e) = omega (arith, e)
  step_up m n (inr e) = omega (arith, e)

  parts_up : (a b : Moment S) (ps : List (Part S)) → AreParts A G folder a ps b → a.number ≤ b.number
  parts_up a b [] h = let same : b.number ≡ a.number = ap (λ (m : Moment _). m.number) h in omega (arith, same)
  parts_up a b (p ∷ ps) h =
      let one = step_up a.number p.from.number (ready_step p.kept a p.from h.0) in
      let same = h.1.number in
      let rest = parts_up p.to b ps h.2 in
      omega (arith, one, same, rest)

  -- ---- the segments that have ended

  whole_stays : (a b : Moment S) (ps : List (Part S)) → AreParts A G folder a ps b → (was is : Held) → ((m : ℕ) → m < b.number → bytes_of is (segment_file folder m) ≡ bytes_of was (segment_file folder m)) → AreWhole folder a ps was → AreWhole folder a ps is
  whole_stays a b [] served was is same h = tt
  whole_stays a b (p ∷ ps) served was is same h = (
    λ (up : p.from.number ≡ a.number + 1).
        let number = served.1.number in
        let rest = parts_up p.to b ps served.2 in
        same a.number (omega (arith, up, number, rest)) ∙ h.0 up,
    whole_stays p.to b ps served.2 was is same h.1,
  )

  whole_more : (a b : Moment S) (ps : List (Part S)) (p : Part S) (held : Held) → AreParts A G folder a ps b → (p.from.number ≡ b.number + 1 → bytes_of held (segment_file folder b.number) ≡ b.journal) → AreWhole folder a ps held → AreWhole folder a (ps ++ p ∷ []) held
  whole_more a b [] p held served new h = (subst (λ (m : Moment _). p.from.number ≡ m.number + 1 → bytes_of held (segment_file folder m.number) ≡ m.journal) served new, tt)
  whole_more a b (q ∷ qs) p held served new h = (h.0, whole_more q.to b qs p held served.2 new h.1)

-- where it is known what is left, and each segment has a file of its own
abbrev pub LeavesWhole : {S : Type 0} → List ℕ → Moment S → List (Part S) → Option Held → Type 0
LeavesWhole folder a ps left = IfSome left (λ (held : Held). AreApart folder held → AreWhole folder a ps held)

module _ {S : Type 0} (A : AnsweringWith S) (G : Segmenting S) (folder : List ℕ) where
  pub whole_keeps : (a b : Moment S) (ps : List (Part S)) → AreParts A G folder a ps b → (was is : Option Held) → LeavesEarlier folder b.number was is → LeavesWhole folder a ps was → LeavesWhole folder a ps is
  whole_keeps a b ps served None is k h = subst (λ (x : Option Held). LeavesWhole folder a ps x) (sym k) tt
  whole_keeps a b ps served (Some was) None k h = absurd k
  whole_keeps a b ps served (Some was) (Some is) k h = λ apart.
      let before = apart_back folder was is k.places apart in
      whole_stays A G folder a b ps served was is (k.files before) (h before)

  pub whole_then : (a b : Moment S) (ps : List (Part S)) (p : Part S) → AreParts A G folder a ps b → (left : Option Held) → (p.from.number ≡ b.number + 1 → LeavesFile folder b.number left (λ (has : Option (List ℕ)). has ≡ b.journal)) → LeavesWhole folder a ps left → LeavesWhole folder a (ps ++ p ∷ []) left
  whole_then a b ps p served None new h = tt
  whole_then a b ps p served (Some held) new h = λ apart. whole_more A G folder a b ps p held served (λ up. new up apart) (h apart)

  pub none_whole : (a : Moment S) (unread line : List ℕ) (input out : Option (List ℕ)) (none : unread ≡ []) (empty : line ≡ []) (left : Option Held) → LeavesWhole folder a (none_served A G folder a unread line input out none empty).parts left
  unfolding none_served
  none_whole a unread line input out none empty None = tt
  none_whole a unread line input out none empty (Some held) = λ apart. tt

  pub each_of : (a : Moment S) (ps : List (Part S)) (number : ℕ) (journal : List ℕ) (left : Option Held) → LeavesWhole folder a ps left → LeavesFile folder number left (λ (has : Option (List ℕ)). BeginsWith has (Some journal)) →
      IfSome left (λ (held : Held). AreApart folder held → AreWhole folder a ps held × HasFront held (segment_file folder number) (Some journal))
  each_of a ps number journal None whole front = tt
  each_of a ps number journal (Some held) whole front = λ apart. (whole apart, front apart)

-- ---- a part more

module _ {S : Type 0} (A : AnsweringWith S) (G : Segmenting S) (folder : List ℕ) (a b from : Moment S) (kept : Option EndFault) (unread line : List ℕ) (input middle out before : Option (List ℕ)) (d : Served A G folder a b unread line input middle out before) (ready : IsReady G folder kept b from) where
  pub one_whole : (end : Ending) (new : S) (files : Option Held) (journal : Option (List ℕ)) (number : ℕ) (left line' : List ℕ) (rest after : Option (List ℕ)) → (same : number ≡ from.number) →
      (p : ServesPart end (by_stand A) (stand_of from) (stand new files) d.begun unread left line' middle rest (record { journal = from.journal; out = before }) (record { journal = journal; out = after })) →
      (was is : Option Held) → LeavesEarlier folder b.number was is → (from.number ≡ b.number + 1 → LeavesFile folder b.number is (λ (has : Option (List ℕ)). has ≡ b.journal)) → LeavesWhole folder a d.parts was →
      LeavesWhole folder a (one_served A G folder a b from kept unread line input middle out before d ready end new files journal number left line' rest after same p).parts is
  unfolding one_served
  one_whole end new files journal number left line' rest after same p was is keeps ended whole =
      let t = p.rests.told in
      let part : Part S = record { kept = kept; from = from; to = moment_of new files number journal; lines = t.answered.lines; said = t.said; noted = t.noted } in
      whole_then A G folder a b d.parts part d.served is ended (whole_keeps A G folder a b d.parts d.served was is keeps whole)
