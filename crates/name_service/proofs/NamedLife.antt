-- Lines that are delivered in parts are inputs of one machine with names.
use Rattle.std.proofs.Common.{◌≡◌, ℕ, zero, suc, ◌+◌, ◌≤◌, false, List, [], ◌∷◌, ◌++◌, map, length, Option, None, Some, inl, inr, refl, sym, ap, subst, ◌∙◌, append_assoc, arith}
use Rattle.std.specs.Prelude.{not}
use Rattle.std.specs.List.{AllByRecursion}
use Rattle.std.proofs.lemmas.List.{length-append, length-map}
use Rattle.std.proofs.lemmas.List.Elements.{filter-append}
use Rattle.disks.specs.Held.{Held}
use Rattle.line_service.specs.Answering.{IsLine, Answers, joined_lines}
use Rattle.line_service.specs.Stands.{Stand, by_stand, stand}
use Rattle.line_service.specs.declared.segmented.EndFault.{EndFault}
use Rattle.line_service.specs.Segments.{Moment, stand_of, IsReady}
use Rattle.line_service.specs.Service.{Part, AreParts, all_lines, all_said}
use Rattle.line_replica.specs.declared.replica.Replica.{Replica}
use Rattle.line_replica.specs.Log.{Numbers, numbers_of, given}
use Rattle.line_replica.specs.Keys.{Table}
use Rattle.line_replica.specs.Reading.{heard}
use Rattle.line_replica.specs.Replies.{IsReplied}
use Rattle.line_replica.specs.State.{lines_of, is_state}
use Rattle.line_replica.proofs.Given.{whole_at, whole_line}
use Rattle.line_replica.proofs.Saying.{read}
use Rattle.ring_model.specs.History.{State}
use Rattle.ring_state.specs.Sizes.{Size}
use Rattle.held_locks.specs.Kept.{lock_of, state_of}
use Rattle.fresh_rings.specs.Fresh.{pool_ring}
use Rattle.lock_names.specs.Names.{Named, NamedInput, More, free_lock, named_after, step_named}
use Rattle.lock_names.specs.Promises.{IsAllowed, AreAllowed}
use Rattle.lock_names.specs.Kept.{NamedView, named_of}
use Rattle.lock_journal.specs.Replicas.{AreToldAround, AreToldAfter, others_of}
use Rattle.lock_journal.proofs.Replicas.{numbers_all, given_then, around_then, after_then, each_other}
use Rattle.name_service.specs.declared.service.NameService.{NameService}
use Rattle.name_service.specs.declared.service.NameTerms.{NameTerms}
use Rattle.name_service.specs.Serving.{IsNameLineAnswered, IsNameServed}
use Rattle.name_service.specs.Growth.{HasFreshRing, AreGrown, AreNextGrown}
use Rattle.name_service.specs.State.{name_state_lines}
use Rattle.name_service.specs.Life.{NamesService, names_answering, names_by_segments, machine_in, FixedAreFirst, lines_in, HasGrown, said_of, AreHeard, AreStretches, IsNamedLife, PartsAreNamedLife, EmptyPartsGrow}
use Rattle.name_service.proofs.Heard.{after_both, allowed_both, AreLinesHeard, lines_heard}
use Rattle.name_service.proofs.OtherLines.{other_lines}
use Rattle.name_service.proofs.NamedReplicas.{IsOwnLine, lines_bring}
use Rattle.name_service.proofs.NamedRuns.{all_taken}
use Rattle.name_service.proofs.FreshRings.{added_settled, added_ring}

-- ---- the pool grows

one_more : (size : Size) (old new : NamedView) → HasFreshRing size old new → FixedAreFirst (named_of old) → (a : State ℕ) × IsAllowed (named_of old) (More a) × (named_of new ≡ (step_named (named_of old) (More a)).named)
one_more size old new g first =
    let e = g.ring in
    let a = g.added.added in (
      state_of a.ring,
      (added_ring (pool_ring size) e old.locks new.locks g.kept g.fresh a, added_settled (pool_ring size) e old.locks new.locks g.kept g.fresh a, first),
      g.added.named,
    )

-- rings come after those of the fixed locks, whichever more there are
still_first : (s : Named) (a : State ℕ) → FixedAreFirst s → FixedAreFirst (step_named s (More a)).named
still_first s a first =
    let before : s.fixed ≤ length s.locks = first in
    let many : length (s.locks ++ free_lock a ∷ []) ≡ length s.locks + 1 = length-append s.locks (free_lock a ∷ []) in
    let after : s.fixed ≤ length (s.locks ++ free_lock a ∷ []) = omega (arith, before, many) in
    after

pub firsts : (s : Named) (rings : List (State ℕ)) → FixedAreFirst s → FixedAreFirst (named_after s (map More rings))
firsts s [] first = first
firsts s (a ∷ rings) first = firsts (step_named s (More a)).named rings (still_first s a first)

map_both : (xs ys : List (State ℕ)) → map More (xs ++ ys) ≡ map More xs ++ map More ys
map_both [] ys = refl
map_both (x ∷ xs) ys = ap (λ (is : List NamedInput). More x ∷ is) (map_both xs ys)

-- rings after rings
grown_more : (s t u : Named) (rings others : List (State ℕ)) → HasGrown s rings t → HasGrown t others u → HasGrown s (rings ++ others) u
grown_more s t u rings others a b =
    let later : AreAllowed (named_after s (map More rings)) (map More others) = subst (λ (m : Named). AreAllowed m (map More others)) a.is b.allowed in record {
      allowed = subst (λ (is : List NamedInput). AreAllowed s is) (sym (map_both rings others)) (allowed_both s (map More rings) (map More others) a.allowed later);
      is =
          b.is
          ∙ (ap (λ (m : Named). named_after m (map More others)) a.is
          ∙ (sym (after_both s (map More rings) (map More others)) ∙ ap (λ (is : List NamedInput). named_after s is) (sym (map_both rings others))));
    }

many_more : (size : Size) (old : NamedView) (n : ℕ) (new : NamedView) → FixedAreFirst (named_of old) → AreGrown size old n new → (rings : List (State ℕ)) × HasGrown (named_of old) rings (named_of new)
many_more size old zero new first g = ([], record { allowed = tt; is = ap (λ (v : NamedView). named_of v) g })
many_more size old (suc n) new first g =
    let s : Named = named_of old in
    let before = many_more size old n g.0 first g.1 in
    let mid : FixedAreFirst (named_of g.0) = subst (λ (m : Named). FixedAreFirst m) (sym before.1.is) (firsts s before.0 first) in
    let one = one_more size g.0 new g.2 mid in
    (before.0 ++ one.0 ∷ [], grown_more s (named_of g.0) (named_of new) before.0 (one.0 ∷ []) before.1 (record { allowed = (one.1, tt); is = one.2 }))

grown_next : (most : ℕ) (size : Size) (old new : NamedView) → FixedAreFirst (named_of old) → AreNextGrown most size old new → (rings : List (State ℕ)) × HasGrown (named_of old) rings (named_of new)
grown_next most size old new first n =
    let same : named_of n.mid ≡ named_of old = n.continues.named in
    let more = many_more size n.mid _ new (subst (λ (m : Named). FixedAreFirst m) (sym same) first) n.grown in
    (more.0, subst (λ (m : Named). HasGrown m more.0 (named_of new)) same more.1)

-- ---- before lines are answered

-- the machine got rings, and the keys of the replica are the same
record IsReadied (a b : NamesService) : Type 0 where
  rings : List (State ℕ)
  grown : HasGrown (machine_in a) rings (machine_in b)
  keys : numbers_of b.inner.numbered.keys ≡ numbers_of a.inner.numbered.keys

nothing_more : (s t : Named) → t ≡ s → HasGrown s [] t
nothing_more s t e = record { allowed = tt; is = e }

readied : (folder : List ℕ) (kept : Option EndFault) (a b : Moment NamesService) → FixedAreFirst (machine_in a.service) → IsReady names_by_segments folder kept a b → IsReadied a.service b.service
readied folder None a b first (inl h) = record {
  rings = [];
  grown = nothing_more (machine_in a.service) (machine_in b.service) (ap (λ (m : Moment NamesService). machine_in m.service) h.1);
  keys = ap (λ (m : Moment NamesService). numbers_of m.service.inner.numbered.keys) h.1;
}
readied folder None a b first (inr h) =
    let f = h.1.file.follows in
    let g = grown_next _ _ _ _ first f.0.names in record {
      rings = g.0;
      grown = g.1;
      keys = ap (λ (t : Table). numbers_of t) f.1.keys;
    }
readied folder (Some why) a b first h =
    let k = h.1.kept in record {
      rings = [];
      grown = nothing_more (machine_in a.service) (machine_in b.service) (ap (λ (s : NameService). named_of s.segment.named) k.0);
      keys = ap (λ (t : Table). numbers_of t) k.1.keys;
    }

-- ---- where no line is delivered

some_byte : (b : ℕ) (bs : List ℕ) → b ∷ bs ≡ [] → ⊥
some_byte b bs e = let none : length (b ∷ bs) ≡ 0 = ap (λ (u : List ℕ). length u) e in omega (arith, none)

pub none_in : (xs ys : List ℕ) → xs ++ ys ≡ [] → (xs ≡ []) × (ys ≡ [])
none_in [] ys e = (refl, e)
none_in (x ∷ xs) ys e = absurd (some_byte x (xs ++ ys) e)

no_line : (line : List ℕ) → IsLine line → line ≡ [] → ⊥
no_line [] is e = is
no_line (b ∷ bs) is e = some_byte b bs e

no_lines : (all : List (List ℕ)) → AllByRecursion IsLine all → joined_lines all ≡ [] → all ≡ []
no_lines [] each e = refl
no_lines (line ∷ all) each e = absurd (no_line line each.0 (none_in line (joined_lines all) e).0)

unanswered : (old new : Stand NamesService) (all : List (List ℕ)) (said noted : List ℕ) → all ≡ [] → Answers (by_stand names_answering) old all said noted new → machine_in new.service ≡ machine_in old.service
unanswered old new [] said noted e a = ap (λ (s : Stand NamesService). machine_in s.service) a.2
unanswered old new (line ∷ all) said noted e a = let none : length (line ∷ all) ≡ 0 = ap (λ (ls : List (List ℕ)). length ls) e in absurd (omega (arith, none))

pub empty_parts_grow : EmptyPartsGrow
empty_parts_grow folder a b [] first none h = ([], nothing_more (machine_in a.service) (machine_in b.service) (ap (λ (m : Moment NamesService). machine_in m.service) h))
empty_parts_grow folder a b (p ∷ ps) first none h =
    let r = readied folder p.kept a p.from first h.0 in
    let s : Named = machine_in a.service in
    let split = none_in (joined_lines p.lines) (all_lines ps) none in
    let same : machine_in p.to.service ≡ machine_in p.from.service = unanswered (stand_of p.from) (stand_of p.to) p.lines p.said p.noted (no_lines p.lines h.1.each split.0) h.1.answers in
    let grown : HasGrown s r.rings (machine_in p.to.service) = subst (λ (m : Named). HasGrown s r.rings m) (sym same) r.grown in
    let more = empty_parts_grow folder p.to b ps (subst (λ (m : Named). FixedAreFirst m) (sym grown.is) (firsts s r.rings first)) split.1 h.2 in
    (r.rings ++ more.0, grown_more s (machine_in p.to.service) (machine_in b.service) r.rings more.0 grown more.1)

-- ---- lines of one part

served_lines : (old new : Stand NameService) (all : List (List ℕ)) (said noted : List ℕ) → Answers (by_stand IsNameServed) old all said noted new → Answers (IsNameLineAnswered old.service.terms) old.service.segment all said noted new.service.segment
served_lines old new [] said noted a = (a.0, a.1, ap (λ (s : Stand NameService). s.service.segment) a.2)
served_lines old new (line ∷ all) said noted a = (
  a.0.service.segment,
  a.1,
  a.2,
  a.3,
  a.4,
  a.5.answered,
  a.6,
  a.7,
  subst (λ (t : NameTerms). Answers (IsNameLineAnswered t) a.0.service.segment all a.2 a.4 new.service.segment) a.5.terms (served_lines a.0 new all a.2 a.4 a.8),
)

-- rings of fixed locks stay the first
served_first : (old new : Stand NameService) (all : List (List ℕ)) (said noted : List ℕ) → Answers (by_stand IsNameServed) old all said noted new → FixedAreFirst (named_of old.service.segment.named) → FixedAreFirst (named_of new.service.segment.named)
served_first old new [] said noted a first = subst (λ (s : Stand NameService). FixedAreFirst (named_of s.service.segment.named)) (sym a.2) first
served_first old new (line ∷ all) said noted a first = served_first a.0 new all a.2 a.4 a.8 (firsts_kept a.0.service.segment.named a.5.kept.names.places)
  where
    firsts_kept : (v : NamedView) → v.fixed ≤ length v.locks → FixedAreFirst (named_of v)
    firsts_kept v places = subst (λ (n : ℕ). v.fixed ≤ n) (sym (length-map v.locks lock_of)) places

keys_all : (old new : Replica NameService) (was is : Option Held) (all : List (List ℕ)) (said noted : List ℕ) → AllByRecursion IsLine all → Answers (by_stand (IsReplied IsNameServed)) (stand old was) all said noted (stand new is) → new.lost ≡ false →
    numbers_of new.numbered.keys ≡ numbers_all (numbers_of old.numbered.keys) all
keys_all old new was is [] said noted each a whole = ap (λ (s : Stand (Replica NameService)). numbers_of s.service.numbered.keys) a.2
keys_all old new was is (line ∷ all) said noted each a whole =
    let mid = a.0 in
    let w = whole_at IsNameServed mid.service new mid.files is all a.2 a.4 a.8 whole in
    let brings = lines_bring old.running.since old.numbered.inner mid.service.numbered.inner was mid.files line a.1 each.0 in
    let now = read IsNameServed IsOwnLine old mid.service was mid.files line a.1 a.3 brings (heard line) refl (whole_line IsNameServed old mid.service was mid.files line a.1 a.3 a.5 w) in
    keys_all mid.service new mid.files is all a.2 a.4 each.1 a.8 whole ∙ ap (λ (n : Numbers). numbers_all n all) now.numbers_are

-- what the replica said of them, and the names inside
record IsPartHeard (old new : NamesService) (all : List (List ℕ)) (said : List ℕ) : Type 0 where
  replied : List ℕ
  after : AreToldAfter all said replied
  told : List ℕ
  around : AreToldAround (numbers_of old.inner.numbered.keys) (others_of all) replied told
  lines : AreLinesHeard (machine_in old) (given (numbers_of old.inner.numbered.keys) (others_of all)) told (machine_in new)
  keys : numbers_of new.inner.numbered.keys ≡ numbers_all (numbers_of old.inner.numbered.keys) (others_of all)
  first : FixedAreFirst (machine_in old) → FixedAreFirst (machine_in new)

part_heard : (old new : NamesService) (was is : Option Held) (all : List (List ℕ)) (said noted : List ℕ) → AllByRecursion IsLine all → Answers (by_stand names_answering) (stand old was) all said noted (stand new is) → new.inner.lost ≡ false → IsPartHeard old new all said
part_heard old new was is all said noted each a whole =
    let o = other_lines (IsReplied IsNameServed) (lines_of name_state_lines) (stand old was) (stand new is) all said noted a in
    let others = each_other all each in
    let t = all_taken old.inner new.inner was is (others_of all) o.told noted others o.answered whole in
    let g : List (List ℕ) = given (numbers_of old.inner.numbered.keys) (others_of all) in
    let from = stand old.inner.numbered.inner was in
    let to = stand new.inner.numbered.inner is in
    let s = served_lines from to g t.told t.inside t.answered in record {
      replied = o.told;
      after = o.after;
      told = t.told;
      around = t.around;
      lines = lines_heard old.inner.numbered.inner.terms old.inner.numbered.inner.segment new.inner.numbered.inner.segment g t.told t.inside s;
      keys = keys_all old.inner new.inner was is (others_of all) o.told noted others o.answered whole;
      first = served_first from to g t.told t.inside t.answered;
    }

-- no answer was lost before them
whole_before : (old new : NamesService) (was is : Option Held) (all : List (List ℕ)) (said noted : List ℕ) → Answers (by_stand names_answering) (stand old was) all said noted (stand new is) → new.inner.lost ≡ false → old.inner.lost ≡ false
whole_before old new was is all said noted a whole =
    let o = other_lines (IsReplied IsNameServed) (lines_of name_state_lines) (stand old was) (stand new is) all said noted a in
    whole_at IsNameServed old.inner new.inner was is (others_of all) o.told noted o.answered whole

-- ---- parts, one after the other

others_both : (xs ys : List (List ℕ)) → others_of (xs ++ ys) ≡ others_of xs ++ others_of ys
others_both xs ys = filter-append (λ (line : List ℕ). not (is_state line)) xs ys

-- no answer was lost up to their last moment, and so none before
ready_lost : (folder : List ℕ) (kept : Option EndFault) (a b : Moment NamesService) → IsReady names_by_segments folder kept a b → b.service.inner.lost ≡ a.service.inner.lost
ready_lost folder None a b (inl h) = ap (λ (m : Moment NamesService). m.service.inner.lost) h.1
ready_lost folder None a b (inr h) = h.1.file.follows.1.lost
ready_lost folder (Some why) a b h = h.1.kept.1.lost

parts_whole : (folder : List ℕ) (a b : Moment NamesService) (ps : List (Part NamesService)) → AreParts names_answering names_by_segments folder a ps b → b.service.inner.lost ≡ false → a.service.inner.lost ≡ false
parts_whole folder a b [] h w = ap (λ (m : Moment NamesService). m.service.inner.lost) (sym h) ∙ w
parts_whole folder a b (p ∷ ps) h w =
    let to = parts_whole folder p.to b ps h.2 w in
    let from = whole_before p.from.service p.to.service p.from.files p.to.files p.lines p.said p.noted h.1.answers to in
    sym (ready_lost folder p.kept a p.from h.0) ∙ from

-- a part, and those after it
module _ (a p_from p_to b : NamesService) (all more : List (List ℕ)) (said later : List ℕ) (rings : List (State ℕ)) (grown : HasGrown (machine_in a) rings (machine_in p_from)) (keys : numbers_of p_from.inner.numbered.keys ≡ numbers_of a.inner.numbered.keys)
    (l : IsPartHeard p_from p_to all said) (rest_is : List NamedInput) (rest : IsNamedLife p_to b more later rest_is) where
  abbrev S : Named
  S = machine_in a

  abbrev N : Numbers
  N = numbers_of a.inner.numbered.keys

  abbrev Mores : List NamedInput
  Mores = map More rings

  -- the machine after the lines of the part
  to_is : machine_in p_to ≡ named_after S (Mores ++ l.lines.is)
  to_is = l.lines.ends ∙ (ap (λ (m : Named). named_after m l.lines.is) grown.is ∙ sym (after_both S Mores l.lines.is))

  abbrev xs : List (List ℕ)
  xs = others_of all

  abbrev ys : List (List ℕ)
  ys = others_of more

  later_numbers : numbers_of p_to.inner.numbered.keys ≡ numbers_all N xs
  later_numbers = l.keys ∙ ap (λ (n : Numbers). numbers_all n xs) keys

  joined : IsNamedLife a b (all ++ more) (said ++ later) (Mores ++ (l.lines.is ++ rest_is))
  joined = record {
    run = record { rings = rings; told = given N xs; out = l.told } ∷ rest.run;
    heard = (
      l.lines.is,
      rest_is,
      subst (λ (m : Named). AreHeard m (given N xs) l.told l.lines.is) grown.is (subst (λ (n : Numbers). AreHeard (machine_in p_from) (given n xs) l.told l.lines.is) keys l.lines.heard),
      refl,
      subst (λ (m : Named). AreStretches m rest.run rest_is) to_is rest.heard,
    );
    allowed = allowed_both S Mores (l.lines.is ++ rest_is) grown.allowed
        (subst (λ (m : Named). AreAllowed m (l.lines.is ++ rest_is)) grown.is
        (allowed_both (machine_in p_from) l.lines.is rest_is l.lines.allowed (subst (λ (m : Named). AreAllowed m rest_is) l.lines.ends rest.allowed)));
    ends =
        rest.ends
        ∙ (ap (λ (m : Named). named_after m rest_is) to_is
        ∙ (sym (after_both S (Mores ++ l.lines.is) rest_is) ∙ ap (λ (is : List NamedInput). named_after S is) (append_assoc Mores l.lines.is rest_is)));
    told =
        ap (λ (ls : List (List ℕ)). given N xs ++ ls) (rest.told ∙ ap (λ (n : Numbers). given n ys) later_numbers)
        ∙ (sym (given_then N xs ys) ∙ ap (λ (ls : List (List ℕ)). given N ls) (sym (others_both all more)));
    replied = l.replied ++ rest.replied;
    replied_so = after_then all more said later l.replied rest.replied l.after rest.replied_so;
    said_so = subst (λ (ls : List (List ℕ)). AreToldAround N ls (l.replied ++ rest.replied) (l.told ++ said_of rest.run)) (sym (others_both all more))
        (around_then N xs ys l.replied rest.replied l.told (said_of rest.run) (subst (λ (n : Numbers). AreToldAround n xs l.replied l.told) keys l.around)
        (subst (λ (n : Numbers). AreToldAround n ys rest.replied (said_of rest.run)) later_numbers rest.said_so));
  }

none_told : (s : NamesService) → IsNamedLife s s [] [] []
none_told s = record {
  run = [];
  heard = refl;
  allowed = tt;
  ends = refl;
  told = refl;
  replied = [];
  replied_so = (refl, refl);
  said_so = (refl, refl);
}

pub parts_are_named_life : PartsAreNamedLife
parts_are_named_life folder a b [] first whole h = ([], subst (λ (m : Moment NamesService). IsNamedLife a.service m.service [] [] []) (sym h) (none_told a.service))
parts_are_named_life folder a b (p ∷ ps) first whole h =
    let r = readied folder p.kept a p.from first h.0 in
    let from : FixedAreFirst (machine_in p.from.service) = subst (λ (m : Named). FixedAreFirst m) (sym r.grown.is) (firsts (machine_in a.service) r.rings first) in
    let l = part_heard p.from.service p.to.service p.from.files p.to.files p.lines p.said p.noted h.1.each h.1.answers (parts_whole folder p.to b ps h.2 whole) in
    let more = parts_are_named_life folder p.to b ps (l.first from) whole h.2 in
    (map More r.rings ++ (l.lines.is ++ more.0), joined a.service p.from.service p.to.service b.service p.lines (lines_in ps) p.said (all_said ps) r.rings r.grown r.keys l more.0 more.1)
