-- What the loop says of a service of rings, said of the rings.
use Rattle.std.proofs.Common.{◌≡◌, ℕ, false, not, ◌&&◌, List, [], ◌∷◌, ◌++◌, Option, None, Some, refl, sym, ap, subst, ◌∙◌}
use Rattle.std.specs.Prelude.{is_some}
use Rattle.std.specs.Borrow.{Bor}
use Rattle.std.specs.Option.{option_map}
use Rattle.std.proofs.lemmas.Bool.{false≢true}
use Rattle.std.proofs.lemmas.List.{append-nil}
use Rattle.disks.specs.Held.{Held}
use Rattle.line_service.specs.declared.faults.Ending.{Ending}
use Rattle.line_service.specs.declared.faults.Ending.TheVariants as ending
use Rattle.line_service.specs.Answering as lined
use Rattle.line_service.specs.Loop.{Written}
use Rattle.line_service.specs.Loop as loop
use Rattle.line_service.specs.Stands.{Stand, stand, by_stand}
use Rattle.ring_service.specs.declared.permits.Permits.{Permits}
use Rattle.ring_service.specs.declared.rules.Rules.{Rules}
use Rattle.ring_service.specs.Permits.{Terms, terms_of as file_terms, terms_by, is_shut}
use Rattle.ring_service.specs.Rules.{file_rules}
use Rattle.ring_service.specs.Due.{is_due}
use Rattle.ring_service.specs.Standings.{Standing}
use Rattle.ring_service.specs.Services.{ServiceView, service_by, terms_of, is_over, IsServed}
use Rattle.ring_service.specs.Serving.{IsAnswered, Answers, Stops, ServesAll, ServesSome}

-- the rings, with the files
abbrev rings_of : Stand ServiceView → Stand (List Standing)
rings_of s = stand s.service.rings s.files

-- ---- the rules stay the same

pub answers_of : (old new : Stand ServiceView) (lines : List (List ℕ)) (said noted : List ℕ) → lined.Answers (by_stand IsServed) old lines said noted new →
    Answers (terms_of old.service) old.service.rings old.files lines said noted new.service.rings new.files × (new.service.rules ≡ old.service.rules)
answers_of old new [] said noted h = (
  (h.0, h.1, ap rings_of h.2),
  ap (λ (s : Stand ServiceView). s.service.rules) h.2,
)
answers_of old new (line ∷ lines) said noted h =
    let mid : Stand ServiceView = h.0 in
    let one : IsServed old.service old.files line h.1 h.3 mid.service mid.files = h.5 in
    let rest = answers_of mid new lines h.2 h.4 h.8 in (
      (rings_of mid, h.1, h.2, h.3, h.4, one.answered, h.6, h.7, subst (λ (r : Rules). Answers (terms_by r) mid.service.rings mid.files lines h.2 h.4 new.service.rings new.files) one.rules rest.0),
      rest.1 ∙ one.rules,
    )

are_answered : {old new : Stand ServiceView} {bytes rest said noted : List ℕ} → lined.AreAnswered (by_stand IsServed) old bytes rest said noted new →
    lined.AreAnswered (by_stand (IsAnswered (terms_of old.service))) (rings_of old) bytes rest said noted (rings_of new) × (new.service.rules ≡ old.service.rules)
are_answered {old} {new} {bytes} {rest} {said} {noted} a =
    let all = answers_of old new a.lines said noted a.answers in
    (record { lines = a.lines; split = a.split; each = a.each; answers = all.0 }, all.1)

stops_of : {old new : Stand ServiceView} {before after : Written} {bytes : List ℕ} → loop.Stops (by_stand IsServed) old before after bytes new → Stops (terms_of old.service) old.service.rings old.files before after bytes new.service.rings new.files
stops_of {old} {new} {before} {after} {bytes} s =
    let told = are_answered s.told in
    let untold = are_answered s.untold in
    record {
      mid = rings_of s.mid;
      behind = s.behind;
      rest = s.rest;
      said = s.said;
      noted = s.noted;
      unsaid = s.unsaid;
      front = s.front;
      back = s.back;
      left = s.left;
      told = told.0;
      untold = subst (λ (r : Rules). lined.AreAnswered (by_stand (IsAnswered (terms_by r))) (rings_of s.mid) s.behind s.rest s.unsaid (s.front ++ s.back) (rings_of new)) told.1 untold.0;
      wrote = s.wrote;
      wrote_notes = s.wrote_notes;
    }

-- ---- a reader's lines, in one part

-- all of them
all_of : (end : Ending) (old new : ServiceView) (was is : Option Held) (unread left line : List ℕ) (input rest : Option (List ℕ)) (before after : Written) → unread ≡ [] → end ≡ ending.End →
    loop.ServesPart end (by_stand IsServed) (stand old was) (stand new is) [] unread left line input rest before after → loop.IsEnding end (is_over new) false left rest →
    ServesAll (terms_of old) old.rings new.rings was is input rest before after
all_of end old new was is unread left line input rest before after none at_end p ends =
    let e = subst (λ (x : Ending). loop.IsEnding x (is_over new) false left rest) at_end ends in
    let all : p.taken ≡ p.read = sym (append-nil p.taken) ∙ (ap (λ (x : List ℕ). p.taken ++ x) (sym e.0) ∙ (sym p.split ∙ ap (λ (x : List ℕ). x ++ p.read) none)) in
    let t = p.rests.told in
    let answered = (are_answered t.answered).0 in
    let told : loop.AreTold (by_stand (IsAnswered (terms_of old))) (stand old.rings was) before after p.taken p.rests.begun (stand new.rings is) = record { said = t.said; noted = t.noted; answered = answered; wrote = t.wrote; wrote_notes = t.wrote_notes } in
    record {
      bytes = p.read;
      begun = p.rests.begun;
      read = p.consumed;
      ended = e.1;
      partial = p.rests.partial;
      told = subst (λ (x : List ℕ). loop.AreTold (by_stand (IsAnswered (terms_of old))) (stand old.rings was) before after x p.rests.begun (stand new.rings is)) all told;
    }

-- or some of them
some_of : (old new : ServiceView) (was is : Option Held) (unread : List ℕ) (input rest : Option (List ℕ)) (before after : Written) → unread ≡ [] →
    loop.ServesSomeOf (by_stand IsServed) (stand old was) (stand new is) [] unread input rest before after → ServesSome (terms_of old) old.rings new.rings was is input rest before after
some_of old new was is unread input rest before after none s =
    (s.0, s.1, subst (λ (x : List ℕ). Stops (terms_of old) old.rings was before after (x ++ s.0) new.rings is) none (stops_of s.2))

-- ---- without segments

no_limit : (rules : Rules) (rings : List Standing) → rules.limit ≡ None → is_shut (terms_by rules) rings ≡ false
no_limit rules rings e = ap (λ (l : Option ℕ). is_due l rings && not (is_some rules.refusing)) e

pub never_over : (v : ServiceView) (rules : Rules) (rings : List Standing) → v ≡ service_by rules rings → rules.limit ≡ None → is_over v ≡ false
never_over v rules rings e none = no_limit v.rules v.rings (ap (λ (x : ServiceView). x.rules.limit) e ∙ none)

-- a part ends with the input
at_end : (end : Ending) (old new : ServiceView) (was is : Option Held) (unread left line : List ℕ) (input rest : Option (List ℕ)) (before after : Written) → old.rules.limit ≡ None →
    loop.ServesPart end (by_stand IsServed) (stand old was) (stand new is) [] unread left line input rest before after → loop.IsEnding end (is_over new) false left rest → end ≡ ending.End
at_end ending.End old new was is unread left line input rest before after none p e = refl
at_end ending.Over old new was is unread left line input rest before after none p e =
    let same : new.rules ≡ old.rules = (are_answered p.rests.told.answered).1 in
    absurd (false≢true (sym (no_limit new.rules new.rings (ap (λ (r : Rules). r.limit) same ∙ none)) ∙ e))
at_end ending.Block old new was is unread left line input rest before after none p e = absurd (false≢true e)

-- the terms in a file
terms_in_file : (name : Option (Bor (List ℕ))) (permits : Permits) → terms_by (file_rules name permits) ≡ file_terms (option_map (λ (n : Bor (List ℕ)). n.now) name) permits
terms_in_file None permits = refl
terms_in_file (Some name) permits = refl

-- ---- what a reader gave, with a journal in a file

module _ (name : Option (Bor (List ℕ))) {named : Option (List ℕ)} (permits : Permits) {v : ServiceView} (new : ServiceView) {held rings end : List Standing} (is_named : option_map (λ (n : Bor (List ℕ)). n.now) name ≡ named) (is_v : v ≡ service_by (file_rules name permits) held) (is_held : held ≡ rings)
    (is_end : end ≡ new.rings) where
  -- the same rings, on the same terms, with the same journal
  moved : (P : Terms → List Standing → List Standing → Option (List ℕ) → Option (List ℕ) → Type 0) (had has j k : Option (List ℕ)) → had ≡ j → k ≡ has → P (terms_of v) v.rings new.rings had has → P (file_terms named permits) rings end j k
  moved P had has j k a b p =
      let terms : terms_by (file_rules name permits) ≡ file_terms named permits = terms_in_file name permits ∙ ap (λ (n : Option (List ℕ)). file_terms n permits) is_named in
      let there = subst (λ (x : ServiceView). P (terms_of x) x.rings new.rings had has) is_v p in
      let begun = subst (λ (x : List Standing). P (file_terms named permits) x new.rings had has) is_held (subst (λ (t : Terms). P t held new.rings had has) terms there) in
      subst (λ (y : Option (List ℕ)). P (file_terms named permits) rings end j y) (sym b) (subst (λ (y : Option (List ℕ)). P (file_terms named permits) rings end y has) a (subst (λ (x : List Standing). P (file_terms named permits) rings x had has) (sym is_end) begun))

  pub served_all : {was is : Option Held} {last : Ending} {unread left line : List ℕ} {input rest out told had has j k : Option (List ℕ)} → had ≡ j → k ≡ has → unread ≡ [] →
      loop.ServesPart last (by_stand IsServed) (stand v was) (stand new is) [] unread left line input rest (record { journal = had; out = out }) (record { journal = has; out = told }) → loop.IsEnding last (is_over new) false left rest →
      ServesAll (file_terms named permits) rings end was is input rest (record { journal = j; out = out }) (record { journal = k; out = told })
  served_all {was} {is} {last} {unread} {left} {line} {input} {rest} {out} {told} {had} {has} {j} {k} a b none part ends =
      let before : Written = record { journal = had; out = out } in
      let after : Written = record { journal = has; out = told } in
      let limit : v.rules.limit ≡ None = ap (λ (x : ServiceView). x.rules.limit) is_v in
      let over = at_end last v new was is unread left line input rest before after limit part ends in
      moved (λ (t : Terms) (old now : List Standing) (x y : Option (List ℕ)). ServesAll t old now was is input rest (record { journal = x; out = out }) (record { journal = y; out = told })) had has j k a b
      (all_of last v new was is unread left line input rest before after none over part ends)

  pub served_some : {was is : Option Held} {unread : List ℕ} (input rest : Option (List ℕ)) {out told had has j k : Option (List ℕ)} → had ≡ j → k ≡ has → unread ≡ [] →
      loop.ServesSomeOf (by_stand IsServed) (stand v was) (stand new is) [] unread input rest (record { journal = had; out = out }) (record { journal = has; out = told }) →
      ServesSome (file_terms named permits) rings end was is input rest (record { journal = j; out = out }) (record { journal = k; out = told })
  served_some {was} {is} {unread} input rest {out} {told} {had} {has} {j} {k} a b none s =
      moved (λ (t : Terms) (old now : List Standing) (x y : Option (List ℕ)). ServesSome t old now was is input rest (record { journal = x; out = out }) (record { journal = y; out = told })) had has j k a b
      (some_of v new was is unread input rest (record { journal = had; out = out }) (record { journal = has; out = told }) none s)
