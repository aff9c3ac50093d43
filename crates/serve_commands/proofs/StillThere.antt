-- What the journal's file holds while lines are served: no line replaces it.
use Rattle.std.proofs.Common.{◌≡◌, ◌∙◌, ℕ, List, [], ◌∷◌, Option, None, Some, refl, sym, ap, subst, inl, inr}
use Rattle.std.specs.Prelude.{IfSome, ⊤}
use Rattle.disks.specs.Held.{Held, bytes_of, Replaces, IsHeld}
use Rattle.line_service.specs.Loop.{Written}
use Rattle.line_service.specs.Stands.{Stand}
use Rattle.ring_service.specs.Permits.{Terms}
use Rattle.ring_service.specs.Standings.{Standing}
use Rattle.ring_service.specs.Starts.{HaveChanged, answered_changed}
use Rattle.ring_service.specs.Serving.{IsApartFrom, IsAnswered, Answers, Stops}
use Rattle.serve_commands.specs.Served.{IsServedPart}

-- the file of this name has the content that it had, where that is known
abbrev HoldsStill : Option Held → Option Held → List ℕ → Type 0
HoldsStill None is name = ⊤
HoldsStill (Some was) None name = ⊥
HoldsStill (Some was) (Some is) name = bytes_of is name ≡ bytes_of was name

as_it_was : (files : Option Held) (name : List ℕ) → HoldsStill files files name
as_it_was None name = tt
as_it_was (Some held) name = refl

same : (was is : Option Held) (name : List ℕ) → is ≡ was → HoldsStill was is name
same was is name e = subst (λ (x : Option Held). HoldsStill was x name) (sym e) (as_it_was was name)

both : (was mid is : Option Held) (name : List ℕ) → HoldsStill was mid name → HoldsStill mid is name → HoldsStill was is name
both None mid is name h k = tt
both (Some was) None is name h k = absurd h
both (Some was) (Some mid) None name h k = absurd k
both (Some was) (Some mid) (Some is) name h k = k ∙ h

replaced : (was is : Option Held) (name file bytes : List ℕ) → IsApartFrom was (Some name) file → Replaces was is file (Some bytes) → HoldsStill was is name
replaced None is name file bytes apart r = tt
replaced (Some was) None name file bytes apart r = absurd r
replaced (Some was) (Some is) name file bytes apart r = r.others name (λ one. apart (sym one))

changed_still : (journal : Option (List ℕ)) (name : List ℕ) (was is : Option Held) → journal ≡ Some name → HaveChanged journal was is → HoldsStill was is name
changed_still journal name was is named (inl e) = same was is name e
changed_still journal name was is named (inr r) = replaced was is name r.0 r.1 (subst (λ (j : Option (List ℕ)). IsApartFrom was j r.0) named r.3) r.2

answers_still : (terms : Terms) (name : List ℕ) (old new : List Standing) (was is : Option Held) (lines : List (List ℕ)) (said noted : List ℕ) → terms.journal ≡ Some name → Answers terms old was lines said noted new is → HoldsStill was is name
answers_still terms name old new was is [] said noted named h = same was is name (ap (λ (x : Stand (List Standing)). x.files) h.2)
answers_still terms name old new was is (line ∷ lines) said noted named h =
    let mid : List Standing = h.0.service in
    let between : Option Held = h.0.files in
    let one : IsAnswered terms old was line h.1 h.3 mid between = h.5 in
    both was between is name (changed_still terms.journal name was between named (answered_changed terms old mid was between line h.1 h.3 one)) (answers_still terms name mid new between is lines h.2 h.4 named h.8)

stops_still : (terms : Terms) (name : List ℕ) (old new : List Standing) (was is : Option Held) (before after : Written) (bytes : List ℕ) → terms.journal ≡ Some name → Stops terms old was before after bytes new is → HoldsStill was is name
stops_still terms name old new was is before after bytes named h =
    both was h.mid.files is name (answers_still terms name old h.mid.service was h.mid.files h.told.lines h.said h.noted named h.told.answers)
    (answers_still terms name h.mid.service new h.mid.files is h.untold.lines h.unsaid _ named h.untold.answers)

-- what was put there is there still
put_still : (before begun after : Option Held) (name bytes : List ℕ) → Replaces before begun name (Some bytes) → HoldsStill begun after name → IfSome before (λ _. IsHeld after name bytes)
put_still None begun after name bytes put h = tt
put_still (Some was) None after name bytes put h = absurd put
put_still (Some was) (Some begun) None name bytes put h = absurd h
put_still (Some was) (Some begun) (Some is) name bytes put h = h ∙ put.here name refl

-- so it is after some of the lines, or all of them
pub part_still : (terms : Terms) (name : List ℕ) (start : List Standing) (before begun after : Option Held) (first was is old new : Option (List ℕ)) (bytes : List ℕ) → Replaces before begun name (Some bytes) → terms.journal ≡ Some name →
    (h : IsServedPart terms start begun after first was is old new) → IfSome before (λ _. IsHeld h.between name bytes)
part_still terms name start before begun after first was is old new bytes put named h =
    put_still before begun h.between name bytes put (stops_still terms name start h.end begun h.between _ _ h.served.bytes named h.served.ended)
