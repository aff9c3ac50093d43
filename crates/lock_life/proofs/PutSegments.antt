-- A run that ended when the file of the next segment had been put there.
use Rattle.std.proofs.Common.{◌≡◌, ℕ, ◌+◌, false, List, [], ◌∷◌, ◌++◌, Option, Some, None, refl, sym, ◌∙◌, ap, subst, inr, append_assoc, append-nil}
use Rattle.std.specs.Prelude.{IfSome}
use Rattle.disks.specs.Held.{Held}
use Rattle.line_service.specs.Segments.{Moment, moment_of, HasEnded}
use Rattle.line_service.specs.Service.{Part, all_said, IsPart}
use Rattle.line_service.proofs.SegmentParts.{parts_more, said_more}
use Rattle.lock_life.proofs.Stages.{parts_are_stages}
use Rattle.lock_life.specs.Runs.{Service, answering, by_segments, IsInStages, lines_in, PutSegmentsAreStages}

-- a part with no lines
abbrev nothing_in : Moment Service → Part Service
nothing_in m = record { kept = None; from = m; to = m; lines = []; said = []; noted = [] }

lines_then : (ps qs : List (Part Service)) → lines_in (ps ++ qs) ≡ lines_in ps ++ lines_in qs
lines_then [] qs = refl
lines_then (p ∷ ps) qs = ap (λ (u : List (List ℕ)). p.lines ++ u) (lines_then ps qs) ∙ sym (append_assoc p.lines (lines_in ps) (lines_in qs))

known : (files : Option Held) (text : List ℕ) → IfSome files (λ (h : Held). ◌≡◌ {A = Option (List ℕ)} (Some text) (Some text))
known None text = tt
known (Some h) text = refl

pub put_segments_are_stages : PutSegmentsAreStages
put_segments_are_stages folder a b before parts next is begun plain sound whole told put =
    let text : List ℕ = by_segments.text next (b.number + 1) put.behind in
    let m : Moment Service = moment_of next is (b.number + 1) (Some text) in
    let p : Part Service = nothing_in m in
    let ended : HasEnded by_segments folder b m = record { file = put; number = refl; journal = known put.between text } in
    let is_part : IsPart answering p = record { number = refl; each = tt; answers = (refl, refl, refl); wrote = sym (append-nil text) } in
    let all = parts_more answering by_segments folder a b parts p told (inr (put.due, ended)) is_part in
    let lines : lines_in (parts ++ p ∷ []) ≡ lines_in parts = lines_then parts (p ∷ []) ∙ append-nil (lines_in parts) in
    let said : all_said (parts ++ p ∷ []) ≡ all_said parts = said_more parts p ∙ append-nil (all_said parts) in
    let next_whole : next.inner.lost ≡ false = put.follows.1.lost ∙ whole in
    let s = parts_are_stages folder a m before (parts ++ p ∷ []) [] [] [] next is begun plain sound next_whole all tt (refl, refl, refl) in
    subst (λ (ls : List (List ℕ)). IsInStages a m before ls (all_said parts) []) lines
    (subst (λ (u : List ℕ). IsInStages a m before (lines_in (parts ++ p ∷ [])) u []) said s)
