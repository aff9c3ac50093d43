-- The answers that a journal keeps, wherever serving ended.
use Rattle.std.proofs.Common.{◌≡◌, ℕ, true, List, ◌++◌, Option, Some, None, refl, sym, ap, subst, ◌∙◌, append_assoc}
use Rattle.std.specs.Prelude.{is_some}
use Rattle.std.specs.List.{AllByRecursion}
use Rattle.std.specs.Io.KnownBytes.{Appends}
use Rattle.disks.specs.Held.{Held}
use Rattle.journal.specs.Spelling.{journal_head}
use Rattle.line_service.specs.Loop.{Written}
use Rattle.ring_service.specs.declared.serving.Journal.{Journal}
use Rattle.ring_service.specs.Permits.{Terms}
use Rattle.ring_service.specs.Standings.{Standing}
use Rattle.ring_service.specs.Saved.{IsRight, content_of}
use Rattle.ring_service.specs.Serving.{held_by, named_by, Stops, ServesSome}
use Rattle.ring_service.specs.Recovered.{KeepsAnswers, AnsweredCallsAreRecovered}
use Rattle.ring_service.proofs.Recovering.{answers_are_recovered}

same_bytes : (xs ys : List ℕ) → Some xs ≡ Some ys → xs ≡ ys
same_bytes xs ys e = cc

-- what a journal has after it had these bytes
appended : (before after : Option (List ℕ)) (head noted whole : List ℕ) → before ≡ Some head → Appends before after noted → after ≡ Some whole → whole ≡ head ++ noted
appended before after head noted whole e a f =
    subst (λ (x : Option (List ℕ)). Appends (Some head) x noted) f (subst (λ (x : Option (List ℕ)). Appends x after noted) e a)

-- a journal that holds something is kept
pub held_some : {J : Type 0} (contents : J → Option (List ℕ)) (journal : Option (Journal J)) (xs : List ℕ) → held_by contents journal ≡ Some xs → is_some (named_by journal) ≡ true
held_some {J} contents None xs e = absurd (none xs e)
  where
    none : (xs : List ℕ) → None ≡ Some xs → ⊥
    none xs e = cc
held_some {J} contents (Some j) xs e = refl

keeps_answers : {terms : Terms} {old new : List Standing} {was is : Option Held} {before after : Written} {bytes : List ℕ} (s : Stops terms old was before after bytes new is) → ((xs : List ℕ) → before.journal ≡ Some xs → is_some terms.journal ≡ true) → AllByRecursion IsRight old →
    KeepsAnswers s
keeps_answers {terms} {old} {new} {was} {is} {before} {after} s noting all begun kept lost now front =
    let head : List ℕ = journal_head (content_of old) in
    let whole : kept ++ lost ≡ head ++ (s.noted ++ s.front) = appended before.journal after.journal head (s.noted ++ s.front) (kept ++ lost) begun.0 s.wrote_notes now in
    let all_notes : kept ++ (lost ++ s.back) ≡ head ++ (s.noted ++ (s.front ++ s.back)) =
    sym (append_assoc kept lost s.back)
    ∙ (ap (λ (u : List ℕ). u ++ s.back) whole ∙ (append_assoc head (s.noted ++ s.front) s.back ∙ ap (λ (u : List ℕ). head ++ u) (append_assoc s.noted s.front s.back))) in
    answers_are_recovered terms old s.mid.service new was s.mid.files is s.told.lines s.untold.lines s.said s.noted s.unsaid (s.front ++ s.back) kept (lost ++ s.back) (noting head begun.0) all begun.1 s.told.answers s.untold.answers all_notes front

pub some_recovered : {terms : Terms} {old new : List Standing} {was is : Option Held} {unread rest : Option (List ℕ)} {before after : Written} → ServesSome terms old new was is unread rest before after → ((xs : List ℕ) → before.journal ≡ Some xs → is_some terms.journal ≡ true) →
    AllByRecursion IsRight old → AnsweredCallsAreRecovered terms old new was is unread rest before after
some_recovered s noting all = record { bytes = s.0; read = s.1; ended = s.2; recovered = keeps_answers s.2 noting all }
