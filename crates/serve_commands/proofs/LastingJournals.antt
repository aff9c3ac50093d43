-- A journal in a file, all of which lasts.
use Rattle.std.proofs.Common.{◌≡◌, ℕ, List, [], ◌++◌, Option, None, Some, refl, sym, ap, subst, ◌∙◌}
use Rattle.std.specs.Prelude.{IfSome}
use Rattle.std.specs.Io.KnownBytes.{Appends}
use Rattle.std.proofs.lemmas.List.{append-nil}
use Rattle.disks.specs.Held.{Held, Grows}
use Rattle.disks.specs.Lasting.{bytes_in, HasFront, Leaves}
use Rattle.ring_service.specs.declared.serving.Journal.{Journal}
use Rattle.ring_service.specs.Permits.{Terms}
use Rattle.ring_service.specs.Recovered.{AnsweredCallsAreRecovered}
use Rattle.ring_service.specs.Serving.{held_by}
use Rattle.ring_service.specs.Standings.{Standing}
use Rattle.line_service.proofs.SegmentLasting.{appended_known}

none_some : (m : List ℕ) → None ≡ Some m → ⊥
none_some m e = cc

-- what a file holds that was opened to be written at its end
pub opened_is : (files : Option Held) (name first : List ℕ) (contents : Option (List ℕ)) → Grows files name contents → bytes_in files name ≡ Some first → contents ≡ Some first
opened_is None name first contents h e = absurd (none_some first e)
opened_is (Some held) name first contents h e = h.2 ∙ (sym h.1 ∙ e)

-- what is left of a file that was closed
pub closed_has : (was is : Option Held) (name bytes : List ℕ) → Leaves was is name (Some bytes) → IfSome is (λ (held : Held). HasFront held name (Some bytes))
closed_has None is name bytes e = subst (λ (x : Option Held). IfSome x (λ (held : Held). HasFront held name (Some bytes))) (sym e) tt
closed_has (Some was) None name bytes h = absurd h
closed_has (Some was) (Some is) name bytes h = ([], h.here name refl ∙ ap (λ (x : List ℕ). Some x) (sym (append-nil bytes)))

-- What is recovered of a journal's writer: it has something, if it had before.
pub record Told {J : Type 0} (view : J → Option (List ℕ)) (kept : Journal J) (terms : Terms) (start end : List Standing) (before after : Option Held) (first : List ℕ) (was is old new : Option (List ℕ)) : Type 0 where
  pub last : List ℕ
  pub has : view kept.writer ≡ Some last
  pub served : AnsweredCallsAreRecovered terms start end before after was is (record { journal = Some first; out = old }) (record { journal = Some last; out = new })

pub told_of : {J : Type 0} (view : J → Option (List ℕ)) {terms : Terms} {start end : List Standing} {before after : Option Held} {was is old new had : Option (List ℕ)} {journal : Option (Journal J)} (kept : Journal J) (first : List ℕ) → journal ≡ Some kept → had ≡ Some first →
    AnsweredCallsAreRecovered terms start end before after was is (record { journal = had; out = old }) (record { journal = held_by view journal; out = new }) →
    Told view kept terms start end before after first was is old new
told_of {J} view {terms} {start} {end} {before} {after} {was} {is} {old} {new} {had} {journal} kept first e f h =
    let moved = subst (λ (j : Option (Journal J)). AnsweredCallsAreRecovered terms start end before after was is (record { journal = Some first; out = old }) (record { journal = held_by view j; out = new })) e
    (subst (λ (x : Option (List ℕ)). AnsweredCallsAreRecovered terms start end before after was is (record { journal = x; out = old }) (record { journal = held_by view journal; out = new })) f h) in
    let known = appended_known (Some first) (view kept.writer) first (moved.ended.noted ++ moved.ended.front) refl moved.ended.wrote_notes in
    record {
      last = known.0;
      has = known.1;
      served = subst (λ (x : Option (List ℕ)). AnsweredCallsAreRecovered terms start end before after was is (record { journal = Some first; out = old }) (record { journal = x; out = new })) known.1 moved;
    }
