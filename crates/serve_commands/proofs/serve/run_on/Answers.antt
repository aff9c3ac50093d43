use Rattle.std.proofs.Common.{◌≡◌, ℕ, List, Option, None, Some, inl, subst, sym, ap}
use Rattle.std.specs.Option.{option_map}
use Rattle.disks.specs.Held.{Held}
use Rattle.saved_history.specs.declared.saved.Saved.{Saved}
use Rattle.tool_parts.specs.declared.requests.ServeWords.{ServeWords}
use Rattle.ring_service.specs.Standings.{Standing}
use Rattle.ring_service.specs.Starting.{AreResumed}
use Rattle.tool_parts.specs.declared.faults.ToolError.{ToolError}
use Rattle.serve_commands.specs.Served.{journal_of, permits_of, BeginsAt, IsServedPlain, IsServed, IsServedFrom, IsRefusedFrom}
use Rattle.serve_commands.specs.Lasting.{CallsLast}
use Rattle.serve_commands.proofs.serve.run_on.Goals as goal

plain : (words : ServeWords) (saved : Option Saved) (end : List Standing) (before after : Option Held) (was is old new : Option (List ℕ)) → journal_of words ≡ None →
    (from : Saved) × (saved ≡ Some from) × (start : List Standing) × AreResumed start from.rings.items × IsServedPlain (permits_of words) start end before after was is old new → IsServedFrom words saved end before after was is old new
plain words saved end before after was is old new none h = record {
  from = h.0;
  begins = subst (λ (j : Option (List ℕ)). BeginsAt before j saved h.0) (sym none) h.1;
  start = h.2;
  resumed = h.3;
  served = subst (λ (j : Option (List ℕ)). IsServed (permits_of words) j h.2 end before after was is old new) (sym none) h.4;
}

pub returns-in-Ok-clause-ok : goal.returns-in-Ok-clause-ok
returns-in-Ok-clause-ok g c =
    inl (plain c.args.words.now c.args.saved c.in-Ok.end (g.D.Disk.holds c.args.disk.now) (g.D.Disk.holds c.run_without.new.disk) (g.I.Read.remaining c.args.input.now) (g.I.Read.remaining c.run_without.new.input) (g.W.Write.contents c.args.out.now) (g.W.Write.contents c.run_without.new.out)
    (ap (λ (j : Option _). option_map (λ name. name.now) j) c.in-None.is) (rw c.permits_of.ensures at c.in-Ok.ensures.ok))

refused : (words : ServeWords) (journal : Option (List ℕ)) (saved : Option Saved) (before after : Option Held) (was is old new : Option (List ℕ)) (e : ToolError) → journal_of words ≡ journal →
    IsRefusedFrom (permits_of words) before after journal saved was is old new e → IsRefusedFrom (permits_of words) before after (journal_of words) saved was is old new e
refused words journal saved before after was is old new e same h = subst (λ (j : Option (List ℕ)). IsRefusedFrom (permits_of words) before after j saved was is old new e) (sym same) h

pub returns-in-Err-clause-err : goal.returns-in-Err-clause-err
returns-in-Err-clause-err g c =
    inl (refused c.args.words.now None c.args.saved (g.D.Disk.holds c.args.disk.now) (g.D.Disk.holds c.run_without.new.disk) (g.I.Read.remaining c.args.input.now) (g.I.Read.remaining c.run_without.new.input) (g.W.Write.contents c.args.out.now) (g.W.Write.contents c.run_without.new.out)
    c.in-Err.fault (ap (λ (j : Option _). option_map (λ name. name.now) j) c.in-None.is) (rw c.permits_of.ensures at c.in-Err.ensures.err))

-- ---- what a loss of power leaves

lasts_as : (words : ServeWords) (journal : Option (List ℕ)) (saved : Option Saved) (before : Option Held) (was is old new : Option (List ℕ)) (left : Option Held) → journal_of words ≡ journal →
    CallsLast words journal saved before was is old new left → CallsLast words (journal_of words) saved before was is old new left
lasts_as words journal saved before was is old new left same h = subst (λ (j : Option (List ℕ)). CallsLast words j saved before was is old new left) (sym same) h

pub returns-in-Ok-clause-lasts : goal.returns-in-Ok-clause-lasts
returns-in-Ok-clause-lasts g c = λ synced some.
    lasts_as c.args.words.now None c.args.saved (g.D.Disk.holds c.args.disk.now) _ _ _ _ _ (ap (λ (j : Option _). option_map (λ name. name.now) j) c.in-None.is) tt

pub returns-in-Err-clause-lasts : goal.returns-in-Err-clause-lasts
returns-in-Err-clause-lasts g c = λ synced some.
    lasts_as c.args.words.now None c.args.saved (g.D.Disk.holds c.args.disk.now) _ _ _ _ _ (ap (λ (j : Option _). option_map (λ name. name.now) j) c.in-None.is) tt

pub returns-in-Ok-run_kept-clause-lasts : goal.returns-in-Ok-run_kept-clause-lasts
returns-in-Ok-run_kept-clause-lasts g c = λ synced some.
    lasts_as c.args.words.now (Some c.in-Some.name.now) c.args.saved (g.D.Disk.holds c.args.disk.now) _ _ _ _ _ (ap (λ (j : Option _). option_map (λ name. name.now) j) c.in-Some.is) (c.run_kept.ensures.lasts synced some)

pub returns-in-Err-run_kept-clause-lasts : goal.returns-in-Err-run_kept-clause-lasts
returns-in-Err-run_kept-clause-lasts g c = λ synced some.
    lasts_as c.args.words.now (Some c.in-Some.name.now) c.args.saved (g.D.Disk.holds c.args.disk.now) _ _ _ _ _ (ap (λ (j : Option _). option_map (λ name. name.now) j) c.in-Some.is) (c.run_kept.ensures.lasts synced some)
