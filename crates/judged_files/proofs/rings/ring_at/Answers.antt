use Rattle.std.proofs.Common.{◌≡◌, ℕ, ◌+◌, List, map, Ok, sym, ap, subst, ◌∙◌}
use Rattle.ring_model.specs.Surveys.{granted_count}
use Rattle.saved_history.specs.declared.saved.SavedEvent.{SavedEvent}
use Rattle.saved_history.specs.Content.{block_of}
use Rattle.ring_check.specs.Table.{event_of}
use Rattle.segment_files.specs.Sums.{capped}
use Rattle.chain_readers.specs.declared.holds.Hold.{Hold}
use Rattle.chain_readers.specs.Holds.{AreLaterHolds}
use Rattle.chain_readers.specs.Known.{Known, known, read}
use Rattle.chain_readers.specs.Signs.{signs_of}
use Rattle.judged_files.specs.Beginnings.{open_token}
use Rattle.judged_files.proofs.rings.ring_at.Goals as goal

pub returns : goal.returns
returns c =
    let base = c.args.base.now in
    let signs = signs_of base (block_of c.args.ring.now) in
    let reader = known c.in-Ok.reader in
    let read_so = subst (λ (k : Known). read k signs ≡ Ok reader) c.later.ensures c.in-Ok.ensures in
    record {
      grants = c.saturating_add.ensures
          ∙ ap (λ (n : ℕ). capped (base.grants + n)) (c.count_events.ensures.granted ∙ ap (λ (es : List SavedEvent). granted_count (map event_of es)) c.deref.ensures.value);
      holds = c.in-Ok-holds.holds.items;
      are = subst (λ (hs : List Hold). AreLaterHolds hs signs) (sym c.in-Ok-holds.ensures) ((c.holds_of_signs.ensures.read signs reader).1 read_so);
      held = c.open_token.ensures ∙ ap (λ (hs : List Hold). open_token hs) c.deref-2.ensures.value;
    }
