use Rattle.std.proofs.Common.{map, subst, Ok}
use Rattle.chain_readers.specs.Known.{known}
use Rattle.chain_readers.specs.Chains.{HoldsSoFar, IsHeldWith, IsHoldRefusal}
use Rattle.chain_readers.proofs.Files.{parts_read, parts_refused, files_read, files_refused}
use Rattle.chain_readers.proofs.chains.HoldChain.with_file.Goals as goal

pub returns-in-Ok-add_parts-clause-ok : goal.returns-in-Ok-add_parts-clause-ok
returns-in-Ok-add_parts-clause-ok c =
    let a = c.in-Ok.ensures in
    let before : HoldsSoFar = record { state = c.self.inside.chain; locks = map known c.self.inside.locks.items } in
    let segment = c.in-Ok-read_segment.segment in
    subst (λ (o : HoldsSoFar). IsHeldWith o c.args.bytes.now c.args.last (record { state = c.add.new.self; locks = map known c.add_parts.new.locks.items })) c.self.view_is
    (record {
      state = a.0;
      added = a.2;
      next = a.1;
      locks = files_read before c.args.bytes.now c.args.last a.0 a.2 segment c.in-Ok-read_segment.ensures.0 (Ok (map known c.add_parts.new.locks.items)) (parts_read (map known c.self.inside.locks.items) segment.head.bases.items c.deref.result.now c.deref-3.result.now segment.saved.rings.items c.deref-2.result.now c.deref-4.result.now (map known c.open_more.new.locks.items) (Ok (map known c.add_parts.new.locks.items)) c.deref.ensures.value c.deref-3.ensures.value c.deref-2.ensures.value c.deref-4.ensures.value c.in_ok-open_more.ensures c.in-Ok-add_parts.ensures);
    })

pub returns-in-Err-add_parts-clause-err : goal.returns-in-Err-add_parts-clause-err
returns-in-Err-add_parts-clause-err c =
    let a = c.in-Ok.ensures in
    let before : HoldsSoFar = record { state = c.self.inside.chain; locks = map known c.self.inside.locks.items } in
    let segment = c.in-Ok-read_segment.segment in
    subst (λ (o : HoldsSoFar). IsHoldRefusal o c.args.bytes.now c.args.last c.in-Err-add_parts.error) c.self.view_is
    (files_refused before c.args.bytes.now c.args.last a.0 a.2 segment c.in-Ok-read_segment.ensures.0 c.in-Err-add_parts.error (map known c.add_parts.new.locks.items) (parts_refused (map known c.self.inside.locks.items) segment.head.bases.items c.deref.result.now c.deref-3.result.now segment.saved.rings.items c.deref-2.result.now c.deref-4.result.now (map known c.open_more.new.locks.items) c.in-Err-add_parts.error (map known c.add_parts.new.locks.items) c.deref.ensures.value c.deref-3.ensures.value c.deref-2.ensures.value c.deref-4.ensures.value c.in_ok-open_more.ensures c.in-Err-add_parts.ensures))
