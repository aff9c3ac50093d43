use Rattle.std.proofs.Common.{true, None, refl, sym, ◌∙◌}
use Rattle.std.proofs.lemmas.List.{length-map}
use Rattle.saved_history.specs.Content.{block_of}
use Rattle.segment_files.specs.Chain.{file_in, link_in}
use Rattle.segment_files.proofs.Following.{all_bases, follows, test_refused}
use Rattle.segment_files.proofs.last.read_last.Goals as goal

pub returns-in-Err-test-clause-right : goal.returns-in-Err-test-clause-right
returns-in-Err-test-clause-right c =
    let f = file_in c.args.bytes.now c.in-Ok.segment in
    test_refused c.args.bytes.now f refl c.in-Ok.ensures.0 None (link_in c.in-Ok-opening.link) (sym (c.in-Ok-opening.ensures c.args.bytes.now)) true c.in-Err-test.error (c.in-Err-test.ensures c.args.bytes.now)

pub returns-clause-right : goal.returns-clause-right
returns-clause-right c =
    let f = file_in c.args.bytes.now c.in-Ok.segment in
    let t = c.in-Ok-test.ensures c.args.bytes.now in
    follows c.args.bytes.now f refl c.in-Ok.ensures.0 None (link_in c.in-Ok-opening.link) (sym (c.in-Ok-opening.ensures c.args.bytes.now)) t.0 t.1

pub returns-clause-many : goal.returns-clause-many
returns-clause-many c =
    let t = c.in-Ok-test.ensures c.args.bytes.now in
    t.0.0.1.rings ∙ length-map c.in-Ok.segment.saved.rings.items block_of

pub returns-clause-bases : goal.returns-clause-bases
returns-clause-bases c =
    let t = c.in-Ok-test.ensures c.args.bytes.now in
    all_bases (link_in c.in-Ok-opening.link).places c.in-Ok.segment.head.bases.items t.0.0.1.bases
