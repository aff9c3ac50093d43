use Rattle.std.proofs.Common.{◌≡◌, false, refl, ◌∙◌, arith}
use Rattle.std.proofs.lemmas.List.{length-map}
use Rattle.std.proofs.lemmas.Result.{err_from_is_err_and}
use Rattle.saved_history.specs.Content.{block_of, content}
use Rattle.segment_files.specs.Files.{IsWhole}
use Rattle.segment_files.specs.Chain.{file_in, link_in}
use Rattle.segment_files.proofs.Choosing.{clash}
use Rattle.segment_files.proofs.Following.{all_bases, all_short, all_replayed, follows, test_refused, state_is}
use Rattle.segment_files.proofs.chain.follow.Goals as goal
use Rattle.segment_files.proofs.chain.follow.Goals.{else-not-last-via-then-not-last+else-not-segment, else-not-last-via-else-not-last}

pub returns-in_err-test : goal.returns-in_err-test
returns-in_err-test c =
    let p = err_from_is_err_and c.from_residual.result c.from_residual.ensures.1 in
    let f = file_in c.args.bytes.now c.args.segment.now in
    λ l is sum. rw (p.1, p.2) (test_refused c.args.bytes.now f refl c.requires.0 l (link_in c.args.link.now) is c.args.last c.in_err-test.field-0.0 (c.in_err-test.ensures c.args.bytes.now))

pub returns-then-not-segment : goal.returns-then-not-segment
returns-then-not-segment c = λ l is sum.
    let f = file_in c.args.bytes.now c.args.segment.now in
    let t = c.in_ok-test.ensures c.args.bytes.now in (
      c.if-not-last.true,
      record {
        file = f;
        same = refl;
        segment = c.requires.0;
        holds = (follows c.args.bytes.now f refl c.requires.0 l (link_in c.args.link.now) is t.0 t.1, λ w. clash c.args.segment.now.whole c.if-not-segment.true (c.requires.1.1 w));
      },
    )

pub after-requires-clause-many : goal.after-requires-clause-many
after-requires-clause-many c = let t = c.in_ok-test.ensures c.args.bytes.now in t.0.0.1.rings ∙ length-map c.args.segment.now.saved.rings.items block_of

pub after-requires-clause-bases : goal.after-requires-clause-bases
after-requires-clause-bases c = let t = c.in_ok-test.ensures c.args.bytes.now in all_bases (link_in c.args.link.now).places c.args.segment.now.head.bases.items t.0.0.1.bases

pub after-requires-clause-short : goal.after-requires-clause-short
after-requires-clause-short c = let t = c.in_ok-test.ensures c.args.bytes.now in all_short (content c.args.segment.now.saved).rings t.1

pub after-requires-clause-right : goal.after-requires-clause-right
after-requires-clause-right c = all_replayed (file_in c.args.bytes.now c.args.segment.now) c.requires.0

pub sums_with-sums-requires : goal.sums_with-sums-requires
sums_with-sums-requires c =
    let t = c.in_ok-test.ensures c.args.bytes.now in
    let many = t.0.0.1.rings in
    let same = length-map c.args.segment.now.saved.rings.items block_of in
    let few = c.requires.0.fits.rings in
    let ok = c.args.segment.now.saved.rings.ok in
    omega (arith, many, same, few, ok)

pub returns : goal.returns
returns c = λ l is sum.
    let f = file_in c.args.bytes.now c.args.segment.now in
    let t = c.in_ok-test.ensures c.args.bytes.now in
    let whole : c.args.last ≡ false → IsWhole f = λ e.
    elim c.else-not-last.branch [
      | else-not-last-via-then-not-last+else-not-segment w ↦ c.requires.1.0 w.if-not-segment.false
      | else-not-last-via-else-not-last w ↦ absurd (clash c.args.last e w.if-not-last.false)
    ] in
    record {
      file = f;
      same = refl;
      follows = follows c.args.bytes.now f refl c.requires.0 l (link_in c.args.link.now) is t.0 t.1;
      whole = whole;
      next = state_is l f (link_in c.in_ok-link.link) c.sums_with-sums.result c.args.sums c.in_ok-link.ensures (c.sums_with-sums.ensures c.args.bytes.now c.in_ok-link.ensures) sum;
    }
