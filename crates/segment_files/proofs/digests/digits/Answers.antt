use Rattle.std.proofs.Common.{◌≡◌, rules}
use Rattle.hex.specs.Hex.{encode_lower}
use Rattle.segment_files.proofs.DigestLaws.{digest_fits}
use Rattle.segment_files.proofs.digests.digits.Goals as goal

pub returns-clause-fits : goal.returns-clause-fits
returns-clause-fits c =
    let e : c.encode_to_slice.new.output ≡ encode_lower c.args.digest.now = search rules in
    rw e (digest_fits c.args.digest.now c.told-digest c.fits-digest)
