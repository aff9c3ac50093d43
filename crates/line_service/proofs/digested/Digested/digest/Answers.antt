use Rattle.std.proofs.Common.{ap, subst, sym, ◌∙◌}
use Rattle.hex.specs.Hex.{encode_lower}
use Rattle.sha2.specs.Hashers.{Holds256}
use Rattle.sha2.specs.declared.Sha256.{Sha256}
use Rattle.line_service.proofs.Hashing.{is_hashed}
use Rattle.line_service.proofs.digested.Digested.digest.Goals as goal

pub returns-clause-value : goal.returns-clause-value
returns-clause-value g c = λ bytes e.
    let h = (is_hashed (g.W.Grow.contents c.args.self.now.inner) c.args.self.now.hasher bytes e).1 in
    c.digits.ensures.value ∙ ap encode_lower (c.finalize.ensures bytes (subst (λ (s : Sha256). Holds256 s bytes) (sym c.in_ok-hasher.ensures.cases) h))
