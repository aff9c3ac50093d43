use Rattle.std.proofs.Common.{◌∙◌, map}
use Rattle.std.proofs.lemmas.Result.{IfOk-weaker}
use Rattle.serde_json.specs.View.{view}
use Rattle.setup_commands.proofs.GivenSettings.{document_is}
use Rattle.setup_commands.proofs.texts.document.Goals as goal

pub returns : goal.returns
returns c =
    let same =
    document_is c.args.words.now (view c.in_ok-injector.injector) (map view c.in_ok-rings.rings.items) (map view c.in_ok-workers.workers.items) c.args.rings.now
    c.in_ok-injector.ensures c.in_ok-rings.ensures c.requires c.in_ok-workers.ensures in
    IfOk-weaker c.assembled.result _ _ (λ value h. h ∙ same) c.assembled.ensures
