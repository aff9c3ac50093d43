use Rattle.std.proofs.Common.{[], refl, ap, ◌∙◌}
use Rattle.line_service.proofs.Parting.{first_begun}
use Rattle.line_service.proofs.Telling.{told_stops}
use Rattle.ring_service.specs.Rules.{file_rules}
use Rattle.ring_service.specs.Serving.{held_by}
use Rattle.ring_service.proofs.Looped.{never_over, served_all, served_some}
use Rattle.ring_service.proofs.Ended.{some_recovered, held_some}
use Rattle.ring_service.proofs.serving.serve.Goals as goal

pub serve_part-ended-requires : goal.serve_part-ended-requires
serve_part-ended-requires g c =
    never_over c.in_file-service.result (file_rules c.file_of-name.result c.args.permits) c.replace-rings.result c.in_file-service.ensures.is refl

pub returns-in-Ok-clause-ok : goal.returns-in-Ok-clause-ok
returns-in-Ok-clause-ok g c =
    let contents = g.J.Grow.contents in
    let same = c.writer_of-writer.ensures.held contents ∙ ap (λ (j : _). held_by contents j) c.replace.ensures.value in
    served_all c.file_of-name.result c.args.permits c.serve_part-ended.new.service c.file_of-name.ensures c.in_file-service.ensures.is c.replace-rings.ensures.value c.into_rings.ensures same (ap (λ (j : _). held_by contents j) c.replace-none.ensures.after ∙ c.journal_of.ensures.held contents) c.none-unread.ensures
    (c.in-Ok.ensures.ok [] (first_begun c.new-line.result.items c.new-line.ensures.items)) c.in-Ok.ensures.ends

pub returns-clause-err : goal.returns-clause-err
returns-clause-err g c =
    let contents = g.J.Grow.contents in
    let same = c.writer_of-writer.ensures.held contents ∙ ap (λ (j : _). held_by contents j) c.replace.ensures.value in
    served_some c.file_of-name.result c.args.permits c.serve_part-ended.new.service c.file_of-name.ensures c.in_file-service.ensures.is c.replace-rings.ensures.value c.into_rings.ensures (g.I.Read.remaining c.args.input.now) (g.I.Read.remaining c.serve_part-ended.new.input) same (ap (λ (j : _). held_by contents j) c.replace-none.ensures.after ∙ c.journal_of.ensures.held contents) c.none-unread.ensures
    (c.in-Err.ensures.err [] (first_begun c.new-line.result.items c.new-line.ensures.items))

-- ---- what is recovered of the journal

pub returns-in-Ok-clause-recovered : goal.returns-in-Ok-clause-recovered
returns-in-Ok-clause-recovered g c =
    let all = returns-in-Ok-clause-ok g c in
    some_recovered (all.bytes, all.read, told_stops all.told) (held_some g.J.Grow.contents c.args.journal.now) c.are_right.ensures

pub returns-clause-recovered : goal.returns-clause-recovered
returns-clause-recovered g c =
    some_recovered (returns-clause-err g c) (held_some g.J.Grow.contents c.args.journal.now) c.are_right.ensures

-- ---- what lasts of it

pub returns-in-Ok-clause-lasts : goal.returns-in-Ok-clause-lasts
returns-in-Ok-clause-lasts g c =
    let lasting = g.J.Grow.lasting in
    let same = c.writer_of-writer.ensures.held lasting ∙ ap (λ (j : _). held_by lasting j) c.replace.ensures.value in
    let all = served_all c.file_of-name.result c.args.permits c.serve_part-ended.new.service c.file_of-name.ensures c.in_file-service.ensures.is c.replace-rings.ensures.value c.into_rings.ensures same (ap (λ (j : _). held_by lasting j) c.replace-none.ensures.after ∙ c.journal_of.ensures.held lasting) c.none-unread.ensures
    (c.in-Ok.ensures.lasts [] (first_begun c.new-line.result.items c.new-line.ensures.items)) c.in-Ok.ensures.ends in
    some_recovered (all.bytes, all.read, told_stops all.told) (held_some lasting c.args.journal.now) c.are_right.ensures

pub returns-clause-lasts : goal.returns-clause-lasts
returns-clause-lasts g c =
    let lasting = g.J.Grow.lasting in
    let same = c.writer_of-writer.ensures.held lasting ∙ ap (λ (j : _). held_by lasting j) c.replace.ensures.value in
    let stopped = served_some c.file_of-name.result c.args.permits c.serve_part-ended.new.service c.file_of-name.ensures c.in_file-service.ensures.is c.replace-rings.ensures.value c.into_rings.ensures (g.I.Read.remaining c.args.input.now) (g.I.Read.remaining c.serve_part-ended.new.input) same (ap (λ (j : _). held_by lasting j) c.replace-none.ensures.after ∙ c.journal_of.ensures.held lasting) c.none-unread.ensures
    (c.in-Err.ensures.lasts [] (first_begun c.new-line.result.items c.new-line.ensures.items)) in
    some_recovered stopped (held_some lasting c.args.journal.now) c.are_right.ensures
