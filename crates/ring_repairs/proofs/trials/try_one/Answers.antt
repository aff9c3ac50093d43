use Rattle.std.proofs.Common.{◌≡◌, ℕ, ◌/◌, length, sym, ◌∙◌, ap, arith}
use Rattle.std.specs.Prelude.{List}
use Rattle.rand_pcg.specs.Lcg.{Lcg}
use Rattle.ring_model.specs.Ring.{Ring}
use Rattle.ring_model.specs.RepairLaws.{longest_repair}
use Rattle.ring_state.specs.Sizes.{Size, size_of}
use Rattle.ring_repairs.specs.Draws.{generator}
use Rattle.ring_repairs.specs.Starts.{start_values, start_left}
use Rattle.ring_repairs.specs.Studies.{StudyData}
use Rattle.ring_repairs.specs.declared.starts.Start.{Start}
use Rattle.ring_repairs.proofs.TrialFacts.{start_long, trial_is, same_size}
use Rattle.ring_repairs.proofs.trials.try_one.Goals as goal

pub returns-clause-passes : goal.returns-clause-passes
returns-clause-passes c =
    let s : StudyData = c.args.study.now in
    let n : c.n.result ≡ s.size.n = c.n.ensures.is ∙ ap (λ (x : Size). x.n) c.size.ensures.is in
    let most : c.longest_repair-most.result ≡ longest_repair s.size.n = c.longest_repair-most.ensures.is ∙ ap longest_repair n in
    let g : Lcg = generator s.seed c.args.trial in
    let words : c.generator-words.result ≡ g = c.generator-words.ensures ∙ ap (λ (x : ℕ). generator x c.args.trial) c.seed.ensures in
    let size : size_of c.args.ring.now ≡ s.size = c.requires in
    let start : c.start.result ≡ s.start = c.start.ensures in
    let number : c.args.trial / c.trials.result ≡ c.args.trial / s.trials = ap (λ (x : ℕ). c.args.trial / x) c.trials.ensures.is in
    let values : c.write_start.new.ring.values ≡ start_values s.start s.size (c.args.trial / s.trials) g =
    c.write_start.ensures.values
    ∙ ap (λ (x : Start). start_values x (size_of c.args.ring.now) (c.args.trial / c.trials.result) c.generator-words.result) start
    ∙ ap (λ (x : Size). start_values s.start x (c.args.trial / c.trials.result) c.generator-words.result) size
    ∙ ap (λ (x : ℕ). start_values s.start s.size x c.generator-words.result) number
    ∙ ap (start_values s.start s.size (c.args.trial / s.trials)) words in
    let left : c.write_start.new.words ≡ start_left s.start s.size g =
    c.write_start.ensures.words
    ∙ ap (λ (x : Start). start_left x (size_of c.args.ring.now) c.generator-words.result) start
    ∙ ap (λ (x : Size). start_left s.start x c.generator-words.result) size
    ∙ ap (start_left s.start s.size) words in
    let k : c.write_start.new.ring.k ≡ s.size.k = c.write_start.ensures.same ∙ ap (λ (x : Size). x.k) size in
    c.pass_all.ensures.passes
    ∙ trial_is s c.args.trial c.longest_repair-most.result c.daemon.result c.write_start.new.words c.write_start.new.ring c.daemon.ensures most left k values

pub returns-clause-size : goal.returns-clause-size
returns-clause-size c =
    let size : size_of c.args.ring.now ≡ c.args.study.now.size = c.requires in
    let two = c.size.ensures.study.size.machines in
    let same = ap (λ (x : Size). x.n) size in
    let written : length c.write_start.new.ring.values ≡ length c.args.ring.now.values =
    ap (λ (x : List ℕ). length x) c.write_start.ensures.values
    ∙ start_long c.start.result (size_of c.args.ring.now) (c.args.trial / c.trials.result) c.generator-words.result (omega arith) in
    same_size c.args.ring.now c.args.study.now.size size c.pass_all.new.ring (c.pass_all.ensures.size ∙ written)
    (c.pass_all.ensures.same ∙ c.write_start.ensures.same)

pub pass_all-requires-clause-most : goal.pass_all-requires-clause-most
pass_all-requires-clause-most c =
    let s : StudyData = c.args.study.now in
    let size : size_of c.args.ring.now ≡ s.size = c.requires in
    let two = c.size.ensures.study.size.machines in
    let n : c.n.result ≡ s.size.n = c.n.ensures.is ∙ ap (λ (x : Size). x.n) c.size.ensures.is in
    let same : length c.args.ring.now.values ≡ s.size.n = ap (λ (x : Size). x.n) size in
    let written : length c.write_start.new.ring.values ≡ length c.args.ring.now.values =
    ap (λ (x : List ℕ). length x) c.write_start.ensures.values
    ∙ start_long c.start.result (size_of c.args.ring.now) (c.args.trial / c.trials.result) c.generator-words.result (omega arith) in
    c.longest_repair-most.ensures.is ∙ ap longest_repair (n ∙ sym same ∙ sym written)
