-- The surveys of the client of a seat, where one more is added.
use Rattle.std.proofs.Common.{◌≡◌, ℕ, ◌<◌, List, [], ◌++◌, length, get_or, sym, ◌∙◌, ap, arith, get_or-set_same, get_or-set_other}
use Rattle.ring_model.specs.declared.events.Entry.{Entry}
use Rattle.ring_logs.specs.LogView.{LogView}
use Rattle.saved_history.specs.declared.saved.SavedSurvey.{SavedSurvey}
use Rattle.one_thread_ring.specs.SavedOf.{entry_surveys}
use Rattle.one_thread_ring.specs.Rings.{grown, told_more}
use Rattle.one_thread_ring.proofs.Telling.{entry_surveys-append}

-- the surveys that the client of a seat was given
abbrev pub told_by : List LogView → ℕ → List SavedSurvey
told_by cs seat = entry_surveys seat (get_or cs seat (record { number = seat; log = [] })).log

-- entries of one client, as the surveys of all
pub told_besides : (cs : List LogView) (seat : ℕ) (es : List Entry) (i : ℕ) → seat < length cs → i ≡ seat → told_by (told_more cs seat es) i ≡ told_by cs i ++ entry_surveys i es
told_besides cs seat es i l e =
    let nobody : LogView = record { number = i; log = [] } in
    let same : told_more cs seat es ≡ told_more cs i es = ap (λ (k : ℕ). told_more cs k es) (sym e) in
    let there : get_or (told_more cs i es) i nobody ≡ grown (get_or cs i nobody) es = get_or-set_same cs i (grown (get_or cs i nobody) es) nobody (omega (arith, l, e)) in
    ap (λ (ts : List LogView). told_by ts i) same ∙ (ap (λ (t : LogView). entry_surveys i t.log) there ∙ entry_surveys-append i (get_or cs i nobody).log es)

pub told_others : (cs : List LogView) (seat : ℕ) (es : List Entry) (i : ℕ) → (i ≡ seat → ⊥) → told_by (told_more cs seat es) i ≡ told_by cs i
told_others cs seat es i ne =
    let nobody : LogView = record { number = i; log = [] } in
    ap (λ (t : LogView). entry_surveys i t.log) (get_or-set_other cs seat i (grown (get_or cs seat (record { number = seat; log = [] })) es) nobody ne)
