use Rattle.std.proofs.Common.{All, List, [], ◌∷◌, map, sym, subst, ◌∙◌}
use Rattle.std.specs.Prelude.{Result, Ok, Err, IfOk}
use Rattle.std.proofs.lemmas.List.Elements.{All-map, All-nil, All-cons, All-head, All-tail}
use Rattle.ring_model.specs.History.{opening}
use Rattle.ring_model.specs.Logs.{Fits}
use Rattle.ring_logs.specs.LogView.{LogView}
use Rattle.ring_shared.specs.Client.{Client, told_of}
use Rattle.ring_shared.proofs.closing.all_fit.Goals as goal

of_map : (P : LogView → Type 0) (ss : List Client) → All P (map told_of ss) → All (λ (s : Client). P (told_of s)) ss
of_map P [] all = All-nil (λ (s : Client). P (told_of s))
of_map P (s ∷ ss) all = All-cons (λ (s : Client). P (told_of s)) s ss (All-head P (told_of s) (map told_of ss) all) (of_map P ss (All-tail P (told_of s) (map told_of ss) all))

ok_then : {A E : Type 0} (P S : A → Type 0) (r : Result A E) → ((v : A) → P v → S v) → IfOk r P → IfOk r S
ok_then P S (Ok v) f p = f v p
ok_then P S (Err e) f p = tt

pub returns : goal.returns
returns g c =
    let fits = λ (t : LogView). Fits g.R.Resource.works (opening c.args.book.now.start g.R.Resource.first) c.args.book.now.history t.number t.log in
    let same = c.as_slice.ensures.value ∙ c.in_ok-logs.ensures in
    ok_then _ _ c.logs_fit.result (λ b is. (
      λ t. of_map fits c.args.seats.now (subst (λ (ts : List LogView). All fits ts) same (is.0 t)),
      λ h. is.1 (subst (λ (ts : List LogView). All fits ts) (sym same) (All-map fits told_of c.args.seats.now h)),
    )) c.logs_fit.ensures
