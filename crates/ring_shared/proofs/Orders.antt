-- Seats in order, and the logs by number.
use Rattle.std.proofs.Common.{◌≡◌, ℕ, ◌<◌, List, [], ◌∷◌, ◌++◌, Some, None, slice_get, slice_index_or, All, length, zero, suc, subst, ap, sym, ◌∙◌, refl}
use Rattle.std.specs.List.Sorted.{IsPermutation}
use Rattle.std.proofs.lemmas.List.Sorted.{All-permutation, IsPermutation-sym}
use Rattle.std.proofs.lemmas.Option.{slice_get-get_or, slice_get_within, get_or_from_slice_get}
use Rattle.ring_model.specs.History.{Works, State}
use Rattle.ring_model.specs.Logs.{Fits, calls_of, receipts_of}
use Rattle.ring_model.specs.declared.events.Event.{Event}
use Rattle.ring_logs.specs.declared.logs.Log.{Log}
use Rattle.ring_shared.specs.Client.{Client}
use Rattle.ring_shared.specs.Closing.{IsLogOf, AreLogsOf, HasLog, AreNumbered}

-- the client at each index has it as its number
abbrev pub IsInOrder : List Client → Type 0
IsInOrder ss = (i : ℕ) (s : Client) → slice_get ss i ≡ Some s → s.number ≡ i

pub AreLogsOf-push : (ss : List Client) (ls : List Log) (s : Client) (l : Log) → AreLogsOf ss ls → IsLogOf s l → AreLogsOf (ss ++ s ∷ []) (ls ++ l ∷ [])
AreLogsOf-push [] [] s l h is = (is, refl)
AreLogsOf-push [] (x ∷ ls) s l h is = cc
AreLogsOf-push (t ∷ ss) [] s l h is = absurd h
AreLogsOf-push (t ∷ ss) (x ∷ ls) s l h is = (h.0, AreLogsOf-push ss ls s l h.1 is)

logs_at : (ss : List Client) (ls : List Log) (i : ℕ) (s : Client) → AreLogsOf ss ls → slice_get ss i ≡ Some s → (l : Log) × (slice_get ls i ≡ Some l) × IsLogOf s l
logs_at [] ls i s h e = cc
logs_at (t ∷ ss) [] i s h e = absurd h
logs_at (t ∷ ss) (x ∷ ls) zero s h e = let same : t ≡ s = cc in (x, refl, subst (λ u. IsLogOf u x) same h.0)
logs_at (t ∷ ss) (x ∷ ls) (suc i) s h e = logs_at ss ls i s h.1 e

pub logs_length : (ss : List Client) (ls : List Log) → AreLogsOf ss ls → length ls ≡ length ss
logs_length [] ls h = ap length h
logs_length (t ∷ ss) [] h = absurd h
logs_length (t ∷ ss) (x ∷ ls) h = ap suc (logs_length ss ls h.1)

clients_at : (ss : List Client) (ls : List Log) (i : ℕ) (l : Log) → AreLogsOf ss ls → slice_get ls i ≡ Some l → (s : Client) × (slice_get ss i ≡ Some s) × IsLogOf s l
clients_at [] ls i l h e = let n : slice_get ls i ≡ None = ap (λ xs. slice_get xs i) h in cc
clients_at (t ∷ ss) [] i l h e = absurd h
clients_at (t ∷ ss) (x ∷ ls) zero l h e = let same : x ≡ l = cc in (t, refl, subst (λ u. IsLogOf t u) same h.0)
clients_at (t ∷ ss) (x ∷ ls) (suc i) l h e = clients_at ss ls i l h.1 e

-- the clients in order have their logs by number
pub has_logs : (ss rs : List Client) (ls : List Log) → IsPermutation ss rs → IsInOrder rs → AreLogsOf rs ls → All (HasLog ls) ss
has_logs ss rs ls p o h =
    let there : All (HasLog ls) rs = λ k d lt.
    let at : slice_get rs k ≡ Some (slice_index_or rs k d) = slice_get-get_or rs k d lt in
    let t = logs_at rs ls k (slice_index_or rs k d) h at in
    (t.0, ap (slice_get ls) (o k (slice_index_or rs k d) at) ∙ t.1, t.2) in
    All-permutation (HasLog ls) rs ss (IsPermutation-sym ss rs p) there

-- the logs of clients in order are numbered
pub are_numbered : (rs : List Client) (ls : List Log) → IsInOrder rs → AreLogsOf rs ls → AreNumbered ls
are_numbered rs ls o h i l at = let t = clients_at rs ls i l h at in t.2.0 ∙ o i t.0 t.1

-- where the clients' logs fit, the logs that they become fit
pub fits_of : {C : Type 0} (w : Works C) (a : State C) (h : List Event) (ss rs : List Client) (ls : List Log) → IsPermutation ss rs → AreLogsOf rs ls →
    All (λ s. Fits w a h s.number s.log) ss → All (λ l. Fits w a h l.seat l.entries.items) ls
fits_of w a h ss rs ls p of f k d lt =
    let there : All (λ s. Fits w a h s.number s.log) rs = All-permutation (λ s. Fits w a h s.number s.log) ss rs p f in
    let at : slice_get ls k ≡ Some (slice_index_or ls k d) = slice_get-get_or ls k d lt in
    let t = clients_at rs ls k (slice_index_or ls k d) of at in
    let in' : k < length rs = slice_get_within rs k t.0 t.1 in
    let fit : Fits w a h (slice_index_or rs k t.0).number (slice_index_or rs k t.0).log = there k t.0 in' in
    let same : slice_index_or rs k t.0 ≡ t.0 = get_or_from_slice_get rs k t.0 t.0 t.1 in
    let fit' : Fits w a h t.0.number t.0.log = subst (λ (s : Client). Fits w a h s.number s.log) same fit in
    let n = t.2.0 in let m = t.2.1 in
    rw (n, m) fit'

pub calls_of_fits : {C : Type 0} (w : Works C) (a : State C) (h : List Event) (ls : List Log) → All (λ l. Fits w a h l.seat l.entries.items) ls →
    All (λ l. length (calls_of l.seat h) ≡ length (receipts_of l.entries.items)) ls
calls_of_fits w a h ls f k d lt = ap length (sym (f k d lt).calls)
