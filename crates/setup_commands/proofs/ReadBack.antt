-- The document of settings reads back as these settings.
use Rattle.std.proofs.Common.{◌≡◌, ◌∙◌, ℕ, zero, suc, ◌+◌, ◌<◌, ◌≤◌, ◌^◌, ◌==◌, Bool, true, false, cond, List, [], ◌∷◌, ◌++◌, length, map, replicate, append-nil, Option, None, Some, Result, Ok, refl, sym, ap, arith, eq-eqb}
use Rattle.std.specs.Prelude.{nat_lt, nat_le, codes, IfSome, ◌&&◌}
use Rattle.std.specs.List.{All, list_all}
use Rattle.std.specs.Option.{option_map}
use Rattle.std.proofs.lemmas.Bool.{le-leb, lt-leb, cond-true, cond-false}
use Rattle.std.proofs.lemmas.List.{length-map, length-replicate}
use Rattle.std.proofs.lemmas.List.Elements.{All-head, All-tail}
use Rattle.ring_model.specs.Limits.{machine_limit, value_limit}
use Rattle.ring_settings.specs.Contents.{RingData, SeatData, drawing, SettingsData, IsRingSetting, sizes_of as rings_sizes}
use Rattle.ring_settings.specs.Limits.{ring_limit, worker_limit, action_limit}
use Rattle.ring_settings.specs.Rings.{start_entry, start_values, start_member, size_fault, first_over, values_fault, size_from, unless_fault, ring_from, rings_member}
use Rattle.ring_settings.specs.Seats.{seat_from, injector_after, seats_member, settings_of_object}
use Rattle.ring_settings.specs.Walk.{then_with, each_from, items_count, limited, u32_member}
use Rattle.ring_settings.specs.declared.actions.Role.{Role}
use Rattle.ring_settings.specs.declared.actions.Role.TheVariants as role
use Rattle.ring_settings.specs.declared.faults.Field.TheVariants as field
use Rattle.ring_settings.specs.declared.faults.RingCause.{RingCause}
use Rattle.ring_settings.specs.declared.faults.RingCause.TheVariants as cause
use Rattle.ring_settings.specs.declared.faults.SettingsError.{SettingsError}
use Rattle.ring_state.specs.Sizes.{Size, IsSize}
use Rattle.serde_json.specs.Data.{Data}
use Rattle.serde_json.specs.View.{items_of}
use Rattle.setup_commands.specs.Settings.{number_json, ring_json, seat_json, injector_json, workers_json, document_of, settings_given, injector_of, sizes_of, AreSettingsWords}
use Rattle.tool_requests.specs.declared.wanted.SettingsWords.{SettingsWords}

-- ---- steps

then_ok : {A B : Type 0} (r : Result A SettingsError) (a : A) (next : A → Result B SettingsError) → r ≡ Ok a → then_with r next ≡ next a
then_ok {A} r a next e = ap (λ (x : Result A SettingsError). then_with x next) e

-- where each entry reads as what it is the text of, the array reads as the list of these
each_back : {A : Type 0} (P : A → Type 0) (entry : ℕ → Data → Result A SettingsError) (f : A → Data) → ((p : ℕ) (x : A) → P x → entry p (f x) ≡ Ok x) →
    (p : ℕ) (xs : List A) → All P xs → each_from entry p (items_of (map f xs)) ≡ Ok xs
each_back P entry f reads p [] all = refl
each_back {A} P entry f reads p (x ∷ xs) all =
    then_ok (entry p (f x)) x (λ (a : A). then_with (each_from entry (p + 1) (items_of (map f xs))) (λ (rest : List A). Ok (a ∷ rest))) (reads p x (All-head P x xs all))
    ∙ then_ok (each_from entry (p + 1) (items_of (map f xs))) xs (λ (rest : List A). Ok (x ∷ rest)) (each_back P entry f reads (p + 1) xs (All-tail P x xs all))

-- the same of an array of equal entries
each_same : {A : Type 0} (entry : ℕ → Data → Result A SettingsError) (d : Data) (x : A) → ((p : ℕ) → entry p d ≡ Ok x) →
    (p n : ℕ) → each_from entry p (items_of (replicate n d)) ≡ Ok (replicate n x)
each_same entry d x reads p zero = refl
each_same {A} entry d x reads p (suc n) =
    then_ok (entry p d) x (λ (a : A). then_with (each_from entry (p + 1) (items_of (replicate n d))) (λ (rest : List A). Ok (a ∷ rest))) (reads p)
    ∙ then_ok (each_from entry (p + 1) (items_of (replicate n d))) (replicate n x) (λ (rest : List A). Ok (x ∷ rest)) (each_same entry d x reads (p + 1) n)

count_items : (ds : List Data) → items_count (items_of ds) ≡ length ds
count_items [] = refl
count_items (d ∷ ds) = let more = count_items ds in omega (arith, more)

both_true : (a b : Bool) → a ≡ true → b ≡ true → (a && b) ≡ true
both_true a b ha hb = ap (λ (x : Bool). x && b) ha ∙ hb

within : (a b : ℕ) → a ≤ b → nat_le a b ≡ true
within a b h = le-leb a b h

below : (a b : ℕ) → a < b → nat_lt a b ≡ true
below a b h = le-leb (suc a) b (omega (arith, h))

not_below : (a b : ℕ) → b ≤ a → nat_lt a b ≡ false
not_below a b h = lt-leb (suc a) b (omega (arith, h))

-- ---- a ring

size_right : (s : Size) → IsSize s → size_fault s.n s.k ≡ None
size_right s is =
    let later3 : Option RingCause = cond (nat_lt value_limit s.k) (Some cause.ManyValues) None in
    let later2 : Option RingCause = cond (nat_lt s.k s.n) (Some cause.FewValues) later3 in
    let later1 : Option RingCause = cond (nat_lt machine_limit s.n) (Some cause.TooMany) later2 in
    cond-false (nat_lt s.n 2) (Some cause.TooFew) later1 (not_below s.n 2 is.machines)
    ∙ cond-false (nat_lt machine_limit s.n) (Some cause.TooMany) later2 (not_below machine_limit s.n is.most_machines)
    ∙ cond-false (nat_lt s.k s.n) (Some cause.FewValues) later3 (not_below s.k s.n is.values)
    ∙ cond-false (nat_lt value_limit s.k) (Some cause.ManyValues) None (not_below value_limit s.k is.most)

none_over : (k p : ℕ) (vs : List ℕ) → All (λ v. v < k) vs → first_over k p vs ≡ None
none_over k p [] all = refl
none_over k p (v ∷ vs) all =
    cond-true (nat_lt v k) (first_over k (p + 1) vs) (Some p) (below v k (All-head (λ x. x < k) v vs all)) ∙ none_over k (p + 1) vs (All-tail (λ x. x < k) v vs all)

values_right : (r : RingData) → IsRingSetting r → values_fault r.size r.start ≡ None
values_right r is =
    cond-true (length r.start == r.size.n) (option_map cause.Value (first_over r.size.k 0 r.start)) (Some cause.Length) (eq-eqb (length r.start) r.size.n is.one_each)
    ∙ ap (option_map cause.Value) (none_over r.size.k 0 r.start is.below)

all_few : (k : ℕ) (vs : List ℕ) → k ≤ 2 ^ 32 → All (λ v. v < k) vs → list_all (λ v. nat_lt v (2 ^ 32)) vs ≡ true
all_few k [] few all = refl
all_few k (v ∷ vs) few all =
    let first : v < k = All-head (λ x. x < k) v vs all in
    ap (λ (b : Bool). b && list_all (λ x. nat_lt x (2 ^ 32)) vs) (below v (2 ^ 32) (omega (arith, first, few)))
    ∙ all_few k vs few (All-tail (λ x. x < k) v vs all)

start_back : (r : RingData) → IsRingSetting r → start_member (ring_json r) ≡ Ok r.start
start_back r is =
    let most = is.size.most in
    let few : r.size.k ≤ 2 ^ 32 = omega (arith, most) in
    then_ok (each_from start_entry 0 (items_of (map number_json r.start))) r.start start_values (each_back (λ v. v < r.size.k) start_entry number_json (λ p v l. refl) 0 r.start is.below)
    ∙ cond-true (list_all (λ v. nat_lt v (2 ^ 32)) r.start) (Ok r.start) _ (all_few r.size.k r.start few is.below)

n_back : (r : RingData) → IsRingSetting r → u32_member field.N (codes "n") (ring_json r) ≡ Ok r.size.n
n_back r is = let most = is.size.most_machines in cond-true (nat_lt r.size.n (2 ^ 32)) (Ok r.size.n) _ (below r.size.n (2 ^ 32) (omega (arith, most)))

k_back : (r : RingData) → IsRingSetting r → u32_member field.K (codes "k") (ring_json r) ≡ Ok r.size.k
k_back r is = let most = is.size.most in cond-true (nat_lt r.size.k (2 ^ 32)) (Ok r.size.k) _ (below r.size.k (2 ^ 32) (omega (arith, most)))

ring_back : (p : ℕ) (r : RingData) → IsRingSetting r → ring_from p (ring_json r) ≡ Ok r
ring_back p r is =
    let d = ring_json r in
    then_ok (u32_member field.N (codes "n") d) r.size.n
    (λ (n : ℕ). then_with (u32_member field.K (codes "k") d) (λ (k : ℕ). then_with (start_member d) (λ (start : List ℕ). then_with (size_from p n k) (λ (size : Size). unless_fault p (values_fault size start) (record { size = size; start = start })))))
    (n_back r is)
    ∙ then_ok (u32_member field.K (codes "k") d) r.size.k
    (λ (k : ℕ). then_with (start_member d) (λ (start : List ℕ). then_with (size_from p r.size.n k) (λ (size : Size). unless_fault p (values_fault size start) (record { size = size; start = start }))))
    (k_back r is)
    ∙ then_ok (start_member d) r.start
    (λ (start : List ℕ). then_with (size_from p r.size.n r.size.k) (λ (size : Size). unless_fault p (values_fault size start) (record { size = size; start = start })))
    (start_back r is)
    ∙ then_ok (size_from p r.size.n r.size.k) r.size
    (λ (size : Size). unless_fault p (values_fault size r.start) (record { size = size; start = r.start }))
    (ap (λ (f : Option RingCause). unless_fault p f r.size) (size_right r.size is.size))
    ∙ ap (λ (f : Option RingCause). unless_fault p f r) (values_right r is)

rings_back : (words : SettingsWords) → (let rings = (settings_given words).rings in 1 ≤ length rings → length rings ≤ ring_limit → All IsRingSetting rings → rings_member (document_of words) ≡ Ok rings)
rings_back words some most all =
    let rings = (settings_given words).rings in
    let items = items_of (map ring_json rings) in
    let count : items_count items ≡ length rings = count_items (map ring_json rings) ∙ length-map rings ring_json in
    cond-true (nat_le 1 (items_count items) && nat_le (items_count items) ring_limit) (each_from ring_from 0 items) _
    (both_true _ _ (within 1 (items_count items) (omega (arith, count, some))) (within (items_count items) ring_limit (omega (arith, count, most))))
    ∙ each_back IsRingSetting ring_from ring_json ring_back 0 rings all

-- ---- a seat

seat_back : (r : Role) (sizes : List Size) (p seed actions : ℕ) → actions ≤ action_limit → seat_from r sizes p (seat_json seed actions) ≡ Ok (drawing r seed actions)
seat_back r sizes p seed actions most =
    then_ok (limited field.Actions (nat_le actions action_limit) actions) actions (λ (n : ℕ). Ok (drawing r seed n))
    (cond-true (nat_le actions action_limit) (Ok actions) _ (within actions action_limit most))

injector_back : (sizes : List Size) (workers : List SeatData) (seed : ℕ) (actions : Option ℕ) → IfSome actions (λ n. n ≤ action_limit) →
    injector_after sizes workers (Some (injector_json seed actions)) ≡ Ok (workers ++ injector_of seed actions)
injector_back sizes workers seed None most = ap Ok (sym (append-nil workers))
injector_back sizes workers seed (Some n) most =
    then_ok (seat_from role.Injector sizes (length workers) (seat_json seed n)) (drawing role.Injector seed n) (λ (injector : SeatData). Ok (workers ++ injector ∷ []))
    (seat_back role.Injector sizes (length workers) seed n most)

seats_back : (words : SettingsWords) (sizes : List Size) → AreSettingsWords words → seats_member sizes (document_of words) ≡ Ok (settings_given words).seats
seats_back words sizes are =
    let worker : SeatData = drawing role.Worker words.seed words.actions in
    let workers : List SeatData = replicate words.workers worker in
    let items = items_of (workers_json words) in
    let count : items_count items ≡ words.workers = count_items (workers_json words) ∙ length-replicate words.workers (seat_json words.seed words.actions) in
    let some = are.workers.some in
    let most = are.workers.most in
    then_ok _ workers (λ (ws : List SeatData). injector_after sizes ws (Some (injector_json words.seed words.injector)))
    (cond-true (nat_le 1 (items_count items) && nat_le (items_count items) worker_limit) (each_from (seat_from role.Worker sizes) 0 items) _
    (both_true _ _ (within 1 (items_count items) (omega (arith, count, some))) (within (items_count items) worker_limit (omega (arith, count, most))))
    ∙ each_same (seat_from role.Worker sizes) (seat_json words.seed words.actions) worker
    (λ p. seat_back role.Worker sizes p words.seed words.actions are.actions.workers) 0 words.workers)
    ∙ injector_back sizes workers words.seed words.injector are.actions.injector

-- ---- all of it

abbrev whole : List RingData → List SeatData → Result SettingsData SettingsError
whole rings seats = Ok (record { rings = rings; seats = seats })

pub read_back : (words : SettingsWords) → AreSettingsWords words → All IsRingSetting (settings_given words).rings → length (settings_given words).rings ≡ length (sizes_of words) →
    settings_of_object (document_of words) ≡ Ok (settings_given words)
read_back words are all long =
    let settings = settings_given words in
    let some = are.rings.some in
    let most = are.rings.most in
    then_ok (rings_member (document_of words)) settings.rings
    (λ (rings : List RingData). then_with (seats_member (rings_sizes rings) (document_of words)) (whole rings))
    (rings_back words (omega (arith, some, long)) (omega (arith, most, long)) all)
    ∙ then_ok (seats_member (rings_sizes settings.rings) (document_of words)) settings.seats
    (whole settings.rings) (seats_back words (rings_sizes settings.rings) are)
