-- The settings that words give are such as a farm can run.
use Rattle.std.proofs.Common.{◌≡◌, ◌∙◌, ℕ, ◌+◌, ◌≤◌, List, [], ◌∷◌, length, map, replicate, Option, None, Some, refl, ap, arith, length-append}
use Rattle.std.specs.Prelude.{IfSome, codes}
use Rattle.std.specs.List.{All}
use Rattle.std.proofs.lemmas.List.{length-replicate}
use Rattle.std.proofs.lemmas.List.Elements.{All-nil, All-cons, All-head, All-tail, All-append, All-replicate}
use Rattle.ring_settings.specs.Contents.{RingData, SeatData, drawing, IsRingSetting, IsSeatFor, IsSettings, sizes_of as rings_sizes}
use Rattle.ring_settings.specs.Limits.{action_limit}
use Rattle.ring_settings.specs.declared.actions.Role.TheVariants as role
use Rattle.ring_state.specs.Sizes.{Size, IsSize}
use Rattle.saved_history.specs.Content.{Block, block_of}
use Rattle.saved_history.specs.declared.saved.SavedRing.{SavedRing}
use Rattle.serde_json.specs.Data.{Data, array, object, member, no_members}
use Rattle.serde_json.specs.View.{items_of}
use Rattle.setup_commands.specs.Rings.{ring_of, rings_from, blocks_from}
use Rattle.setup_commands.specs.Settings.{settings_given, injector_of, ring_in, ring_json, injector_json, workers_json, document_of, sizes_of, AreSettingsWords}
use Rattle.setup_commands.proofs.LegalStarts.{rings_count}
use Rattle.setup_commands.proofs.Starting.{is_setting}
use Rattle.tool_requests.specs.declared.wanted.SettingsWords.{SettingsWords}

-- ---- the rings

all_settings : (seed : Option ℕ) (place : ℕ) (sizes : List Size) → All IsSize sizes → All IsRingSetting (rings_from seed place sizes)
all_settings seed place [] all = All-nil IsRingSetting
all_settings seed place (s ∷ ss) all =
    All-cons IsRingSetting (ring_of seed place s) (rings_from seed (place + 1) ss) (is_setting seed place s (All-head IsSize s ss all))
    (all_settings seed (place + 1) ss (All-tail IsSize s ss all))

pub rings_given : (words : SettingsWords) → AreSettingsWords words → All IsRingSetting (settings_given words).rings
rings_given words are = all_settings words.drawn 0 (sizes_of words) are.rings.allowed

pub rings_long : (words : SettingsWords) → length (settings_given words).rings ≡ length (sizes_of words)
rings_long words = rings_count words.drawn 0 (sizes_of words)

-- those that the blocks have
pub rings_in : (place : ℕ) (rings : List RingData) → map ring_in (blocks_from place rings) ≡ rings
rings_in place [] = refl
rings_in place (r ∷ rs) = ap (λ (xs : List RingData). r ∷ xs) (rings_in (place + 1) rs)

-- ---- the seats

injector_few : (seed : ℕ) (actions : Option ℕ) → length (injector_of seed actions) ≤ 1
injector_few seed None = omega arith
injector_few seed (Some n) = omega arith

injector_fits : (sizes : List Size) (seed : ℕ) (actions : Option ℕ) → IfSome actions (λ n. n ≤ action_limit) → All (IsSeatFor sizes) (injector_of seed actions)
injector_fits sizes seed None most = All-nil (IsSeatFor sizes)
injector_fits sizes seed (Some n) most = All-cons (IsSeatFor sizes) (drawing role.Injector seed n) [] most (All-nil (IsSeatFor sizes))

pub given_settings : (words : SettingsWords) → AreSettingsWords words → IsSettings (settings_given words)
given_settings words are =
    let rings = (settings_given words).rings in
    let worker : SeatData = drawing role.Worker words.seed words.actions in
    let long = rings_long words in
    let some = are.rings.some in
    let most = are.rings.most in
    let some_workers = are.workers.some in
    let most_workers = are.workers.most in
    let both = length-append (replicate words.workers worker) (injector_of words.seed words.injector) in
    let workers = length-replicate words.workers worker in
    let last = injector_few words.seed words.injector in
    record {
      some_rings = omega (arith, long, some);
      most_rings = omega (arith, long, most);
      rings = rings_given words are;
      some_seats = omega (arith, both, workers, some_workers);
      most_seats = omega (arith, both, workers, last, most_workers);
      seats =
          All-append (IsSeatFor (rings_sizes rings)) (replicate words.workers worker) (injector_of words.seed words.injector)
          (All-replicate (IsSeatFor (rings_sizes rings)) words.workers worker are.actions.workers)
          (injector_fits (rings_sizes rings) words.seed words.injector are.actions.injector);
    }

-- ---- the document

same_rings : (rings : List SavedRing) → map (λ r. ring_json (ring_in (block_of r))) rings ≡ map ring_json (map ring_in (map block_of rings))
same_rings [] = refl
same_rings (r ∷ rs) = ap (λ (ds : List Data). ring_json (ring_in (block_of r)) ∷ ds) (same_rings rs)

pub document_is : (words : SettingsWords) (injector : Data) (rings workers : List Data) (saved : List SavedRing) → injector ≡ injector_json words.seed words.injector →
    rings ≡ map (λ r. ring_json (ring_in (block_of r))) saved → map block_of saved ≡ blocks_from 0 (settings_given words).rings → workers ≡ workers_json words →
    object (member (codes "injector") injector (member (codes "rings") (array (items_of rings)) (member (codes "workers") (array (items_of workers)) no_members))) ≡ document_of words
document_is words injector rings workers saved ei er es ew =
    let all : rings ≡ map ring_json (settings_given words).rings =
    er ∙ same_rings saved ∙ ap (λ (bs : List Block). map ring_json (map ring_in bs)) es ∙ ap (λ (rs : List RingData). map ring_json rs) (rings_in 0 (settings_given words).rings) in
    ap (λ (i : Data). object (member (codes "injector") i (member (codes "rings") (array (items_of rings)) (member (codes "workers") (array (items_of workers)) no_members)))) ei
    ∙ ap (λ (rs : List Data). object (member (codes "injector") (injector_json words.seed words.injector) (member (codes "rings") (array (items_of rs)) (member (codes "workers") (array (items_of workers)) no_members)))) all
    ∙ ap (λ (ws : List Data). object (member (codes "injector") (injector_json words.seed words.injector) (member (codes "rings") (array (items_of (map ring_json (settings_given words).rings))) (member (codes "workers") (array (items_of ws)) no_members)))) ew
