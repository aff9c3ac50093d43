-- How a ring is spelled in a saved text, and that this text is legal.
use Rattle.std.proofs.Common.{◌≡◌, ℕ, ◌+◌, List, [], ◌∷◌, length, get_or, map, refl, sym, ◌∙◌, subst, arith}
use Rattle.std.specs.List.{All, flat_map, AllByRecursion}
use Rattle.std.proofs.lemmas.List.{append-nil}
use Rattle.std.proofs.lemmas.List.Elements.{All-cons}
use Rattle.std.proofs.lemmas.Option.{slice_get_within, get_or_from_slice_get}
use Rattle.ring_model.specs.Resources.{till}
use Rattle.ring_model.specs.History.{opening}
use Rattle.ring_model.specs.declared.events.Survey.{Survey}
use Rattle.ring_logs.specs.LogView.{LogView}
use Rattle.saved_history.specs.Content.{Block}
use Rattle.saved_history.specs.Versions.{latest_version}
use Rattle.saved_history.specs.Spelling.{survey_line, block_text, SurveyFits, BlockFits, Fits}
use Rattle.saved_history.proofs.Passing.{Spelled}
use Rattle.ring_check.specs.Legal.{IsLegalText}
use Rattle.ring_check.specs.Meaning.{IsRightBlock}
use Rattle.ring_check.proofs.Meanings.{legal_means}
use Rattle.one_thread_ring.specs.SavedOf.{saved_survey}
use Rattle.one_thread_ring.proofs.WrittenBlocks.{ArePlaced, parts_right}
use Rattle.one_thread_ring.specs.Rings.{RingView, IsOneThreadRing, IsClient}
use Rattle.one_thread_ring.specs.Texts.{saved_block, saved_alone}

-- ---- surveys

abbrev pub surveys_text : ℕ → ℕ → List Survey → List ℕ
surveys_text seat i ss = flat_map survey_line (map (saved_survey seat) ss)

abbrev pub SurveysFit : ℕ → ℕ → List Survey → Type 0
SurveysFit seat i ss = AllByRecursion SurveyFits (map (saved_survey seat) ss)

abbrev pub survey_text : ℕ → ℕ → Survey → List ℕ
survey_text seat i s = survey_line (saved_survey seat s)

abbrev pub SurveyFit : ℕ → ℕ → Survey → Type 0
SurveyFit seat i s = SurveyFits (saved_survey seat s)

pub surveys_spelled : (seat : ℕ) → Spelled (survey_text seat) (surveys_text seat) (SurveyFit seat) (SurveysFit seat)
surveys_spelled seat = record { none = λ i. refl; next = λ i s ss. refl; fits_none = λ i. tt; fits_next = λ i s ss f h. (f, h) }

-- ---- rings

-- the one block of a text
pub alone_text : (d : RingView ℕ) → flat_map block_text (saved_block 0 d ∷ []) ≡ block_text (saved_block 0 d)
alone_text d = append-nil (block_text (saved_block 0 d))

pub alone_fits : (d : RingView ℕ) → BlockFits latest_version (saved_block 0 d) → Fits (saved_alone d)
alone_fits d block = record { version = (omega arith, omega arith); some = omega arith; rings = (block, tt); rings_said = omega arith }

-- each client's log is placed
placed : (d : RingView ℕ) → IsOneThreadRing till 0 d → ArePlaced LogView (λ c. c.number) (λ c. c.log) (opening d.book.start 0) d.book.history 0 d.clients
placed d k i c at =
    let client : IsClient till 0 d.book i (get_or d.clients i c) = k.each i c (slice_get_within d.clients i c at) in
    let here : IsClient till 0 d.book i c = subst (λ (x : LogView). IsClient till 0 d.book i x) (get_or_from_slice_get d.clients i c c at) client in
    let same : 0 + i ≡ i = omega arith in
    (here.number ∙ sym same, here.fits.entries)

pub ring_right : (place : ℕ) (d : RingView ℕ) → IsOneThreadRing till 0 d → IsRightBlock latest_version place (saved_block place d)
ring_right place d k =
    let start = k.book.start_ring in
    parts_right LogView (λ c. c.number) (λ c. c.log) place d.book.start d.book.history d.clients start.ring start.most_machines start.most (k.book.legal, k.book.whole) k.few k.of_seats (placed d k)

pub alone_legal : (d : RingView ℕ) → IsOneThreadRing till 0 d → IsLegalText (saved_alone d)
alone_legal d k =
    let whole : All (λ (b : Block). length b.start ≡ b.n) (saved_block 0 d ∷ []) = All-cons (λ (b : Block). length b.start ≡ b.n) (saved_block 0 d) [] refl (λ i b l. absurd (omega (arith, l))) in
    (legal_means (saved_alone d) whole).1 (record { blocks = (ring_right 0 d k, tt); rings_said = refl })
