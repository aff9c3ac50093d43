-- The text of settings reads back as these.
use Rattle.std.proofs.Common.{◌≡◌, ◌∙◌, ℕ, ◌≤◌, List, Some, Result, Ok, Err, IsUtf8, sym, ap, subst}
use Rattle.std.specs.Prelude.{IfOk}
use Rattle.ring_settings.specs.Seats.{settings_of, settings_of_json}
use Rattle.ring_settings.specs.Walk.{json_of}
use Rattle.ring_settings.proofs.Documents.{json_of-some}
use Rattle.serde_json.specs.Data.{Data, depth}
use Rattle.serde_json.specs.Read.{read, max_depth}
use Rattle.setup_commands.specs.Settings.{document_of, settings_given, AreSettingsWords}
use Rattle.setup_commands.proofs.Documented.{flat}
use Rattle.setup_commands.proofs.GivenSettings.{rings_given, rings_long}
use Rattle.setup_commands.proofs.ReadBack.{read_back}
use Rattle.tool_requests.specs.declared.wanted.SettingsWords.{SettingsWords}

pub text_reads : (words : SettingsWords) → AreSettingsWords words → (d : Data) → d ≡ document_of words → (bs : List ℕ) → IsUtf8 bs → (depth d ≤ max_depth → read bs ≡ Some d) →
    settings_of bs ≡ Ok (settings_given words)
text_reads words are d is bs utf8 back =
    let shallow : depth d ≤ max_depth = subst (λ (x : Data). depth x ≤ max_depth) (sym is) (flat words) in
    let json : json_of bs ≡ Some (document_of words) = json_of-some bs d utf8 (back shallow) ∙ ap Some is in
    ap settings_of_json json ∙ read_back words are (rings_given words are) (rings_long words)

-- what follows from two facts about a result
pub from_both : {V E : Type 0} (r : Result V E) (P Q R : V → Type 0) → ((v : V) → P v → Q v → R v) → IfOk r P → IfOk r Q → IfOk r R
from_both (Ok v) P Q R f p q = f v p q
from_both (Err e) P Q R f p q = tt
