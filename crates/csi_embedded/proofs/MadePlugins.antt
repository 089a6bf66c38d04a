-- What the store has to be given of a plugin that was made.
use Rattle.std.proofs.Common.{◌≡◌, ℕ, List, [], ◌∷◌, sym, ap, ◌∙◌, subst}
use Rattle.csi_stores.specs.Public.Part.{StoredPart, StoredChange, put_all}
use Rattle.csi_records.specs.declared.version.RecordVersion.{RecordVersion}
use Rattle.csi_embedded.specs.declared.ending.CallEnding.{CallEnding}
use Rattle.csi_embedded.specs.Public.Making.{Renews}

-- the head of a new record is all of it
pub told-head : (told given : List StoredChange) (value : List ℕ) (head : StoredPart) (parts : List StoredPart) → told ≡ given → given ≡ put_all (record { key = 0; value = value } ∷ []) → value ≡ head.value → head.key ≡ 0 → parts ≡ head ∷ [] → told ≡ put_all parts
told-head told given value head parts is put same key all =
    is ∙ put ∙ ap (λ (v : List ℕ). put_all (record { key = 0; value = v } ∷ [])) same ∙ ap (λ (k : ℕ). put_all (record { key = k; value = head.value } ∷ [])) (sym key) ∙ ap put_all (sym all)

-- of a record that was read, the parts are the plugin's
pub told-renewal : (version : RecordVersion) (kept parts : List StoredPart) (given told : List StoredChange) (ending : CallEnding) → Renews version kept given ending → parts ≡ kept → told ≡ given → Renews version parts told ending
told-renewal version kept parts given told ending renews same is =
    subst (λ (ps : List StoredPart). Renews version ps told ending) (sym same) (subst (λ (cs : List StoredChange). Renews version kept cs ending) (sym is) renews)
