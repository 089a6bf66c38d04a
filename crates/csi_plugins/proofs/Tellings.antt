-- What a store answers, told.
use Rattle.std.proofs.Common.{◌≡◌, inl, refl, ℕ, List, subst}
use Rattle.csi_stores.specs.declared.keep.KeepFault.{KeepFault}
use Rattle.csi_stores.specs.declared.keep.KeepFault.TheVariants.{Device, NoMemory, BadRecord, Full}
use Rattle.csi_stores.specs.Public.Keeping.{IsForeignFault}
use Rattle.csi_stores.specs.Public.Part.{StoredPart}
use Rattle.csi_stores.specs.Public.Stores.{Store, IsLoadFault}
use Rattle.csi_streams.specs.declared.ending.Ending.{Ending}
use Rattle.csi_streams.specs.declared.ending.Ending.TheVariants as endings
use Rattle.csi_plugins.specs.Public.Ending.{ending_of_store, EndsAt}
use Rattle.csi_plugins.specs.Public.Recording.{IsLineOf, IsSomeRecord, IsNoRecordAt, IsNotTold, IsRecordTold, WritesRecordLine, Writer}
use Rattle.csi_plugins.specs.Private.Recording.{HasNoLine}

-- why the parts that a store gave have no line is why it isn't told
pub not_told : (before after : Store) (parts : List StoredPart) → (after.honest → (content : List StoredPart) → before.holds content → parts ≡ content) → (ending : Ending) → HasNoLine IsSomeRecord parts ending → IsNotTold before after ending
not_told before after parts are (endings.RecordFault place) why = λ honest content holds. subst (λ (p : List StoredPart). IsNoRecordAt p place) (are honest content holds) why
not_told before after parts are endings.Memory why = tt
not_told before after parts are ending why = absurd why

-- a store that refuses
pub load_refused : (before after : Store) (fault : KeepFault) → IsLoadFault before after fault → IsNotTold before after (ending_of_store fault)
load_refused before after Device cause = cause
load_refused before after NoMemory cause = tt
load_refused before after (BadRecord place) cause = λ honest content holds. absurd (cause honest content holds)
load_refused before after Full cause = absurd cause

-- where a store has something that is no part, the process ends at its place, or for the device or for memory
pub refuses_at : (place : ℕ) (fault : KeepFault) → IsForeignFault place fault → EndsAt place (ending_of_store fault)
refuses_at place Device at = tt
refuses_at place NoMemory at = tt
refuses_at place (BadRecord here) at = at
refuses_at place Full at = tt

-- the line of the parts that a store gave is its own
pub is_told : (before after : Store) (parts : List StoredPart) → (after.honest → (content : List StoredPart) → before.holds content → parts ≡ content) → (line : List ℕ) → IsLineOf parts line → IsRecordTold before after line
is_told before after parts are line is = λ honest content holds. subst (λ (p : List StoredPart). IsLineOf p line) (are honest content holds) is

-- where there is no line nothing is written
pub records_refused : (before after : Store) (had : Writer) (ending : Ending) → IsNotTold before after ending → WritesRecordLine before after had had ending
records_refused before after had endings.Device why = inl (refl, why)
records_refused before after had (endings.RecordFault place) why = (refl, why)
records_refused before after had endings.Memory why = (refl, why)
records_refused before after had ending why = absurd why
