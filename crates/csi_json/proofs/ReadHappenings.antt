-- What happens in a schedule, read one by one: the first that is nothing.
use Rattle.std.proofs.Common.{◌≡◌, ℕ, ◌<◌, ◌+◌, List, [], ◌∷◌, ◌++◌, length, map, take, get_or, ap}
use Rattle.std.specs.Prelude.{option_map, Ok, Err}
use Rattle.serde_json.specs.View.{view}
use Rattle.serde_json.specs.declared.value.Value.{Value}
use Rattle.csi_json.specs.declared.happening.Happening.{Happening}
use Rattle.csi_json.specs.declared.values.Flaw.{Flaw}
use Rattle.csi_json.specs.declared.values.Flaw.TheVariants.{Bad, NoMemory}
use Rattle.csi_json.specs.Public.Json.{read_all}
use Rattle.csi_json.specs.Private.Json.{Reads}
use Rattle.csi_json.specs.Public.Faults.{event_fault, IsScheduleFault}
use Rattle.csi_json.proofs.ReadLists.{stops}
use Rattle.csi_json.specs.Public.Happenings.{happening_of}
use Rattle.csi_json.specs.Public.Schedule.{happenings_or_fault}

-- the events before this one were read, and it isn't: the fault tells its place
pub faulty : (xs : List Value) (i : ℕ) (x : Value) (old new : List Happening) (flaw : Flaw) → i < length xs → x ≡ get_or xs i x
    → Reads {A = Unit {0}} {B = List Happening} (λ _. new) (Err flaw) (option_map (λ y. old ++ y ∷ []) (happening_of (view x))) → read_all happening_of 1 (map view (take i xs)) ≡ Ok old
    → IsScheduleFault (happenings_or_fault (read_all happening_of 1 (map view xs))) (event_fault flaw (i + 1))
faulty xs i x old new Bad h e one was = ap happenings_or_fault (stops happening_of xs i x old h e one was)
faulty xs i x old new NoMemory h e one was = tt
