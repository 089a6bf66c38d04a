-- Why a row's goal, its id, and whether its volume is there stay as they go together.
use Rattle.csi_orchestrator.proofs.Words.{◌≡◌, ℕ, List, refl, ◌⊎◌, Option, Some, None, option_or, kind_of, Goal}
use Rattle.csi_orchestrator.proofs.Words.{Create, Use, Stop, Delete, Usage, Known, Yes, Maybe, Due, RowShown}
use Rattle.csi_orchestrator.proofs.Words.{aspect_of, exists_marked, known_by_success_of, id_told, stopped_goal}
use Rattle.csi_orchestrator.proofs.Words.{IsStandingIf, due_in, arith}
use Rattle.csi_orchestrator.proofs.Lemmas.{false≢true, none-some}
use Rattle.csi_types.specs.declared.call.Kind.TheVariants as kinds
use Rattle.csi_orchestrator.proofs.DueCases.{IsDueFor}

-- how they go together before the due call is sent
abbrev pub MayStand : Type 0 → Option Goal → Option ℕ → Known → Type 0
MayStand N None id exists = IsStandingIf N None id exists
MayStand N (Some Create) None exists = exists ≡ Yes → N
MayStand N (Some Create) (Some id) exists = exists ≡ Yes
MayStand N (Some (Use usage)) id exists = IsStandingIf N (Some (Use usage)) id exists
MayStand N (Some (Stop node target)) id exists = IsStandingIf N (Some (Stop node target)) id exists
MayStand N (Some Delete) None exists = ⊥
MayStand N (Some Delete) (Some id) exists = Unit {0}

-- what may be so isn't known to be
maybe-yes : Maybe ≡ Yes → ⊥
maybe-yes e = cc

-- those that stand may
pub stands-may : (N : Type 0) → (goal : Option Goal) (id : Option ℕ) (exists : Known) → IsStandingIf N goal id exists → MayStand N goal id exists
stands-may N goal id exists own = grind (arith, maybe-yes)

-- the goal of a use is given up
pub stopped-stands : (N : Type 0) → (goal : Goal) (id : Option ℕ) (exists : Known) → MayStand N (Some goal) id exists → MayStand N (Some (stopped_goal goal)) id exists
stopped-stands N goal id exists may = grind arith

-- a goal at a node is of a volume that is there
pub use-made : (N : Type 0) → (usage : Usage) (id : Option ℕ) (exists : Known) → IsStandingIf N (Some (Use usage)) id exists → exists ≡ Yes
use-made N usage (Some id) Yes own = refl
use-made N usage id exists own = absurd own

-- so is a stop
pub stop-made : (N : Type 0) → (node target : List ℕ) (id : Option ℕ) (exists : Known) → IsStandingIf N (Some (Stop node target)) id exists → exists ≡ Yes
stop-made N node target (Some id) Yes own = refl
stop-made N node target id exists own = absurd own

-- it has an id
pub use-has_id : (N : Type 0) → (usage : Usage) (id : Option ℕ) (exists : Known) → IsStandingIf N (Some (Use usage)) id exists → (own : ℕ) × (id ≡ Some own)
use-has_id N usage (Some id) exists own = (id, refl)
use-has_id N usage None exists own = absurd own

-- so has the volume of a stop
pub stop-has_id : (N : Type 0) → (node target : List ℕ) (id : Option ℕ) (exists : Known) → IsStandingIf N (Some (Stop node target)) id exists → (own : ℕ) × (id ≡ Some own)
stop-has_id N node target (Some id) exists own = (id, refl)
stop-has_id N node target None exists own = absurd own

-- of a volume that is there and has an id a use and a stop may be wanted
pub use-may : (N : Type 0) (usage : Usage) (id : Option ℕ) → (id ≡ None → ⊥) → IsStandingIf N None id Yes → IsStandingIf N (Some (Use usage)) id Yes
use-may N usage (Some id) named own = tt
use-may N usage None named own = absurd (named refl)

-- and a stop
pub stop-may : (N : Type 0) (node target : List ℕ) (id : Option ℕ) → (id ≡ None → ⊥) → IsStandingIf N None id Yes → IsStandingIf N (Some (Stop node target)) id Yes
stop-may N node target (Some id) named own = tt
stop-may N node target None named own = absurd (named refl)

-- a volume without an id isn't known to be there, but where no id was told
pub create-may : (N : Type 0) (exists : Known) → IsStandingIf N None None exists → exists ≡ Yes → N
create-may N exists own = grind (arith, maybe-yes)

-- the due call is sent
pub sent-stands : (N : Type 0) → (row : RowShown) (due : Due) → IsDueFor row due → MayStand N row.goal row.id row.exists → IsStandingIf N row.goal row.id (exists_marked Maybe (aspect_of (kind_of due.call)) row.exists)
sent-stands N row due h may = grind (arith, false≢true)

-- the due call succeeds
pub done-stands : (N : Type 0) → (row : RowShown) (due : Due) (id : Option ℕ) → IsDueFor row due → (kind_of due.call ≡ kinds.CreateVolume → ((own : ℕ) × (id ≡ Some own)) ⊎ N) → MayStand N row.goal row.id row.exists
    → MayStand N row.goal (option_or (id_told (kind_of due.call) id) row.id) (exists_marked (known_by_success_of (kind_of due.call)) (aspect_of (kind_of due.call)) row.exists)
done-stands N row due id h brings may = grind arith

-- what was wanted is dropped
pub dropped-stands : (N : Type 0) → (row : RowShown) → due_in row ≡ None → MayStand N row.goal row.id row.exists → IsStandingIf N None row.id row.exists
dropped-stands N row e may = grind (arith, none-some)
