-- What statements on the table do in a transaction, and changes in one of their own. This profile's own.
use Rattle.std.specs.Prelude.{◌≡◌, ◌⊎◌, IsTrue, false, List, Result, IfOk, IfErr, OnOk}
use Rattle.std.specs.Borrow.{MutBor}
use Rattle.sqlite_trees.specs.declared.store.Store.{Ghosts}
use Rattle.sqlite.specs.declared.error.Error.{Error}
use Rattle.sqlite.specs.Held.{Held, state}
use Rattle.sqlite.specs.State.{State, HasCleanDisk, Survives}
use Rattle.sqlite.specs.Tree.{Trees}
use Rattle.csi_stores.specs.Public.Part.{StoredPart, StoredChange}
use Rattle.csi_stores.specs.Public.Content.{all_changed}
use Rattle.csi_sqlite.specs.Public.Tables.{StoresParts, HoldsParts}

-- In a transaction, whose connection stays the same one, what the table had is changed so; this ran, or this refused it. Nothing is
-- committed by that.
pub record RunsInside {S A X : Type 0} (g : Ghosts S) (has : State → X → Type 0) (change : A → X → X) (runs : A → Held S → Held S → Type 0) (refuses : Held S → Held S → Error → Type 0) (before after : MutBor (Held S)) (result : Result A Error) : Type 0 where
  pub same_reference : after.ghost_name ≡ before.ghost_name
  pub changed : HasCleanDisk (state g after.now) → (content : X) → has (state g before.now) content → IfOk result (λ a. has (state g after.now) (change a content))
  pub ran : HasCleanDisk (state g after.now) → IsTrue (state g before.now).in_transaction → IfOk result (λ a. runs a before.now after.now)
  pub refused : HasCleanDisk (state g after.now) → IsTrue (state g before.now).in_transaction → IfErr result (refuses before.now after.now)
  pub survives : Survives (state g before.now) (state g after.now) (λ _. ⊥)

-- In a transaction of their own all changes are made and committed, or none; a crash leaves what it would have left before, or all of them
-- made. Where none was open before, none is left open, and this refused them.
pub record ChangesAtOnce {S A E : Type 0} (g : Ghosts S) (changes : List StoredChange) (refuses : E → Type 0) (before after : Held S) (result : Result A E) : Type 0 where
  pub clean : HasCleanDisk (state g after) → HasCleanDisk (state g before)
  pub done : HasCleanDisk (state g after) → (content : List StoredPart) → HoldsParts (state g before) content → OnOk result (HoldsParts (state g after) (all_changed changes content))
  pub crash : HasCleanDisk (state g after) → (content : List StoredPart) → HoldsParts (state g before) content → (db : Trees) → (state g after).may_leave db → (state g before).may_leave db ⊎ StoresParts db (all_changed changes content)
  pub refused : HasCleanDisk (state g after) → (state g before).in_transaction ≡ false → IfErr result refuses
  pub outside : (state g before).in_transaction ≡ false → (state g after).in_transaction ≡ false
