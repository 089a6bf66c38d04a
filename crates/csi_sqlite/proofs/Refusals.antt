-- Why SQLite refused: as what an error is told, and changes of which one is refused.
use Rattle.std.proofs.Common.{◌≡◌, ◌∙◌, ◌⊎◌, inl, inr, ℕ, zero, suc, ◌<◌, IsTrue, Option, Some, None, List, [], ◌∷◌, ◌↔◌, length, drop, get_or, Result, Ok, Err, IfErr, refl, sym, ap, subst, arith}
use Rattle.sqlite.specs.declared.error.Error.{Error}
use Rattle.sqlite.specs.declared.error.Error.TheVariants.{SqliteFailure}
use Rattle.sqlite.specs.declared.error.ErrorCode.TheVariants.{OutOfMemory}
use Rattle.sqlite_trees.specs.declared.store.Store.{Ghosts}
use Rattle.sqlite.specs.Held.{Held, state}
use Rattle.csi_stores.specs.declared.keep.KeepFault.{KeepFault}
use Rattle.csi_stores.specs.declared.keep.KeepFault.TheVariants.{Device, NoMemory, BadRecord, Full}
use Rattle.csi_sqlite.specs.Private.Tables.{IsCounted}
use Rattle.csi_sqlite.specs.Public.Refusals.{IsToldFault, WantsMemory, IsToldOfCopies, MakesChange}

-- an error is told as a failing device where it isn't out of memory
pub told : (P : Error → Type 0) (before after : ℕ) (error : Error) (fault : KeepFault) → IsCounted before after fault → ((fault ≡ NoMemory) ↔ (error ≡ SqliteFailure OutOfMemory)) → P error → IsToldFault P fault
told P before after error Device counted memory refuses = (error, λ is. absurd (let e = memory.1 is in cc), refuses)
told P before after error NoMemory counted memory refuses = subst P (memory.0 refl) refuses
told P before after error (BadRecord place) counted memory refuses = absurd counted
told P before after error Full counted memory refuses = absurd counted

-- an error at opening copies, where it is known to be one or the other
pub told_of_copies : (P : Error → Type 0) (error : Error) (fault : KeepFault) → ((fault ≡ NoMemory) ↔ WantsMemory error) → (fault ≡ Device) ⊎ (fault ≡ NoMemory) → P error → IsToldOfCopies P fault
told_of_copies P error fault memory (inl device) refuses = subst (IsToldOfCopies P) (sym device) (error, λ wants. absurd (let e = sym device ∙ memory.1 wants in cc), refuses)
told_of_copies P error fault memory (inr wanting) refuses = subst (IsToldOfCopies P) (sym wanting) (error, memory.0 wanting, refuses)

-- a change that is made in a transaction leaves it open
pub still_inside : {S : Type 0} (g : Ghosts S) (key : ℕ) (value : Option (List ℕ)) (old new : Held S) → MakesChange g key value old new → IsTrue (state g new).in_transaction
still_inside g key (Some value) old new (inl changed) = changed.2.1.mode
still_inside g key (Some value) old new (inr inserted) = inserted.2.1.1.mode
still_inside g key None old new made = made.1.1.mode

-- from a place inside on, a list begins with what stands there
pub from_place : {A : Type 0} (xs : List A) (i : ℕ) (x : A) → i < length xs → x ≡ get_or xs i x → drop i xs ≡ x ∷ drop (suc i) xs
from_place [] i x within here = absurd (omega arith)
from_place (y ∷ ys) zero x within here = ap (λ z. z ∷ ys) (sym here)
from_place (y ∷ ys) (suc i) x within here = from_place ys i x (omega arith) here

-- what is so of an error is so of a result that is this error
pub if_err : {A E : Type 0} (P : E → Type 0) (r : Result A E) (e : E) → r ≡ Err e → P e → IfErr r P
if_err P (Ok a) e is so = tt
if_err P (Err x) e is so = let same : e ≡ x = cc in subst P same so
