-- Stores, one call after another.
use Rattle.std.proofs.Common.{◌≡◌, inl, inr, refl, ℕ, ◌≤◌, List, [], ◌∷◌, ◌++◌, arith}
use Rattle.csi_stores.specs.declared.keep.KeepFault.{KeepFault}
use Rattle.csi_stores.specs.declared.keep.KeepFault.TheVariants.{Device, NoMemory, BadRecord, Full}
use Rattle.csi_stores.specs.Public.Content.{all_changed}
use Rattle.csi_stores.specs.Public.Part.{StoredPart, StoredChange}
use Rattle.csi_stores.specs.Public.Counting.{HasRisen}
use Rattle.csi_stores.specs.Public.Stores.{Store, FollowsStore, LeavesOnly, LeavesEither, IsContentRefusal}

-- a store that isn't called follows itself
pub follows-same : (now : Store) → FollowsStore now now
follows-same now = record { honest = λ h. h; room = λ content h. h; no_more_room = λ content h. h; faults = omega arith }

-- what a call never changes, or only raises, two calls in turn don't change, or only raise
pub follows-more : (a b c : Store) → FollowsStore a b → FollowsStore b c → FollowsStore a c
follows-more a b c first second = record {
  honest = λ h. first.honest (second.honest h);
  room = λ content h. second.room content (first.room content h);
  no_more_room = λ content h. first.no_more_room content (second.no_more_room content h);
  faults = omega (arith, first.faults, second.faults);
}

-- a store that isn't called has what it had
pub only-same : (now : Store) (content : List StoredPart) → LeavesOnly now now content content
only-same now content = λ honest only. only

-- where one call leads from a first content to a second, and the next to a third, both lead from the first to the third
pub only-more : (a b c : Store) (x y z : List StoredPart) → FollowsStore b c → LeavesOnly a b x y → LeavesOnly b c y z → LeavesOnly a c x z
only-more a b c x y z follows first second = λ honest only. second honest (first (follows.honest honest) only)

-- what a later call leaves of the content that an earlier one led to is left after both
pub left-more : (a b c : Store) (x y p q : List StoredPart) → FollowsStore b c → LeavesOnly a b x y → LeavesEither b c y p q → LeavesEither a c x p q
left-more a b c x y p q follows first second = λ honest only. second honest (first (follows.honest honest) only)

-- a count of faults that rose later has risen since before
pub risen-more : (a b c : ℕ) → a ≤ b → HasRisen b c → HasRisen a c
risen-more a b c least (inl less) = inl (omega arith)
risen-more a b c least (inr top) = inr top

-- the cause of a later call's refusal is its cause since an earlier call
pub refusal-more : (a b c : Store) (x y next : List StoredPart) (fault : KeepFault) → FollowsStore a b → FollowsStore b c → LeavesOnly a b x y → IsContentRefusal b c y next fault → IsContentRefusal a c x next fault
refusal-more a b c x y next Device before after first cause = risen-more a.faults b.faults c.faults before.faults cause
refusal-more a b c x y next NoMemory before after first cause = tt
refusal-more a b c x y next (BadRecord place) before after first cause = cause
refusal-more a b c x y next Full before after first cause = λ honest only fits. cause honest (first (after.honest honest) only) (before.room next fits)

-- changes one after another, and then others, are all of them one after another
pub all-append : (first second : List StoredChange) (parts : List StoredPart) → all_changed (first ++ second) parts ≡ all_changed second (all_changed first parts)
all-append [] second parts = refl
all-append (change ∷ changes) second parts = all-append changes second _
