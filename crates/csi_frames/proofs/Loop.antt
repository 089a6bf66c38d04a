-- Reading capabilities one after another, as a loop does.
use Rattle.std.proofs.Common.{◌≡◌, ℕ, suc, ◌-◌, ◌≤◌, ◌<◌, Bool, not, ◌&&◌, List, [], ◌∷◌, ◌++◌, Result, Ok, Err, refl, sym, ap, subst, ◌∙◌, append_assoc, arith}
use Rattle.std.specs.Prelude.{◌==◌}
use Rattle.std.proofs.lemmas.List.{append-nil}
use Rattle.csi_types.specs.declared.capability.Capability.{Capability}
use Rattle.csi_frames.specs.declared.fields.FieldStop.{FieldStop}
use Rattle.csi_frames.specs.declared.version.Version.{Version}
use Rattle.csi_frames.specs.Public.Version.{is_new_mode}
use Rattle.csi_frames.specs.Public.Reading.{go_on}
use Rattle.csi_frames.specs.Public.Reading.{give, owed_capability_at, capabilities_at}

-- what was read before, and what is still read
abbrev pub with_front : List Capability → Result (List Capability × List ℕ) FieldStop → Result (List Capability × List ℕ) FieldStop
with_front front read = go_on read (λ others. give (front ++ others))

-- to put one capability and then the earlier ones before what is still read is to put all of them before it
regroup : (front : List Capability) (c : Capability) (read : Result (List Capability × List ℕ) FieldStop) → with_front front (go_on read (λ others. give (c ∷ others))) ≡ with_front (front ++ c ∷ []) read
regroup front c (Ok x) = ap (λ (cs : List Capability). Ok (cs, x.1)) (simp append_assoc)
regroup front c (Err stop) = refl

-- where the next capability is read, what was read with it and what is still read make up the same whole
pub goes_on : (version : Version) (owed here still : Bool) (front : List Capability) (left : ℕ) (bytes : List ℕ) (c : Capability) (after : List ℕ) (total : Result (List Capability × List ℕ) FieldStop) → 0 < left → here ≡ (owed && ((left - 1) == 0)) → still ≡ (owed && not (is_new_mode c.mode))
    → owed_capability_at version here bytes ≡ Ok (c, after) → with_front front (capabilities_at version owed left bytes) ≡ total → with_front (front ++ c ∷ []) (capabilities_at version still (left - 1) after) ≡ total
unfolding capabilities_at
goes_on version owed here still front left bytes c after total lt here-is still-is h so_far =
    let k : left ≡ suc (left - 1) = omega (arith, lt) in
    let more : Result (List Capability × List ℕ) FieldStop = capabilities_at version (owed && not (is_new_mode c.mode)) (left - 1) after in
    let read : owed_capability_at version (owed && ((left - 1) == 0)) bytes ≡ Ok (c, after) = subst (λ (b : Bool). owed_capability_at version b bytes ≡ Ok (c, after)) here-is h in
    let one : with_front front (capabilities_at version owed (suc (left - 1)) bytes) ≡ with_front (front ++ c ∷ []) more = rw read (regroup front c more) in
    subst (λ (b : Bool). with_front (front ++ c ∷ []) (capabilities_at version b (left - 1) after) ≡ total) (sym still-is)
    (sym one ∙ subst (λ (n : ℕ). with_front front (capabilities_at version owed n bytes) ≡ total) k so_far)

-- where the next capability isn't read, the whole stops there
pub ends : (version : Version) (owed here : Bool) (stop : FieldStop) (front : List Capability) (left : ℕ) (bytes : List ℕ) (total : Result (List Capability × List ℕ) FieldStop) → 0 < left → here ≡ (owed && ((left - 1) == 0)) → owed_capability_at version here bytes ≡ Err stop
    → with_front front (capabilities_at version owed left bytes) ≡ total → total ≡ Err stop
unfolding capabilities_at
ends version owed here stop front left bytes total lt here-is h so_far =
    let k : left ≡ suc (left - 1) = omega (arith, lt) in
    let read : owed_capability_at version (owed && ((left - 1) == 0)) bytes ≡ Err stop = subst (λ (b : Bool). owed_capability_at version b bytes ≡ Err stop) here-is h in
    let one : with_front front (capabilities_at version owed (suc (left - 1)) bytes) ≡ Err stop = rw read refl in
    sym (subst (λ (n : ℕ). with_front front (capabilities_at version owed n bytes) ≡ total) k so_far) ∙ one

-- where none is left to be read, the whole is those that were read, and the bytes behind them
pub is_done : (version : Version) (owed : Bool) (front : List Capability) (left : ℕ) (bytes : List ℕ) (total : Result (List Capability × List ℕ) FieldStop) → left ≤ 0 → with_front front (capabilities_at version owed left bytes) ≡ total → total ≡ Ok (front, bytes)
unfolding capabilities_at
is_done version owed front left bytes total le so_far =
    let k : left ≡ 0 = omega (arith, le) in
    sym (subst (λ (n : ℕ). with_front front (capabilities_at version owed n bytes) ≡ total) k so_far) ∙ ap (λ (cs : List Capability). Ok (cs, bytes)) (append-nil front)
