-- Reading items one after another, as a loop does.
use Rattle.std.proofs.Common.{◌≡◌, ℕ, suc, ◌-◌, ◌+◌, ◌≤◌, ◌<◌, List, [], ◌∷◌, ◌++◌, Some, None, Ok, Err, refl, sym, ap, ◌∙◌, append_assoc, arith}
use Rattle.std.specs.Prelude.{Option, Result, IsErrOf}
use Rattle.csi_records.specs.declared.fault.ValueStop.{ValueStop}
use Rattle.std.proofs.lemmas.List.{append-nil}
use Rattle.csi_frames.specs.declared.fault.FaultKind.TheVariants.{BadCount}
use Rattle.csi_frames.specs.declared.fields.FieldStop as frames
use Rattle.csi_frames.specs.Public.Grammar.{at_most}
use Rattle.csi_frames.specs.Public.Reading.{byte_at}
use Rattle.csi_records.specs.Private.Reading.{Reader, go_on, give, taken, read_items, read_counted, read_count}

-- what was read before, and what is still read
abbrev pub with_front : {A : Type 0} → List A → Option (List A × List ℕ) → Option (List A × List ℕ)
with_front front read = go_on read (λ others. give (front ++ others))

-- it is the same whether an item is read with the rest or counts among those read before
regroup : {A : Type 0} (front : List A) (x : A) (read : Option (List A × List ℕ)) → with_front front (go_on read (λ others. give (x ∷ others))) ≡ with_front (front ++ x ∷ []) read
regroup front x (Some y) = ap (λ (xs : List _). Some (xs, y.1)) (simp append_assoc)
regroup front x None = refl

-- where one item more is read, those that were read and the rest are still what reading gives
pub goes_on : {A : Type 0} (read : Reader A) (front : List A) (count i : ℕ) (bytes : List ℕ) (x : A) (after : List ℕ) (total : Option (List A × List ℕ)) → i < count → read bytes ≡ Some (x, after)
    → with_front front (read_items read (count - i) bytes) ≡ total → with_front (front ++ x ∷ []) (read_items read (count - (i + 1)) after) ≡ total
unfolding read_items
goes_on read front count i bytes x after total lt h so_far =
    let k : count - i ≡ suc (count - (i + 1)) = omega arith in
    let one : with_front front (read_items read (count - i) bytes) ≡ with_front (front ++ x ∷ []) (read_items read (count - (i + 1)) after) = rw (k, h) (regroup front x (read_items read (count - (i + 1)) after)) in
    sym one ∙ so_far

-- where no item is read and some are still to come, reading gives nothing
pub ends : {A : Type 0} (read : Reader A) (front : List A) (count i : ℕ) (bytes : List ℕ) (total : Option (List A × List ℕ)) → i < count → read bytes ≡ None
    → with_front front (read_items read (count - i) bytes) ≡ total → total ≡ None
unfolding read_items
ends read front count i bytes total lt h so_far =
    let k : count - i ≡ suc (count - (i + 1)) = omega arith in
    let one : with_front front (read_items read (count - i) bytes) ≡ None = rw (k, h) refl in
    sym so_far ∙ one

-- where no more items are to come, reading gives those that were read
pub is_done : {A : Type 0} (read : Reader A) (front : List A) (count i : ℕ) (bytes : List ℕ) (total : Option (List A × List ℕ)) → count ≤ i
    → with_front front (read_items read (count - i) bytes) ≡ total → total ≡ Some (front, bytes)
unfolding read_items
is_done {A} read front count i bytes total le so_far =
    let k : count - i ≡ 0 = omega arith in
    let one : with_front front (read_items read (count - i) bytes) ≡ Some (front, bytes) = rw k (ap (λ (xs : List A). Some (xs, bytes)) (append-nil front)) in
    sym so_far ∙ one

-- where a count is read, the counted list is as many items
pub counted-as : {A : Type 0} (read : Reader A) (most count : ℕ) (bytes after : List ℕ) (total : Option (List A × List ℕ)) → byte_at (at_most most) BadCount bytes ≡ Ok (count, after) → read_items read count after ≡ total
    → read_counted most read bytes ≡ total
unfolding read_counted read_count
counted-as read most count bytes after total counted is = ap (λ (r : Result (ℕ × List ℕ) frames.FieldStop). go_on (taken r) (read_items read)) counted ∙ is

-- an error that a `?` hands on is the one that was answered
abbrev pub failed : {Y : Type 0} → ValueStop → Result Y ValueStop
failed stop = Err stop

-- an error that is handed on is the one that was answered, whichever value the result would have
pub same_error : {X Y : Type 0} (result : Result X ValueStop) (made was stop : ValueStop) → result ≡ Err made → made ≡ was → IsErrOf result stop → IsErrOf (failed {Y = Y} was) stop
same_error {X} {Y} result made was stop p q is = let e : was ≡ stop = cc in ap (λ (s : ValueStop). failed {Y = Y} s) e
