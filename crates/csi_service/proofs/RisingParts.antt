-- Parts by rising key are told by the part under each key; and what is found under a key once parts are put in or taken out.
use Rattle.std.proofs.Common.{◌≡◌, sym, refl, ℕ, ◌<◌, cond, List, [], ◌∷◌, arith}
use Rattle.std.specs.Prelude.{Option, Some, None, find, ◌==◌}
use Rattle.std.specs.List.{list_any}
use Rattle.std.proofs.lemmas.Bool.Decides.{nat_tests}
use Rattle.csi_fence.proofs.PutRows.{row_of-above}
use Rattle.csi_stores.specs.Public.Part.{StoredPart, take_all}
use Rattle.csi_stores.specs.Public.Content.{put_in, take_out, all_changed, AreRisingParts}
use Rattle.csi_stores.proofs.RisingChanges.{AreAbove, above-more}

-- the part under a key
abbrev pub part_at : ℕ → List StoredPart → Option StoredPart
part_at key parts = find (λ (part : StoredPart). part.key == key) parts

-- where all keys are above a key, nothing is found under it
pub none-below : (key : ℕ) (parts : List StoredPart) → AreAbove key parts → part_at key parts ≡ None
none-below = row_of-above (λ (part : StoredPart). part.key)

-- of two lists with the same parts neither begins with a lower key
no-lower : (x y : StoredPart) (xs ys : List StoredPart) → AreRisingParts (y ∷ ys) → part_at x.key (x ∷ xs) ≡ part_at x.key (y ∷ ys) → x.key < y.key → ⊥
no-lower x y xs ys up same less = grind (arith, nat_tests, same, less, none-below x.key ys (above-more x.key y.key ys less up.0))

-- two lists by rising key that have the same part under each key are one
pub same-parts : (first second : List StoredPart) → AreRisingParts first → AreRisingParts second → ((key : ℕ) → part_at key first ≡ part_at key second) → first ≡ second
same-parts [] [] up up_too same = refl
same-parts [] (y ∷ ys) up up_too same = grind (arith, nat_tests, same y.key)
same-parts (x ∷ xs) [] up up_too same = grind (arith, nat_tests, same x.key)
same-parts (x ∷ xs) (y ∷ ys) up up_too same =
    let keys : x.key ≡ y.key = grind (arith, no-lower x y xs ys up_too (same x.key), no-lower y x ys xs up (sym (same y.key))) in
    let one : x ≡ y = grind (arith, nat_tests, same x.key, keys) in
    let more = same-parts xs ys up.1 up_too.1 (λ key. grind (arith, nat_tests, same key, keys, none-below x.key xs up.0, none-below y.key ys up_too.0)) in
    λ i. one i ∷ more i

-- what is found under a key once a part is put in
pub at-put : (key : ℕ) (part : StoredPart) (parts : List StoredPart) → part_at key (put_in part parts) ≡ cond (part.key == key) (Some part) (part_at key parts)
at-put key part [] = refl
at-put key part (other ∷ others) = grind (arith, nat_tests, at-put key part others)

-- once a key is taken out
at-take : (key out : ℕ) (parts : List StoredPart) → part_at key (take_out out parts) ≡ cond (out == key) None (part_at key parts)
at-take key out [] = grind (arith, nat_tests)
at-take key out (part ∷ parts) = grind (arith, nat_tests, at-take key out parts)

-- and once keys are
pub take-at : (key : ℕ) (keys : List ℕ) (parts : List StoredPart) → part_at key (all_changed (take_all keys) parts) ≡ cond (list_any (λ (k : ℕ). k == key) keys) None (part_at key parts)
take-at key [] parts = refl
take-at key (out ∷ keys) parts = grind (arith, nat_tests, at-take key out parts, take-at key keys (take_out out parts))

-- ---- behind a head

-- another head
pub put-head : (head other : StoredPart) (parts : List StoredPart) → other.key ≡ head.key → put_in head (other ∷ parts) ≡ head ∷ parts
put-head head other parts same = grind (arith, nat_tests, same)

-- a row
pub put-row : (head part : StoredPart) (parts : List StoredPart) → head.key < part.key → put_in part (head ∷ parts) ≡ head ∷ put_in part parts
put-row head part parts less = grind (arith, nat_tests, less)
