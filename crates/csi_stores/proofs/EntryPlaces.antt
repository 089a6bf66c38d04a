-- Where a part goes among parts by rising key.
use Rattle.std.proofs.Common.{◌≡◌, ◌∙◌, sym, ap, refl, ℕ, ◌+◌, ◌<◌, ◌≤◌, zero, suc, Bool, true, false, cond, List, [], ◌∷◌, ◌++◌, length, get_or, set, arith}
use Rattle.std.specs.Prelude.{nat_lt, nat_le, not, ◌==◌, Some, None, position}
use Rattle.std.specs.List.{position_or_len, insert}
use Rattle.std.proofs.lemmas.Bool.Decides.{nat_tests}
use Rattle.std.proofs.lemmas.List.Quantifiers.{position-Some}
use Rattle.csi_types.proofs.Options.{some_is_not_none}
use Rattle.csi_stores.specs.declared.entries.Entry.{Entry}
use Rattle.csi_stores.specs.Public.Part.{StoredPart}
use Rattle.csi_stores.specs.Public.Content.{put_in}
use Rattle.csi_stores.specs.Public.Memory.{stored, all_stored}

-- before a greater or an equal key the others stay
put-behind : (part other : StoredPart) (others parts : List StoredPart) → nat_le part.key other.key ≡ false → put_in part others ≡ parts → put_in part (other ∷ others) ≡ other ∷ parts
put-behind part other others parts below is =
    let less : nat_lt other.key part.key ≡ true = grind (arith, nat_tests) in
    rw less (ap (λ ps. other ∷ ps) is)

-- a part goes in place of the entry that has its key, where those before have lower keys
put-same : (part : StoredPart) (entries : List Entry) (i : ℕ) (entry d : Entry) → i < length entries → ((k : ℕ) → k < i → nat_le part.key (get_or entries k d).key ≡ false)
    → (get_or entries i d).key ≡ part.key → stored entry ≡ part → put_in part (all_stored entries) ≡ all_stored (set entries i entry)
put-same part [] i entry d inside before here is = absurd (omega arith)
put-same part (e ∷ es) zero entry d inside before here is =
    let less : nat_lt e.key part.key ≡ false = grind (arith, nat_tests) in
    let same : (e.key == part.key) ≡ true = grind (arith, nat_tests) in
    rw (less, same) (ap (λ p. p ∷ all_stored es) (sym is))
put-same part (e ∷ es) (suc i) entry d inside before here is =
    put-behind part (stored e) (all_stored es) _ (before 0 (omega arith)) (put-same part es i entry d (omega arith) (λ k below. before (suc k) (omega arith)) here is)

-- a part goes before the first entry with a higher key, where no entry has its own
put-new : (part : StoredPart) (entries : List Entry) (i : ℕ) (entry d : Entry) → i < length entries → ((k : ℕ) → k < i → nat_le part.key (get_or entries k d).key ≡ false)
    → part.key < (get_or entries i d).key → stored entry ≡ part → put_in part (all_stored entries) ≡ all_stored (insert entries i entry)
put-new part [] i entry d inside before here is = absurd (omega arith)
put-new part (e ∷ es) zero entry d inside before here is =
    let less : nat_lt e.key part.key ≡ false = grind (arith, nat_tests) in
    let same : (e.key == part.key) ≡ false = grind (arith, nat_tests) in
    rw (less, same) (ap (λ p. p ∷ stored e ∷ all_stored es) (sym is))
put-new part (e ∷ es) (suc i) entry d inside before here is =
    put-behind part (stored e) (all_stored es) _ (before 0 (omega arith)) (put-new part es i entry d (omega arith) (λ k below. before (suc k) (omega arith)) here is)

-- a part goes behind all entries where no key reaches its own
put-last : (part : StoredPart) (entries : List Entry) (entry : Entry) → length entries ≤ position_or_len (λ e. nat_le part.key e.key) entries → stored entry ≡ part → put_in part (all_stored entries) ≡ all_stored (entries ++ entry ∷ [])
put-last part [] entry none is = ap (λ p. p ∷ []) (sym is)
put-last part (e ∷ es) entry none is = by (nat_le part.key e.key) refl (λ few. put-last part es entry few is) none
  where
    by : (b : Bool) → nat_le part.key e.key ≡ b → (length es ≤ position_or_len (λ e. nat_le part.key e.key) es → put_in part (all_stored es) ≡ all_stored (es ++ entry ∷ [])) → suc (length es) ≤ cond (not b) (1 + position_or_len (λ e. nat_le part.key e.key) es) 0 → put_in part (all_stored (e ∷ es)) ≡ all_stored ((e ∷ es) ++ entry ∷ [])
    by true t rest few = absurd (omega arith)
    by false t rest few = put-behind part (stored e) (all_stored es) _ t (rest (omega arith))

-- a place that isn't below the size is at the end or beyond it
beyond : (place size : ℕ) (b : Bool) → nat_lt place size ≡ b → cond b (Some place) None ≡ None → size ≤ place
beyond place size true e h = absurd (some_is_not_none place h)
beyond place size false e h = grind (arith, nat_tests)

-- by where the first key is that isn't below
pub set-there : (part : StoredPart) (entries : List Entry) (i : ℕ) (entry old : Entry) → position (λ e. nat_le part.key e.key) entries ≡ Some i → old ≡ get_or entries i old → old.key ≡ part.key → stored entry ≡ part
    → all_stored (set entries i entry) ≡ put_in part (all_stored entries)
set-there part entries i entry old at there same is =
    let found = position-Some (λ e. nat_le part.key e.key) entries i old at in
    sym (put-same part entries i entry old found.0 found.2 (ap (λ e. e.key) (sym there) ∙ same) is)

-- an entry that is inserted where the first higher key stands puts its part in
pub insert-there : (part : StoredPart) (entries : List Entry) (i : ℕ) (entry old : Entry) → position (λ e. nat_le part.key e.key) entries ≡ Some i → old ≡ get_or entries i old → (old.key ≡ part.key → ⊥) → stored entry ≡ part
    → all_stored (insert entries i entry) ≡ put_in part (all_stored entries)
insert-there part entries i entry old at there other is =
    let found = position-Some (λ e. nat_le part.key e.key) entries i old at in
    let key : old.key ≡ (get_or entries i old).key = ap (λ e. e.key) there in
    let most : nat_le part.key (get_or entries i old).key ≡ true = found.1 in
    let apart : (get_or entries i old).key ≡ part.key → ⊥ = λ e. other (key ∙ e) in
    let above : part.key < (get_or entries i old).key = grind (arith, nat_tests) in
    sym (put-new part entries i entry old found.0 found.2 above is)

-- an entry that is added behind lower keys puts its part in
pub push-there : (part : StoredPart) (entries : List Entry) (entry : Entry) → position (λ e. nat_le part.key e.key) entries ≡ None → stored entry ≡ part → all_stored (entries ++ entry ∷ []) ≡ put_in part (all_stored entries)
push-there part entries entry none is = sym (put-last part entries entry (beyond _ _ _ refl none) is)
