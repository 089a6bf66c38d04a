-- What parts take.
use Rattle.std.proofs.Common.{◌≡◌, ℕ, ◌+◌, ◌<◌, ◌≤◌, zero, suc, List, [], ◌∷◌, length, get_or, take, ap, arith}
use Rattle.std.proofs.lemmas.List.Sums.{sum_by-cons}
use Rattle.csi_stores.specs.declared.entries.Entry.{Entry}
use Rattle.csi_stores.specs.Public.Part.{StoredPart}
use Rattle.csi_stores.specs.Public.Content.{size_of}
use Rattle.csi_stores.specs.Public.Memory.{stored, all_stored}

-- a part more takes 8 bytes and those of its value
size-more : (part : StoredPart) (parts : List StoredPart) → size_of (part ∷ parts) ≡ 8 + length part.value + size_of parts
size-more part parts = sum_by-cons (λ (p : StoredPart). 8 + length p.value) part parts

-- the entry at a place, and those before it, take no more than all
size-at : (entries : List Entry) (i : ℕ) (d : Entry) → i < length entries → size_of (all_stored (take i entries)) + (8 + length (get_or entries i d).value.items) ≤ size_of (all_stored entries)
size-at [] i d inside = absurd (omega arith)
size-at (e ∷ es) zero d inside = omega (arith, size-more (stored e) (all_stored es))
size-at (e ∷ es) (suc i) d inside = omega (arith, size-at es i d (omega arith), size-more (stored e) (all_stored es), size-more (stored e) (all_stored (take i es)))

-- an entry that has less than its size left is one too many
pub size-over : (entries : List Entry) (i : ℕ) (entry : Entry) (left limit : ℕ) → i < length entries → entry ≡ get_or entries i entry → size_of (all_stored (take i entries)) + left ≡ limit → left < 8 + length entry.value.items → limit < size_of (all_stored entries)
size-over entries i entry left limit inside is sum few = omega (arith, size-at entries i entry inside, ap (λ (e : Entry). length e.value.items) is)
