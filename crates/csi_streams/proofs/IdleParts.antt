-- A part that is put in is idle where a later one is put in under its key, and none is taken out between them.
use Rattle.std.proofs.Common.{◌≡◌, ◌⊎◌, inl, inr, ℕ, ◌+◌, ◌-◌, ◌<◌, ◌≤◌, Bool, true, false, cond, length, refl, ap, sym, ◌∙◌, List, [], ◌∷◌, ◌++◌, arith}
use Rattle.std.specs.Prelude.{nat_lt, ◌==◌, map, option_map, is_some, take, drop, slice_index_or, Option, Some, None}
use Rattle.std.specs.Global.{Vec}
use Rattle.std.specs.List.{AllByRecursion}
use Rattle.std.proofs.Math.Seq.{drop-length}
use Rattle.std.proofs.lemmas.Bool.{false≢true}
use Rattle.std.proofs.lemmas.Bool.Decides.{nat_tests}
use Rattle.std.proofs.lemmas.List.{drop_more, drop_at, take-append-drop, map-append, length-append, length-take-le}
use Rattle.csi_stores.specs.declared.part.Part.{Part}
use Rattle.csi_stores.specs.Public.Part.{StoredPart, StoredChange, part_change, value_bytes}
use Rattle.csi_stores.specs.Public.Content.{put_in, changed_to, all_changed}
use Rattle.csi_streams.proofs.StoreCalls.{all-append}

-- ---- two parts that are put in

-- under one key the later one stays
put-over : (key : ℕ) (was now : List ℕ) (parts : List StoredPart)
    → put_in (record { key = key; value = now }) (put_in (record { key = key; value = was }) parts) ≡ put_in (record { key = key; value = now }) parts
put-over key was now [] = rw less (rw same refl)
  where
    less : nat_lt key key ≡ false
    less = grind (arith, nat_tests)

    same : (key == key) ≡ true
    same = grind (arith, nat_tests)
put-over key was now (other ∷ others) = by (nat_lt other.key key) (other.key == key) refl refl (put-over key was now others)
  where
    old : StoredPart
    old = record { key = key; value = was }

    new : StoredPart
    new = record { key = key; value = now }

    less : nat_lt key key ≡ false
    less = grind (arith, nat_tests)

    same : (key == key) ≡ true
    same = grind (arith, nat_tests)

    by : (b c : Bool) → nat_lt other.key key ≡ b → (other.key == key) ≡ c → put_in new (put_in old others) ≡ put_in new others
        → put_in new (cond b (other ∷ put_in old others) (cond c (old ∷ others) (old ∷ other ∷ others))) ≡ cond b (other ∷ put_in new others) (cond c (new ∷ others) (new ∷ other ∷ others))
    by true c t u rest = rw t (ap (λ (them : List StoredPart). other ∷ them) rest)
    by false true t u rest = rw less (rw same refl)
    by false false t u rest = rw less (rw same refl)

-- under two keys it is the same in either order
put-turns : (low high : StoredPart) (parts : List StoredPart) → low.key < high.key → put_in high (put_in low parts) ≡ put_in low (put_in high parts)
put-turns low high [] less = rw a (rw b (rw c refl))
  where
    a : nat_lt low.key high.key ≡ true
    a = grind (arith, nat_tests)

    b : nat_lt high.key low.key ≡ false
    b = grind (arith, nat_tests)

    c : (high.key == low.key) ≡ false
    c = grind (arith, nat_tests)
put-turns low high (other ∷ others) less = by (nat_lt other.key low.key) (other.key == low.key) refl refl (put-turns low high others less)
  where
    lower : nat_lt low.key high.key ≡ true
    lower = grind (arith, nat_tests)

    higher : nat_lt high.key low.key ≡ false
    higher = grind (arith, nat_tests)

    apart : (high.key == low.key) ≡ false
    apart = grind (arith, nat_tests)

    -- the lower one goes before the other
    before : (b c : Bool) → nat_lt other.key low.key ≡ false → (other.key == low.key) ≡ false
        → low ∷ cond b (other ∷ put_in high others) (cond c (high ∷ others) (high ∷ other ∷ others))
        ≡ put_in low (cond b (other ∷ put_in high others) (cond c (high ∷ others) (high ∷ other ∷ others)))
    before true c t u = rw t (rw u refl)
    before false true t u = rw higher (rw apart refl)
    before false false t u = rw higher (rw apart refl)

    by : (b c : Bool) → nat_lt other.key low.key ≡ b → (other.key == low.key) ≡ c → put_in high (put_in low others) ≡ put_in low (put_in high others)
        → put_in high (cond b (other ∷ put_in low others) (cond c (low ∷ others) (low ∷ other ∷ others))) ≡ put_in low (put_in high (other ∷ others))
    by true c t u rest = rw over (rw t (ap (λ (them : List StoredPart). other ∷ them) rest))
      where
        over : nat_lt other.key high.key ≡ true
        over = grind (arith, nat_tests)
    by false true t u rest = rw lower (rw over (rw t (rw u refl)))
      where
        over : nat_lt other.key high.key ≡ true
        over = grind (arith, nat_tests)
    by false false t u rest = rw lower (before (nat_lt other.key high.key) (other.key == high.key) t u)

-- ---- parts that are put in behind

-- the part has a value
abbrev pub IsPut : Part → Type 0
IsPut part = (value : Vec ℕ) × (part.value ≡ Some value)

-- each of them is put in
abbrev pub ArePut : List Part → Type 0
ArePut parts = AllByRecursion IsPut parts

-- one of them has this key
abbrev pub HasKey : ℕ → List Part → Type 0
HasKey key [] = ⊥
HasKey key (part ∷ parts) = (part.key ≡ key) ⊎ HasKey key parts

-- where a part is put in later under this key, and all that follow are put in, it is the same without the earlier one
pub idle : (key : ℕ) (value : List ℕ) (parts : List Part) → ArePut parts → HasKey key parts → (content : List StoredPart)
    → all_changed (map part_change parts) (put_in (record { key = key; value = value }) content) ≡ all_changed (map part_change parts) content
idle key value [] put there content = absurd there
idle key value (part ∷ parts) put there content = by (part.key == key) refl there (idle key value parts put.1)
  where
    next : List ℕ
    next = put.0.0.items

    old : StoredPart
    old = record { key = key; value = value }

    later : StoredPart
    later = record { key = part.key; value = next }

    by : (b : Bool) → (part.key == key) ≡ b → (part.key ≡ key) ⊎ HasKey key parts
        → (HasKey key parts → (then : List StoredPart) → all_changed (map part_change parts) (put_in old then) ≡ all_changed (map part_change parts) then)
        → all_changed (map part_change parts) (changed_to part.key (option_map value_bytes part.value) (put_in old content)) ≡ all_changed (map part_change parts) (changed_to part.key (option_map value_bytes part.value) content)
    by b t (inl same) rest = rw put.0.1 (rw same (ap (all_changed (map part_change parts)) (put-over key value next content)))
    by true t (inr others) rest = let same : part.key ≡ key = grind (arith, nat_tests) in rw put.0.1 (rw same (ap (all_changed (map part_change parts)) (put-over key value next content)))
    by false t (inr others) rest = rw put.0.1 (ap (all_changed (map part_change parts)) (turn (nat_lt key part.key) refl) ∙ rest others (put_in later content))
      where
        turn : (b : Bool) → nat_lt key part.key ≡ b → put_in later (put_in old content) ≡ put_in old (put_in later content)
        turn true u = let less : key < part.key = grind (arith, nat_tests) in put-turns old later content less
        turn false u = let less : part.key < key = grind (arith, nat_tests) in sym (put-turns later old content less)

-- ---- from behind, as far as a place

-- The parts from the place on are put in, and one of them is a head if that is said; all parts change what they changed before.
pub record Merged (was now : List Part) (at : ℕ) (is_there : Bool) : Type 0 where
  pub few : at ≤ length now
  pub put : ArePut (drop at now)
  pub there : is_there ≡ true → HasKey 0 (drop at now)
  pub same : (content : List StoredPart) → all_changed (map part_change now) content ≡ all_changed (map part_change was) content

-- nothing was looked at yet
pub merged-first : (was : List Part) (count : ℕ) → count ≡ length was → Merged was was count false
merged-first was count all = record {
  few = omega (arith, all);
  put = rw all (rw (drop-length was) tt);
  there = λ t. absurd (false≢true t);
  same = λ content. refl;
}

-- the parts from the place before on
one_before : (now : List Part) (at : ℕ) (part : Part) → 0 < at → at ≤ length now → part ≡ slice_index_or now (at - 1) part → drop (at - 1) now ≡ part ∷ drop at now
one_before now at part some few is =
    drop_more now (at - 1) part (omega (arith, some, few)) ∙ ap (λ (other : Part). other ∷ drop (at - 1 + 1) now) (sym is) ∙ ap (λ (k : ℕ). part ∷ drop k now) next
  where
    next : at - 1 + 1 ≡ at
    next = omega (arith, some)

-- a value is there
has_value : (o : Option (Vec ℕ)) → is_some o ≡ true → (value : Vec ℕ) × (o ≡ Some value)
has_value (Some value) t = (value, refl)
has_value None t = absurd (false≢true t)

-- one more stays
pub merged-stays : (was now : List Part) (at : ℕ) (was_there is_there : Bool) (part : Part) → Merged was now at was_there → 0 < at → part ≡ slice_index_or now (at - 1) part → is_some part.value ≡ true
    → (is_there ≡ true → (part.key ≡ 0) ⊎ (was_there ≡ true)) → Merged was now (at - 1) is_there
merged-stays was now at was_there is_there part m some is valued is_head = record {
  few = omega (arith, m.few);
  put = rw before (has_value part.value valued, m.put);
  there = λ t. rw before (by (is_head t));
  same = m.same;
}
  where
    before : drop (at - 1) now ≡ part ∷ drop at now
    before = one_before now at part some m.few is

    by : (part.key ≡ 0) ⊎ (was_there ≡ true) → HasKey 0 (part ∷ drop at now)
    by (inl same) = inl same
    by (inr there) = inr (m.there there)

-- a head is taken out that another one follows
pub merged-out : (was now left : List Part) (at : ℕ) (is_there : Bool) (part : Part) → Merged was now at is_there → is_there ≡ true → 0 < at → part ≡ slice_index_or now (at - 1) part → is_some part.value ≡ true → part.key ≡ 0
    → left ≡ take (at - 1) now ++ drop (at - 1 + 1) now → Merged was left (at - 1) true
merged-out was now left at is_there part m there some is valued key taken = record {
  few = omega (arith, long);
  put = rw behind m.put;
  there = λ t. rw behind (m.there there);
  same = λ content. rw whole (out content ∙ m.same content);
}
  where
    next : at - 1 + 1 ≡ at
    next = omega (arith, some)

    front : List Part
    front = take (at - 1) now

    front-length : length front ≡ at - 1
    front-length = length-take-le (at - 1) now (omega (arith, m.few))

    whole : left ≡ front ++ drop at now
    whole = taken ∙ ap (λ (k : ℕ). front ++ drop k now) next

    behind : drop (at - 1) left ≡ drop at now
    behind = ap (drop (at - 1)) whole ∙ drop_at front (drop at now) (at - 1) front-length

    long : length left ≡ at - 1 + length (drop at now)
    long = ap length whole ∙ length-append front (drop at now) ∙ ap (λ (k : ℕ). k + length (drop at now)) front-length

    value : (value : Vec ℕ) × (part.value ≡ Some value)
    value = has_value part.value valued

    was-whole : now ≡ front ++ part ∷ drop at now
    was-whole = sym (take-append-drop (at - 1) now) ∙ ap (λ (them : List Part). front ++ them) (one_before now at part some m.few is)

    made : (content : List StoredPart) (parts : List Part) → all_changed (map part_change (front ++ parts)) content ≡ all_changed (map part_change parts) (all_changed (map part_change front) content)
    made content parts = ap (λ (changes : List StoredChange). all_changed changes content) (map-append part_change front parts) ∙ all-append (map part_change front) (map part_change parts) content

    head : (content : List StoredPart) → changed_to part.key (option_map value_bytes part.value) content ≡ put_in (record { key = 0; value = value.0.items }) content
    head content = ap (λ (o : Option (Vec ℕ)). changed_to part.key (option_map value_bytes o) content) value.1 ∙ ap (λ (k : ℕ). put_in (record { key = k; value = value.0.items }) content) key

    out : (content : List StoredPart) → all_changed (map part_change (front ++ drop at now)) content ≡ all_changed (map part_change now) content
    out content = made content (drop at now)
        ∙ sym (idle 0 value.0.items (drop at now) m.put (m.there there) (all_changed (map part_change front) content))
        ∙ ap (all_changed (map part_change (drop at now))) (sym (head (all_changed (map part_change front) content)))
        ∙ sym (made content (part ∷ drop at now))
        ∙ ap (λ (parts : List Part). all_changed (map part_change parts) content) (sym was-whole)
