-- What was written piece by piece.
use Rattle.std.proofs.Common.{◌≡◌, ℕ, zero, suc, ◌+◌, ◌<◌, List, [], ◌∷◌, ◌++◌, length, take, map, get_or, Some, None, refl, sym, ap, subst, ◌∙◌, append_assoc, arith}
use Rattle.std.specs.Prelude.{Option, option_map, unwrap_or}
use Rattle.std.specs.Global.{Vec}
use Rattle.std.specs.List.{flat_map, AllByRecursion}
use Rattle.std.proofs.lemmas.List.{append-nil, map-append, take_more, length-map}
use Rattle.std.proofs.lemmas.List.Concat.{flat_map-append}
use Rattle.csi_types.proofs.Each.{each-append_one}
use Rattle.csi_stores.specs.declared.part.Part.{Part}
use Rattle.csi_stores.specs.Public.Part.{StoredPart, IsPart, StoredChange, put_all, take_all, part_change, stored_in, all_stored_in, value_in, value_bytes}
use Rattle.csi_records.specs.Public.Spelling.{part_bytes, list_spelling}
use Rattle.std.proofs.lemmas.List.Folds.{flat_map-map}

-- a part, from its key and its value
abbrev make_part : ℕ → List ℕ → StoredPart
make_part key value = record { key = key; value = value }

-- what was written in two, three or four pieces is what was there before, and then the pieces
pub written2 : (old a new x y : List ℕ) → a ≡ old ++ x → new ≡ a ++ y → new ≡ old ++ (x ++ y)
written2 old a new x y p q = q ∙ ap (λ (t : List ℕ). t ++ y) p ∙ append_assoc old x y

-- three pieces
pub written3 : (old a b new x y z : List ℕ) → a ≡ old ++ x → b ≡ a ++ y → new ≡ b ++ z → new ≡ old ++ (x ++ y ++ z)
written3 old a b new x y z p q r = written2 old b new (x ++ y) z (written2 old a b x y p q) r

-- four pieces
pub written4 : (old a b c new x y z w : List ℕ) → a ≡ old ++ x → b ≡ a ++ y → c ≡ b ++ z → new ≡ c ++ w → new ≡ old ++ (x ++ y ++ z ++ w)
written4 old a b c new x y z w p q r s = written2 old c new (x ++ y ++ z) w (written3 old a b c x y z p q r) s

-- ---- parts, and rows, that are written one after another

-- of parts within their limits, the one at a place is
pub part_at : (parts : List Part) (i : ℕ) (part : Part) → AllByRecursion IsPart (all_stored_in parts) → i < length parts → part ≡ get_or parts i part → IsPart (stored_in part)
part_at [] i part each inside is = absurd (omega arith)
part_at (p ∷ ps) zero part each inside is = subst (λ (q : Part). IsPart (stored_in q)) (sym is) each.0
part_at (p ∷ ps) (suc i) part each inside is = part_at ps i part each.1 (omega arith) is

-- the part that a change puts in
abbrev of_change : StoredChange → StoredPart
of_change change = make_part change.key (unwrap_or change.value [])

-- parts that are put in with their values are those values under their keys
pub stored_put : (parts : List Part) (stored : List StoredPart) → map part_change parts ≡ put_all stored → all_stored_in parts ≡ stored
stored_put parts stored e = from parts ∙ ap (map of_change) e ∙ to stored
  where
    value : (bytes : Option (Vec ℕ)) → value_in bytes ≡ unwrap_or (option_map value_bytes bytes) []
    value None = refl
    value (Some bytes) = refl

    from : (ps : List Part) → all_stored_in ps ≡ map of_change (map part_change ps)
    from [] = refl
    from (p ∷ ps) = ap (λ (bytes : List ℕ). make_part p.key bytes ∷ all_stored_in ps) (value p.value) ∙ ap (λ (ss : List StoredPart). of_change (part_change p) ∷ ss) (from ps)

    to : (ss : List StoredPart) → map of_change (put_all ss) ≡ ss
    to [] = refl
    to (s ∷ ss) = ap (λ (qs : List StoredPart). s ∷ qs) (to ss)

-- the first items and the next one are one more of the first
pub one_more : {X : Type 0} (xs : List X) (i : ℕ) (x : X) → i < length xs → x ≡ get_or xs i x → take (i + 1) xs ≡ take i xs ++ x ∷ []
one_more xs i x inside is = take_more xs i x inside ∙ ap (λ y. take i xs ++ y ∷ []) (sym is)

-- the spelling of a list and one item more is that of the list and then the item's
pub flat_map-push : {X : Type 0} (f : X → List ℕ) (xs : List X) (x : X) → flat_map f (xs ++ x ∷ []) ≡ flat_map f xs ++ f x
flat_map-push f xs x = flat_map-append f xs (x ∷ []) ∙ ap (λ (t : List ℕ). flat_map f xs ++ t) (append-nil (f x))

-- where what is told of the first items is there and then what the next one adds, what is told of one more is there
pub one_more_told : {X Y : Type 0} (tell : List X → List Y) (xs : List X) (i : ℕ) (x : X) (own old before after : List Y) → i < length xs → x ≡ get_or xs i x → tell (take i xs ++ x ∷ []) ≡ tell (take i xs) ++ own
    → before ≡ old ++ tell (take i xs) → after ≡ before ++ own → after ≡ old ++ tell (take (i + 1) xs)
one_more_told {X} {Y} tell xs i x own old before after inside is adds so_far one =
    one ∙ ap (λ (t : List Y). t ++ own) so_far ∙ append_assoc old (tell (take i xs)) own ∙ ap (λ (t : List Y). old ++ t) (sym adds ∙ ap tell (sym (one_more xs i x inside is)))

-- where the first parts were written and the next one is, one part more was
pub one_more_part : {X : Type 0} (part : X → StoredPart) (parts : List X) (i : ℕ) (next : X) (old before after : List ℕ) → i < length parts → next ≡ get_or parts i next
    → before ≡ old ++ flat_map part_bytes (map part (take i parts)) → after ≡ before ++ part_bytes (part next) → after ≡ old ++ flat_map part_bytes (map part (take (i + 1) parts))
one_more_part part parts i next old before after inside is =
    one_more_told (λ xs. flat_map part_bytes (map part xs)) parts i next (part_bytes (part next)) old before after inside is
    (ap (flat_map part_bytes) (map-append part (take i parts) (next ∷ [])) ∙ flat_map-push part_bytes (map part (take i parts)) (part next))

-- the changes that put parts in, one part more
pub put-push : (parts : List StoredPart) (part : StoredPart) → put_all (parts ++ part ∷ []) ≡ put_all parts ++ put_all (part ∷ [])
put-push parts part = map-append put_one parts (part ∷ [])
  where
    put_one : StoredPart → StoredChange
    put_one p = record { key = p.key; value = Some p.value }

-- where the parts of the first rows are put in and the next row's part is, those of one row more are
pub one_more_put : {X R : Type 0} (shown : X → R) (part : R → StoredPart) (rows : List X) (i : ℕ) (row : X) (old before after : List StoredChange) → i < length rows → row ≡ get_or rows i row
    → before ≡ old ++ put_all (map part (map shown (take i rows))) → after ≡ before ++ put_all (part (shown row) ∷ []) → after ≡ old ++ put_all (map part (map shown (take (i + 1) rows)))
one_more_put shown part rows i row old before after inside is =
    one_more_told (λ xs. put_all (map part (map shown xs))) rows i row (put_all (part (shown row) ∷ [])) old before after inside is
    (ap (λ rs. put_all (map part rs)) (map-append shown (take i rows) (row ∷ [])) ∙ ap put_all (map-append part (map shown (take i rows)) (shown row ∷ [])) ∙ put-push (map part (map shown (take i rows))) (part (shown row)))

-- where the first keys are taken out and the next one is, one key more is
pub one_more_taken : (keys : List ℕ) (i key : ℕ) (old before after : List StoredChange) → i < length keys → key ≡ get_or keys i key → before ≡ old ++ take_all (take i keys) → after ≡ before ++ take_all (key ∷ [])
    → after ≡ old ++ take_all (take (i + 1) keys)
one_more_taken keys i key old before after inside is = one_more_told take_all keys i key (take_all (key ∷ [])) old before after inside is (map-append take_one (take i keys) (key ∷ []))
  where
    take_one : ℕ → StoredChange
    take_one n = record { key = n; value = None }

-- where the first rows are as they should be and the next is, one row more is so
pub one_more_fit : {X R : Type 0} (shown : X → R) (P : R → Type 0) (rows : List X) (i : ℕ) (row : X) → i < length rows → row ≡ get_or rows i row → AllByRecursion P (map shown (take i rows)) → P (shown row)
    → AllByRecursion P (map shown (take (i + 1) rows))
one_more_fit shown P rows i row inside is each own =
    let more : map shown (take (i + 1) rows) ≡ map shown (take i rows) ++ shown row ∷ [] = ap (map shown) (one_more rows i row inside is) ∙ map-append shown (take i rows) (row ∷ []) in
    subst (λ rs. AllByRecursion P rs) (sym more) (each-append_one P (map shown (take i rows)) (shown row) each own)

-- what a head and rows are put as is what those are that equal them
pub put_same : {X R : Type 0} (part_of : R → StoredPart) (shown : X → R) (head value : List ℕ) (rs rows : List X) (changes : List StoredChange) → head ≡ value → rs ≡ rows → changes ≡ put_all (record { key = 0; value = head } ∷ map part_of (map shown rs))
    → changes ≡ put_all (record { key = 0; value = value } ∷ map part_of (map shown rows))
put_same {X} part_of shown head value rs rows changes heads same are =
    are ∙ ap (λ (v : List ℕ). put_all (record { key = 0; value = v } ∷ map part_of (map shown rs))) heads ∙ ap (λ (xs : List X). put_all (record { key = 0; value = value } ∷ map part_of (map shown xs))) same

-- ---- lists of what is shown of their items

-- what spells the items with their count, each by what is shown of it, spells the list of what is shown
pub list-shown : {X R : Type 0} (f : R → List ℕ) (shown : X → R) (xs : List X) → list_spelling (λ x. f (shown x)) xs ≡ list_spelling f (map shown xs)
list-shown f shown xs = ap (λ (n : ℕ). n ∷ flat_map (λ x. f (shown x)) xs) (sym (length-map xs shown)) ∙ ap (λ (t : List ℕ). length (map shown xs) ∷ t) (sym (flat_map-map f shown xs))
