-- What is so of the first items of a list is so of one item more: in loops.
use Rattle.std.proofs.Common.{◌≡◌, ◌∙◌, sym, ap, subst, refl, ℕ, ◌+◌, ◌<◌, Bool, true, false, cond, List, [], ◌∷◌, ◌++◌, length, take, get_or, map}
use Rattle.std.specs.Prelude.{◌==◌, ◌||◌, None, not, filter}
use Rattle.std.specs.List.{AllByRecursion, list_any}
use Rattle.std.proofs.lemmas.List.{map-append, take_more}
use Rattle.csi_types.proofs.Each.{each-append_one}
use Rattle.csi_stores.specs.declared.part.Part.{Part}
use Rattle.csi_stores.specs.Public.Part.{StoredPart, StoredChange, stored_in, all_stored_in, take_all}
use Rattle.csi_service.specs.Private.Opening.{has_key, left_out}

-- the first items and the next one are one more of the first
one-more : {X : Type 0} (xs : List X) (i : ℕ) (x d : X) → i < length xs → x ≡ get_or xs i d → take (i + 1) xs ≡ take i xs ++ x ∷ []
one-more xs i x d inside is = take_more xs i d inside ∙ ap (λ y. take i xs ++ y ∷ []) (sym is)

-- each of them is as it should be
pub each-more : {X : Type 0} (P : X → Type 0) (xs : List X) (i : ℕ) (x : X) → i < length xs → x ≡ get_or xs i x → AllByRecursion P (take i xs) → P x → AllByRecursion P (take (i + 1) xs)
each-more P xs i x inside is so_far one = subst (AllByRecursion P) (sym (one-more xs i x x inside is)) (each-append_one P (take i xs) x so_far one)

-- ---- keys that are left out

-- whether a part has the key is told by the parts as they are stored
any-stored : (key : ℕ) (parts : List Part) → list_any (λ (part : Part). part.key == key) parts ≡ has_key key (all_stored_in parts)
any-stored key [] = refl
any-stored key (part ∷ parts) = ap (λ (b : Bool). (part.key == key) || b) (any-stored key parts)

-- of parts and one more
left-append : (olds : List StoredPart) (old : StoredPart) (news : List StoredPart) → left_out (olds ++ old ∷ []) news ≡ left_out olds news ++ cond (has_key old.key news) [] (old.key ∷ [])
left-append [] old news = by (has_key old.key news)
  where
    by : (b : Bool) → map (λ (p : StoredPart). p.key) (cond (not b) (old ∷ []) []) ≡ cond b [] (old.key ∷ [])
    by true = refl
    by false = refl
left-append (other ∷ olds) old news = by (not (has_key other.key news)) (left-append olds old news)
  where
    by : (b : Bool) → left_out (olds ++ old ∷ []) news ≡ left_out olds news ++ cond (has_key old.key news) [] (old.key ∷ [])
        → map (λ (p : StoredPart). p.key) (cond b (other ∷ filter (λ (p : StoredPart). not (has_key p.key news)) (olds ++ old ∷ [])) (filter (λ (p : StoredPart). not (has_key p.key news)) (olds ++ old ∷ [])))
        ≡ map (λ (p : StoredPart). p.key) (cond b (other ∷ filter (λ (p : StoredPart). not (has_key p.key news)) olds) (filter (λ (p : StoredPart). not (has_key p.key news)) olds)) ++ cond (has_key old.key news) [] (old.key ∷ [])
    by true rest = ap (λ (ks : List ℕ). other.key ∷ ks) rest
    by false rest = rest

-- those of the first parts
left-more : (found parts : List Part) (i : ℕ) (part : Part) (before after : List ℕ) → i < length found → part ≡ get_or found i part → before ≡ left_out (all_stored_in (take i found)) (all_stored_in parts)
    → after ≡ before ++ cond (list_any (λ (p : Part). p.key == part.key) parts) [] (part.key ∷ []) → after ≡ left_out (all_stored_in (take (i + 1) found)) (all_stored_in parts)
left-more found parts i part before after inside is so_far one =
    one ∙ ap (λ (ks : List ℕ). ks ++ cond (list_any (λ (p : Part). p.key == part.key) parts) [] (part.key ∷ [])) so_far
    ∙ ap (λ (b : Bool). left_out (all_stored_in (take i found)) (all_stored_in parts) ++ cond b [] (part.key ∷ [])) (any-stored part.key parts)
    ∙ sym (left-append (all_stored_in (take i found)) (stored_in part) (all_stored_in parts))
    ∙ ap (λ (ps : List StoredPart). left_out ps (all_stored_in parts)) (sym (map-append stored_in (take i found) (part ∷ [])))
    ∙ ap (λ (ps : List Part). left_out (all_stored_in ps) (all_stored_in parts)) (sym (one-more found i part part inside is))

-- and what takes them out
pub removed-more : (found parts : List Part) (i : ℕ) (part : Part) (before after : List StoredChange) → i < length found → part ≡ get_or found i part
    → before ≡ take_all (left_out (all_stored_in (take i found)) (all_stored_in parts))
    → after ≡ before ++ take_all (cond (list_any (λ (p : Part). p.key == part.key) parts) [] (part.key ∷ [])) → after ≡ take_all (left_out (all_stored_in (take (i + 1) found)) (all_stored_in parts))
removed-more found parts i part before after inside is so_far one =
    let keys = left_out (all_stored_in (take i found)) (all_stored_in parts) in
    let more = cond (list_any (λ (p : Part). p.key == part.key) parts) [] (part.key ∷ []) in
    one ∙ ap (λ (cs : List StoredChange). cs ++ take_all more) so_far ∙ sym (map-append (λ (k : ℕ). record { key = k; value = None }) keys more)
    ∙ ap take_all (left-more found parts i part keys (keys ++ more) inside is refl refl)
