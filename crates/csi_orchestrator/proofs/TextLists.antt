-- Texts that are compared, and lists of texts of which each is taken once.
use Rattle.csi_orchestrator.proofs.Words.{◌≡◌, ◌≢◌, ◌⊎◌, ℕ, suc, List, [], ◌∷◌, true, false, cond, not, length, map}
use Rattle.csi_orchestrator.proofs.Words.{refl, sym, ◌∙◌, ap, subst, inl, inr, filter, ◌||◌, ◌&&◌, list_any, IsAmong}
use Rattle.csi_orchestrator.proofs.Words.{EachTwo, same_text, Item, Forgotten, Noted, distinct, with_name, names_in}
use Rattle.csi_orchestrator.proofs.Words.{arith}
use Rattle.csi_orchestrator.proofs.Lemmas.{false≢true, false_from_ne_true, and_parts, length-map, each_of, all_of}
use Rattle.csi_orchestrator.proofs.Lemmas.{in_filter, among-kept, in-map, among-map, empty-where, two-filter, two-map}
use Rattle.csi_orchestrator.proofs.Lemmas.{alike, any-then, then-any, none-among, filter-each, same_text-tells}

-- a text is the same as itself, two are compared alike from both sides, and those that aren't equal differ
pub text-same : (text : List ℕ) → same_text text text ≡ true
text-same text = (same_text-tells text text).1 refl

-- two texts are compared alike from both sides
pub same_text-flip : (a b : List ℕ) → same_text a b ≡ same_text b a
same_text-flip a b = alike (same_text a b) (same_text b a) (λ e. (same_text-tells b a).1 (sym ((same_text-tells a b).0 e))) (λ e. (same_text-tells a b).1 (sym ((same_text-tells b a).0 e)))

-- texts that aren't equal fail the test
pub texts-differ : (a b : List ℕ) → a ≢ b → same_text a b ≡ false
texts-differ a b other = false_from_ne_true (same_text a b) (λ e. other ((same_text-tells a b).0 e))

-- of a list's texts, each taken once, the same are among the list, and each is there once
pub any-distinct : (text : List ℕ) (texts : List (List ℕ)) → list_any (same_text text) (distinct texts) ≡ list_any (same_text text) texts
any-distinct text [] = refl
any-distinct text (other ∷ others) = grind (arith, same_text-tells, (any-distinct text others))

-- a text that is among a list is among another, where the test finds it in both or in neither
among-too : (text : List ℕ) (texts others : List (List ℕ)) → list_any (same_text text) texts ≡ list_any (same_text text) others → IsAmong text texts → IsAmong text others
among-too text texts others same among =
    let found = any-then (same_text text) others (sym same ∙ then-any (same_text text) texts text among (text-same text)) in
    subst (λ t. IsAmong t others) (sym ((same_text-tells text found.0).0 found.2)) found.1

-- a text that is among a list is among its texts taken once each
pub among-distinct : (texts : List (List ℕ)) (text : List ℕ) → IsAmong text texts → IsAmong text (distinct texts)
among-distinct texts text = among-too text texts (distinct texts) (sym (any-distinct text texts))

-- each text is there once
abbrev pub AreOnce : List (List ℕ) → Type 0
AreOnce texts = EachTwo (λ (a b : List ℕ). same_text a b ≡ false) texts

-- a list's texts taken once each are there once
pub distinct-once : (texts : List (List ℕ)) → AreOnce (distinct texts)
distinct-once [] = tt
distinct-once (first ∷ others) = grind (arith, all_of, none-among, among-too, any-distinct, (distinct-once others))

-- without one of its texts a list has one less
one-less : (text : List ℕ) (texts : List (List ℕ)) → AreOnce texts → IsAmong text texts → length texts ≡ suc (length (filter (λ t. not (same_text text t)) texts))
one-less text [] once among = absurd among
one-less text (first ∷ others) once (inl is) = grind (arith, same_text-tells, filter-each, all_of, each_of)
one-less text (first ∷ others) once (inr there) =
    ap suc (one-less text others once.1 there)
    ∙ sym (ap (λ b. suc (length (cond (not b) (first ∷ filter (λ t. not (same_text text t)) others) (filter (λ t. not (same_text text t)) others)))) (same_text-flip text first ∙ each_of (λ (u : List ℕ). same_text first u ≡ false) others text once.0 there))

-- as many texts are in one list as in another, where each has the other's
as-many : (texts others : List (List ℕ)) → AreOnce texts → AreOnce others → ((text : List ℕ) → IsAmong text texts → IsAmong text others) → ((text : List ℕ) → IsAmong text others → IsAmong text texts)
    → length texts ≡ length others
as-many [] others once also there back = sym (ap length (empty-where others back))
as-many (first ∷ rest) others once also there back =
    ap suc (as-many rest left once.1 (two-filter (λ (a b : List ℕ). same_text a b ≡ false) (λ t. not (same_text first t)) others also) to from)
    ∙ sym (one-less first others also (there first (inl refl)))
  where
    left : List (List ℕ)
    left = filter (λ t. not (same_text first t)) others

    to : (text : List ℕ) → IsAmong text rest → IsAmong text left
    to text among =
        in_filter (λ t. not (same_text first t)) others text (there text (inr among)) (ap not (each_of (λ (u : List ℕ). same_text first u ≡ false) rest text once.0 among))

    other : (text : List ℕ) → not (same_text first text) ≡ true → (text ≡ first) ⊎ IsAmong text rest → IsAmong text rest
    other text differs (inl is) = absurd (false≢true (sym (ap not (ap (same_text first) is ∙ text-same first)) ∙ differs))
    other text differs (inr among) = among

    from : (text : List ℕ) → IsAmong text left → IsAmong text rest
    from text among = let kept = among-kept (λ t. not (same_text first t)) others text among in other text kept.1 (back text kept.0)

-- as many texts are in a list as there are entries, where each text has an entry, and each entry its text
pub as-many-as : {X : Type 0} (texts : List (List ℕ)) (key : X → List ℕ) (xs : List X) → AreOnce texts → EachTwo (λ a b. same_text (key a) (key b) ≡ false) xs
    → ((text : List ℕ) → IsAmong text texts → (x : X) × IsAmong x xs × (key x ≡ text)) → ((x : X) → IsAmong x xs → IsAmong (key x) texts) → length texts ≡ length xs
as-many-as texts key xs once apart there back =
    as-many texts (map key xs) once (two-map (λ (a b : List ℕ). same_text a b ≡ false) key xs apart)
    (λ text among. let x = there text among in subst (λ t. IsAmong t (map key xs)) x.2 (in-map key xs x.0 x.1))
    (λ text among. let x = among-map key xs text among in subst (λ t. IsAmong t texts) (sym x.2) (back x.0 x.1)) ∙ length-map xs key

-- ---- the names that have a row

-- a name among others that is there once, and another one
pub any-with : (text name : List ℕ) (names : List (List ℕ)) → list_any (same_text text) (with_name name names) ≡ (same_text text name || list_any (same_text text) names)
any-with text name names = grind (arith, same_text-tells)

-- without a name the others are there still
pub any-without : (text name : List ℕ) (names : List (List ℕ)) → list_any (same_text text) (filter (λ n. not (same_text n name)) names) ≡ (not (same_text text name) && list_any (same_text text) names)
any-without text name names = grind (arith, alike, any-then, among-kept, same_text-tells, then-any, and_parts, in_filter)

-- each name that has a row is there once
pub names-once : (items : List Item) → AreOnce (names_in items)
names-once [] = tt
names-once (Noted name goal ∷ older) = grind (arith, all_of, none-among, (names-once older))
names-once (Forgotten name ∷ older) = two-filter (λ (a b : List ℕ). same_text a b ≡ false) (λ n. not (same_text n name)) (names_in older) (names-once older)
names-once (item ∷ older) = names-once older
