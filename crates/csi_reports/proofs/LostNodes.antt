-- Nodes that are lost, each once.
use Rattle.std.proofs.Common.{◌≡◌, ◌∙◌, ◌<◌, ◌+◌, ℕ, List, [], ◌∷◌, ◌++◌, map, take, get_or, length, Bool, true, false, true≢false, cond, not, refl, sym, ap, subst, inl, inr}
use Rattle.std.specs.Prelude.{filter, ◌||◌}
use Rattle.std.specs.List.{flat_map, list_any}
use Rattle.std.proofs.lemmas.List.{append_assoc, append-nil, map_push, take_more}
use Rattle.std.proofs.lemmas.List.Elements.{filter-append}
use Rattle.csi_types.specs.Model.Members.{IsAmong}
use Rattle.csi_types.proofs.Members.{among-filter, in_filter}
use Rattle.csi_types.proofs.Tests.{any-then, then-any}
use Rattle.csi_types.specs.Model.Same.{same_text}
use Rattle.csi_types.proofs.Equality.{same_text-tells}
use Rattle.csi_orchestrator.specs.Model.Shown.{NodeEntryShown, RowShown}
use Rattle.csi_reports.specs.Public.Recoveries.{has_node, once, lost_among, lost_of_entries, lost_of_rows}

-- whether one of these is of the node
pub any-of : {X : Type 0} (of : X → List ℕ) (node : List ℕ) (xs : List X) → list_any (λ x. same_text (of x) node) xs ≡ has_node node (map of xs)
any-of of node [] = refl
any-of of node (x ∷ xs) = ap (λ (b : Bool). same_text (of x) node || b) (any-of of node xs)

-- ---- each once

-- a node that is there
has : (x : List ℕ) (xs : List (List ℕ)) → has_node x xs ≡ true → IsAmong x xs
has x xs e = let found = any-then (λ o. same_text o x) xs e in subst (λ (o : List ℕ). IsAmong o xs) ((same_text-tells found.0 x).0 found.2) found.1

-- and one that isn't
has_none : (x : List ℕ) (xs : List (List ℕ)) → has_node x xs ≡ false → IsAmong x xs → ⊥
has_none x xs e among = let there = then-any (λ o. same_text o x) xs x among ((same_text-tells x x).1 refl) in true≢false (sym there ∙ e)

-- the others than this node
others : List ℕ → List (List ℕ) → List (List ℕ)
others y xs = filter (λ o. not (same_text o y)) xs

-- what another node at the end makes of these, each once
record More (xs : List (List ℕ)) (x : List ℕ) : Type 0 where
  known : IsAmong x (once xs) → once (xs ++ x ∷ []) ≡ once xs
  new : (IsAmong x (once xs) → ⊥) → once (xs ++ x ∷ []) ≡ once xs ++ x ∷ []

-- a node alone, where it is this one, and where it isn't
alone-gone : (y x : List ℕ) → same_text x y ≡ true → others y (x ∷ []) ≡ []
unfolding others
alone-gone y x e = ap (λ (b : Bool). cond (not b) (x ∷ []) []) e

alone-kept : (y x : List ℕ) → same_text x y ≡ false → others y (x ∷ []) ≡ x ∷ []
unfolding others
alone-kept y x e = ap (λ (b : Bool). cond (not b) (x ∷ []) []) e

-- from what it makes of all but the first
step : (y : List ℕ) (ys : List (List ℕ)) (x : List ℕ) → More ys x → More (y ∷ ys) x
unfolding others
step y ys x on = record { known = λ among. ap (λ (zs : List (List ℕ)). y ∷ zs) (same among); new = λ none. ap (λ (zs : List (List ℕ)). y ∷ zs) (longer none) }
  where
    alike : same_text x y ≡ true → (b : Bool) → has_node x (once ys) ≡ b → others y (once (ys ++ x ∷ [])) ≡ others y (once ys)
    alike e true h = ap (others y) (on.known (has x (once ys) h))
    alike e false h = ap (others y) (on.new (has_none x (once ys) h)) ∙ filter-append (λ o. not (same_text o y)) (once ys) (x ∷ []) ∙ ap (λ (zs : List (List ℕ)). others y (once ys) ++ zs) (alone-gone y x e) ∙ append-nil (others y (once ys))

    same : IsAmong x (once (y ∷ ys)) → others y (once (ys ++ x ∷ [])) ≡ others y (once ys)
    same (inl e) = alike ((same_text-tells x y).1 e) (has_node x (once ys)) refl
    same (inr among) = ap (others y) (on.known (among-filter (λ o. not (same_text o y)) (once ys) x among))

    longer : (IsAmong x (once (y ∷ ys)) → ⊥) → others y (once (ys ++ x ∷ [])) ≡ others y (once ys) ++ x ∷ []
    longer none = by (same_text x y) refl
      where
        by : (b : Bool) → same_text x y ≡ b → others y (once (ys ++ x ∷ [])) ≡ others y (once ys) ++ x ∷ []
        by true e = absurd (none (inl ((same_text-tells x y).0 e)))
        by false e =
            ap (others y) (on.new (λ among. none (inr (in_filter (λ o. not (same_text o y)) (once ys) x among (ap not e)))))
            ∙ filter-append (λ o. not (same_text o y)) (once ys) (x ∷ []) ∙ ap (λ (zs : List (List ℕ)). others y (once ys) ++ zs) (alone-kept y x e)

more : (xs : List (List ℕ)) (x : List ℕ) → More xs x
more [] x = record { known = λ among. absurd among; new = λ none. refl }
more (y ∷ ys) x = step y ys x (more ys x)

-- ---- one node

-- it is given
pub node-given : (given seen : List (List ℕ)) (node : List ℕ) → has_node node given ≡ true → once (seen ++ lost_among given (node ∷ [])) ≡ once seen
node-given given seen node e = ap (λ (b : Bool). once (seen ++ cond (not b) (node ∷ []) [])) e ∙ ap once (append-nil seen)

-- it is there
pub node-there : (given seen : List (List ℕ)) (node : List ℕ) → has_node node given ≡ false → has_node node (once seen) ≡ true → once (seen ++ lost_among given (node ∷ [])) ≡ once seen
node-there given seen node e there = ap (λ (b : Bool). once (seen ++ cond (not b) (node ∷ []) [])) e ∙ (more seen node).known (has node (once seen) there)

-- it is new
pub node-new : (given seen : List (List ℕ)) (node : List ℕ) → has_node node given ≡ false → has_node node (once seen) ≡ false → once (seen ++ lost_among given (node ∷ [])) ≡ once seen ++ node ∷ []
node-new given seen node e none = ap (λ (b : Bool). once (seen ++ cond (not b) (node ∷ []) [])) e ∙ (more seen node).new (has_none node (once seen) none)

-- ---- entries and rows, one more

pub entries-more : {E : Type 0} (of : E → NodeEntryShown) (given seen : List (List ℕ)) (es : List E) (i : ℕ) (d : E) → i < length es
    → (seen ++ lost_of_entries given (map of (take i es))) ++ lost_among given ((of (get_or es i d)).node ∷ []) ≡ seen ++ lost_of_entries given (map of (take (i + 1) es))
entries-more of given seen es i d inside =
    append_assoc seen (lost_of_entries given (map of (take i es))) (lost_among given ((of (get_or es i d)).node ∷ []))
    ∙ ap (λ (zs : List (List ℕ)). seen ++ zs) (
    sym (filter-append (λ node. not (has_node node given)) (map (λ (e : NodeEntryShown). e.node) (map of (take i es))) ((of (get_or es i d)).node ∷ []))
    ∙ ap (lost_among given) (sym (ap (map (λ (e : NodeEntryShown). e.node)) (ap (map of) (take_more es i d inside) ∙ map_push of (take i es) (get_or es i d)) ∙ map_push (λ (e : NodeEntryShown). e.node) (map of (take i es)) (of (get_or es i d))))
    )

flat-push : (f : RowShown → List (List ℕ)) (rows : List RowShown) (row : RowShown) → flat_map f (rows ++ row ∷ []) ≡ flat_map f rows ++ f row
flat-push f [] row = append-nil (f row)
flat-push f (r ∷ rows) row = ap (λ (zs : List (List ℕ)). f r ++ zs) (flat-push f rows row) ∙ sym (append_assoc (f r) (flat_map f rows) (f row))

pub rows-more : {R : Type 0} (of : R → RowShown) (given : List (List ℕ)) (rs : List R) (i : ℕ) (d : R) → i < length rs
    → lost_of_rows given (map of (take i rs)) ++ lost_of_entries given (of (get_or rs i d)).node_entries ≡ lost_of_rows given (map of (take (i + 1) rs))
rows-more of given rs i d inside =
    sym (ap (lost_of_rows given) (ap (map of) (take_more rs i d inside) ∙ map_push of (take i rs) (get_or rs i d)) ∙ flat-push (λ (row : RowShown). lost_of_entries given row.node_entries) (map of (take i rs)) (of (get_or rs i d)))
