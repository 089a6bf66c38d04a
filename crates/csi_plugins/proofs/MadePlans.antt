-- What each store is to get is made of the records that were read.
use Rattle.std.proofs.Common.{◌≡◌, ◌∙◌, ◌+◌, refl, sym, ap, ℕ, List, [], ◌∷◌, ◌++◌, length, map, IfOk, arith}
use Rattle.std.specs.Prelude.{Result, Ok, Err}
use Rattle.std.specs.List.{AllByRecursion}
use Rattle.std.proofs.lemmas.List.{map_push, append_assoc, append-nil, length-map, length-append}
use Rattle.csi_types.proofs.Each.{each-append_one}
use Rattle.csi_node.specs.Model.Record.{NodeParts}
use Rattle.csi_stores.specs.Public.Part.{StoredChange}
use Rattle.csi_service.specs.Public.Renewed.{any_node_records}
use Rattle.csi_plugins.specs.Public.Recovering.{IsRaisedNode}
use Rattle.csi_plugins.specs.Private.Recovering.{LeadsOn, MadeChanges, AreMade}

-- what is answered for each content is answered for all
pub for-each : {A E X : Type 0} (H : X → Type 0) (Q : X → A → Type 0) (r : Result A E) → ((x : X) → H x → IfOk r (Q x)) → IfOk r (λ a. (x : X) → H x → Q x a)
for-each H Q (Ok a) f = f
for-each H Q (Err e) f = tt

module _ (session : ℕ) (kepts : List NodeParts) (renewals : List (List StoredChange)) where
  -- the first ones are made, and these are left
  pub record AreMadeSome (left : List NodeParts) (left_renewals made_changes : List (List StoredChange)) : Type 0 where
    pub made : List MadeChanges
    pub kepts_are : map (λ (m : MadeChanges). m.kept) made ++ left ≡ kepts
    pub renewals_are : map (λ (m : MadeChanges). m.renewal) made ++ left_renewals ≡ renewals
    pub changes_are : map (λ (m : MadeChanges). m.changes) made ≡ made_changes
    pub each : AllByRecursion (λ (m : MadeChanges). LeadsOn any_node_records (IsRaisedNode session) m.kept m.renewal m.changes) made

  -- none yet
  pub made-none : AreMadeSome kepts renewals []
  made-none = record { made = []; kepts_are = refl; renewals_are = refl; changes_are = refl; each = tt }

  -- one more
  pub made-next : (kept : NodeParts) (renewal changes : List StoredChange) (left : List NodeParts) (left_renewals made_changes more : List (List StoredChange)) → AreMadeSome (kept ∷ left) (renewal ∷ left_renewals) made_changes
      → LeadsOn any_node_records (IsRaisedNode session) kept renewal changes → more ≡ made_changes ++ changes ∷ [] → AreMadeSome left left_renewals more
  made-next kept renewal changes left left_renewals made_changes more some leads is =
      let one : MadeChanges = record { kept = kept; renewal = renewal; changes = changes } in
      record {
        made = some.made ++ one ∷ [];
        kepts_are = ap (λ (ks : List NodeParts). ks ++ left) (map_push (λ (m : MadeChanges). m.kept) some.made one) ∙ append_assoc (map (λ (m : MadeChanges). m.kept) some.made) (kept ∷ []) left ∙ some.kepts_are;
        renewals_are = ap (λ (rs : List (List StoredChange)). rs ++ left_renewals) (map_push (λ (m : MadeChanges). m.renewal) some.made one) ∙ append_assoc (map (λ (m : MadeChanges). m.renewal) some.made) (renewal ∷ []) left_renewals ∙ some.renewals_are;
        changes_are = map_push (λ (m : MadeChanges). m.changes) some.made one ∙ ap (λ (cs : List (List StoredChange)). cs ++ changes ∷ []) some.changes_are ∙ sym is;
        each = each-append_one (λ (m : MadeChanges). LeadsOn any_node_records (IsRaisedNode session) m.kept m.renewal m.changes) some.made one some.each leads;
      }

  -- as many of each are left
  pub left-many : length renewals ≡ length kepts → (left : List NodeParts) (left_renewals made_changes : List (List StoredChange)) → AreMadeSome left left_renewals made_changes → length left_renewals ≡ length left
  left-many many left left_renewals made_changes some =
      let a = ap length some.kepts_are in
      let b = ap length some.renewals_are in
      let p = length-append (map (λ (m : MadeChanges). m.kept) some.made) left in
      let q = length-append (map (λ (m : MadeChanges). m.renewal) some.made) left_renewals in
      let x = length-map some.made (λ (m : MadeChanges). m.kept) in
      let y = length-map some.made (λ (m : MadeChanges). m.renewal) in
      omega (arith, many, a, b, p, q, x, y)

  -- all of them
  pub made-all : length renewals ≡ length kepts → (left_renewals made_changes : List (List StoredChange)) → AreMadeSome [] left_renewals made_changes → AreMade session kepts renewals made_changes
  made-all many left_renewals made_changes some =
      let none : left_renewals ≡ [] = empty left_renewals (left-many many [] left_renewals made_changes some) in
      record {
        made = some.made;
        kepts_are = sym (append-nil (map (λ (m : MadeChanges). m.kept) some.made)) ∙ some.kepts_are;
        renewals_are = sym (append-nil (map (λ (m : MadeChanges). m.renewal) some.made)) ∙ ap (λ (rs : List (List StoredChange)). map (λ (m : MadeChanges). m.renewal) some.made ++ rs) (sym none) ∙ some.renewals_are;
        changes_are = some.changes_are;
        each = some.each;
      }
    where
      empty : (rs : List (List StoredChange)) → length rs ≡ length {A = NodeParts} [] → rs ≡ []
      empty [] is = refl
      empty (r ∷ rs) is = absurd (omega (arith, is))
