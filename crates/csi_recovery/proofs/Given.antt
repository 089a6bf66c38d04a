-- The nodes' records, and the nodes that they are of, one by one.
use Rattle.std.proofs.Common.{◌≡◌, ◌<◌, ◌≤◌, ◌+◌, ◌-◌, ℕ, zero, suc, List, [], ◌∷◌, ◌++◌, Bool, true, false, cond, length, take, get_or, refl, sym, ◌∙◌, ap, subst, inl, inr, add-one, arith}
use Rattle.std.specs.Prelude.{Option, Some, None, find}
use Rattle.std.proofs.lemmas.Bool.{false≢true}
use Rattle.std.proofs.lemmas.List.{take_all}
use Rattle.csi_types.specs.Model.Members.{IsAmong}
use Rattle.csi_types.specs.Model.Same.{same_text}
use Rattle.csi_node.specs.Model.Record.{NodeParts}
use Rattle.csi_recovery.specs.Public.Recovered.{GivenNode}
use Rattle.csi_recovery.specs.Public.Judged.{IsGiven, AreGiven, IsFirst}

-- as many
pub given-long : (given : List NodeParts) (known : List GivenNode) → AreGiven given known → length given ≡ length known
given-long [] [] are = refl
given-long [] (node ∷ nodes) are = absurd are
given-long (kept ∷ others) [] are = absurd are
given-long (kept ∷ others) (node ∷ nodes) are = ap (λ (n : ℕ). suc n) (given-long others nodes are.1)

-- the first ones are of the first ones
pub given-take : (given : List NodeParts) (known : List GivenNode) (count : ℕ) → AreGiven given known → AreGiven (take count given) (take count known)
given-take given known zero are = tt
given-take [] [] (suc count) are = tt
given-take [] (node ∷ nodes) (suc count) are = absurd are
given-take (kept ∷ others) [] (suc count) are = absurd are
given-take (kept ∷ others) (node ∷ nodes) (suc count) are = (are.0, given-take others nodes count are.1)

-- what is found of both by an id goes together
abbrev pub FoundSo : Option NodeParts → Option GivenNode → Type 0
FoundSo None None = Unit {0}
FoundSo None (Some node) = ⊥
FoundSo (Some kept) None = ⊥
FoundSo (Some kept) (Some node) = IsGiven kept node

pub found-so : (id : List ℕ) (given : List NodeParts) (known : List GivenNode) → AreGiven given known
    → FoundSo (find (λ (kept : NodeParts). same_text kept.id id) given) (find (λ (node : GivenNode). same_text node.id id) known)
found-so id [] [] are = tt
found-so id [] (node ∷ nodes) are = absurd are
found-so id (kept ∷ others) [] are = absurd are
found-so id (kept ∷ others) (node ∷ nodes) are =
    by (same_text kept.id id) (same_text node.id id) (ap (λ (n : List ℕ). same_text n id) (sym are.0.id)) (found-so id others nodes are.1)
  where
    by : (a b : Bool) → a ≡ b → FoundSo (find (λ (k : NodeParts). same_text k.id id) others) (find (λ (n : GivenNode). same_text n.id id) nodes)
        → FoundSo (cond a (Some kept) (find (λ (k : NodeParts). same_text k.id id) others)) (cond b (Some node) (find (λ (n : GivenNode). same_text n.id id) nodes))
    by true true e rest = are.0
    by true false e rest = absurd (false≢true (sym e))
    by false true e rest = absurd (false≢true e)
    by false false e rest = rest

-- each node has its record
pub record-among : (given : List NodeParts) (known : List GivenNode) (node : GivenNode) → AreGiven given known → IsAmong node known → (kept : NodeParts) × IsAmong kept given × IsGiven kept node
record-among [] [] node are among = absurd among
record-among [] (other ∷ nodes) node are among = absurd are
record-among (kept ∷ others) [] node are among = absurd are
record-among (kept ∷ others) (other ∷ nodes) node are (inl here) = (kept, inl refl, subst (IsGiven kept) (sym here) are.0)
record-among (kept ∷ others) (other ∷ nodes) node are (inr later) =
    let rest = record-among others nodes node are.1 later in (rest.0, inr rest.1, rest.2)

-- and each record its node
pub node-among : (given : List NodeParts) (known : List GivenNode) (kept : NodeParts) → AreGiven given known → IsAmong kept given → (node : GivenNode) × IsAmong node known × IsGiven kept node
node-among [] [] kept are among = absurd among
node-among [] (other ∷ nodes) kept are among = absurd are
node-among (kept ∷ others) [] own are among = absurd are
node-among (kept ∷ others) (node ∷ nodes) own are (inl here) = (node, inl refl, subst (λ (k : NodeParts). IsGiven k node) (sym here) are.0)
node-among (kept ∷ others) (node ∷ nodes) own are (inr later) =
    let rest = node-among others nodes own are.1 later in (rest.0, inr rest.1, rest.2)

-- the node of the record at a place, after those before it
pub record IsNext (kept : NodeParts) (known : List GivenNode) (place : ℕ) : Type 0 where
  pub node : GivenNode
  pub is_given : IsGiven kept node
  pub next : take (place + 1) known ≡ take place known ++ node ∷ []

pub next-node : (given : List NodeParts) (known : List GivenNode) (place : ℕ) (kept : NodeParts) → AreGiven given known → place < length given → kept ≡ get_or given place kept → IsNext kept known place
next-node [] known place kept are inside is = absurd (omega arith)
next-node (own ∷ others) [] place kept are inside is = absurd are
next-node (own ∷ others) (node ∷ nodes) zero kept are inside is = record { node = node; is_given = subst (λ (k : NodeParts). IsGiven k node) (sym is) are.0; next = refl }
next-node (own ∷ others) (node ∷ nodes) (suc place) kept are inside is =
    let rest = next-node others nodes place kept are.1 (omega arith) is in
    let more : take (suc place) nodes ≡ take place nodes ++ rest.node ∷ [] = ap (λ (n : ℕ). take n nodes) (sym (add-one place)) ∙ rest.next in
    record { node = rest.node; is_given = rest.is_given; next = ap (λ (n : ℕ). take n (node ∷ nodes)) (add-one (suc place)) ∙ ap (λ (l : List GivenNode). node ∷ l) more }

-- the first at which a rule is broken
pub first-broken : (Rule : List GivenNode → Type 0) (given : List NodeParts) (known : List GivenNode) (place : ℕ) → AreGiven given known → place < length given → Rule (take place known) → (Rule (take (place + 1) known) → ⊥)
    → IsFirst Rule known (place + 1)
first-broken Rule given known place are inside before broken =
    let back : place ≡ place + 1 - 1 = omega arith in
    let long = given-long given known are in
    record {
      from = omega arith;
      to = omega (arith, long);
      before = subst (λ (k : ℕ). Rule (take k known)) back before;
      refused = broken;
    }

-- all of them are the first so many
pub all-given : (given : List NodeParts) (known : List GivenNode) (count : ℕ) → AreGiven given known → length given ≤ count → take count known ≡ known
all-given given known count are over = let long = given-long given known are in take_all count known (omega (arith, long))
