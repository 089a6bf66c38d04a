-- Stores are given their changes, one after another.
use Rattle.std.proofs.Common.{◌≡◌, ◌∙◌, ◌<◌, ◌≤◌, ◌+◌, ◌⊎◌, refl, sym, ap, ap₂, subst, inl, inr, ℕ, zero, suc, List, [], ◌∷◌, ◌++◌, length, map, take, drop, set, get_or, arith}
use Rattle.std.specs.List.{AllByRecursion}
use Rattle.std.proofs.lemmas.List.{map_push, map-append, take_more, take_all}
use Rattle.csi_types.proofs.Each.{each-append, each-append_one}
use Rattle.csi_stores.specs.Public.Content.{all_changed}
use Rattle.csi_stores.specs.Public.Part.{StoredPart, StoredChange}
use Rattle.csi_stores.specs.Public.Stores.{Store, Found, Parts, IsOnly, FindsSome}
use Rattle.csi_plugins.specs.Public.Recovering.{Fate, Stores, AllStay, AreInTurn, AllChange}
use Rattle.csi_plugins.specs.Public.Recovering.Fate.{Stays, MayChange, Changes}
use Rattle.csi_plugins.specs.Private.Recovering.{GivenStore, IsGiven, AreGivenTo, AreAllGiven}
use Rattle.csi_plugins.proofs.Walked.{Walked, walked-none, walked-here, walked-next, walked-olds, walked-news, set-here}

-- ---- fates

-- behind stores that are changed
pub in-turn : (fates others : List Fate) → AllChange fates → AreInTurn others → AreInTurn (fates ++ others)
in-turn [] others all turn = turn
in-turn (Stays ∷ fates) others all turn = cc
in-turn (MayChange ∷ fates) others all turn = cc
in-turn (Changes ∷ fates) others all turn = in-turn fates others all.1 turn

-- more that stay
pub turn-stays : (fates others : List Fate) → AreInTurn fates → AllStay others → AreInTurn (fates ++ others)
turn-stays [] [] turn stay = tt
turn-stays [] (Stays ∷ others) turn stay = stay.1
turn-stays [] (MayChange ∷ others) turn stay = cc
turn-stays [] (Changes ∷ others) turn stay = cc
turn-stays (Stays ∷ fates) others turn stay = each-append (λ (f : Fate). f ≡ Stays) fates others turn stay
turn-stays (MayChange ∷ fates) others turn stay = each-append (λ (f : Fate). f ≡ Stays) fates others turn stay
turn-stays (Changes ∷ fates) others turn stay = turn-stays fates others turn stay

-- all that change are in turn
pub all-in_turn : (fates : List Fate) → AllChange fates → AreInTurn fates
all-in_turn [] all = tt
all-in_turn (Stays ∷ fates) all = cc
all-in_turn (MayChange ∷ fates) all = cc
all-in_turn (Changes ∷ fates) all = all-in_turn fates all.1

-- ---- one store

module _ (before after : Store) (changes : List StoredChange) (honest : after.honest → before.honest) where
  -- a commit that is done
  pub given-done : (after.honest → (content : List StoredPart) → before.holds content → IsOnly after (Parts (all_changed changes content))) → IsGiven Changes before after changes
  given-done done = record { honest = honest; left = λ h content only. done h content only.there }

  -- one that is refused
  pub given-refused : (after.honest → (content : List StoredPart) → before.holds content → (other : Found) → after.leaves other → before.leaves other ⊎ (other ≡ Parts (all_changed changes content)))
      → (after.honest → (content : List StoredPart) → IsOnly before (Parts content) → FindsSome after) → IsGiven MayChange before after changes
  given-refused refused some = record {
    honest = honest;
    left = λ h content only. record {
      some = some h content only;
      each = λ other left. elim (refused h content only.there other left) [ inl old ↦ inl (only.alone other old) | inr new ↦ inr new ];
    };
  }

-- a store that isn't called
pub given-stays : (now : Store) (changes : List StoredChange) → IsGiven Stays now now changes
given-stays now changes = record { honest = λ h. h; left = λ h content only. only }

-- ---- the nodes' stores

module _ {K : Type 0} (seen : K → Store) (olds : List K) (all_changes : List (List StoredChange)) (many : length all_changes ≡ length olds) where
  -- what became of one
  abbrev pub Given : GivenStore K → Type 0
  Given s = IsGiven s.fate (seen s.before) (seen s.after) s.changes

  -- the first ones were changed
  pub record HaveChanged (news : List K) (count : ℕ) : Type 0 where
    pub stores : List (GivenStore K)
    pub walked : Walked (λ (s : GivenStore K). s.before) (λ (s : GivenStore K). s.after) Given olds news count stores
    pub changes_are : map (λ (s : GivenStore K). s.changes) stores ≡ take count all_changes
    pub all : AllChange (map (λ (s : GivenStore K). s.fate) stores)

  -- none yet
  pub changed-none : HaveChanged olds 0
  changed-none = record { stores = []; walked = walked-none (λ (s : GivenStore K). s.before) (λ (s : GivenStore K). s.after) Given olds; changes_are = refl; all = tt }

  module _ (news : List K) (count : ℕ) (some : HaveChanged news count) (d now : K) (changes : List StoredChange) (inside : count < length olds) (here : d ≡ get_or news count d) (own : changes ≡ get_or all_changes count changes) where
    -- its place among the changes
    inside_too : count < length all_changes
    inside_too = omega (arith, inside, many)

    -- it was as it is in the old list
    was : d ≡ get_or olds count d
    was = here ∙ walked-here (λ (s : GivenStore K). s.before) (λ (s : GivenStore K). s.after) Given olds news count some.stores some.walked d inside

    -- one more is changed
    pub changed-next : IsGiven Changes (seen d) (seen now) changes → HaveChanged (set news count now) (count + 1)
    changed-next given =
        let entry : GivenStore K = record { before = d; after = now; changes = changes; fate = Changes } in
        record {
          stores = some.stores ++ entry ∷ [];
          walked = walked-next (λ (s : GivenStore K). s.before) (λ (s : GivenStore K). s.after) Given olds news count some.stores some.walked d entry inside was given;
          changes_are = map_push (λ (s : GivenStore K). s.changes) some.stores entry ∙ ap₂ (λ (cs : List (List StoredChange)) (c : List StoredChange). cs ++ c ∷ []) some.changes_are own ∙ sym (take_more all_changes count changes inside_too);
          all = subst AllChange (sym (map_push (λ (s : GivenStore K). s.fate) some.stores entry)) (each-append_one (λ (f : Fate). f ≡ Changes) (map (λ (s : GivenStore K). s.fate) some.stores) Changes some.all refl);
        }

    -- those that aren't called any more
    left : List K → List (List StoredChange) → List (GivenStore K)
    left [] cs = []
    left (k ∷ ks) [] = []
    left (k ∷ ks) (c ∷ cs) = record { before = k; after = k; changes = c; fate = Stays } ∷ left ks cs

    left-before : (ks : List K) (cs : List (List StoredChange)) → length cs ≡ length ks → map (λ (s : GivenStore K). s.before) (left ks cs) ≡ ks
    unfolding left
    left-before [] cs is = refl
    left-before (k ∷ ks) [] is = absurd (omega (arith, is))
    left-before (k ∷ ks) (c ∷ cs) is = ap (λ (more : List K). k ∷ more) (left-before ks cs (omega (arith, is)))

    left-after : (ks : List K) (cs : List (List StoredChange)) → length cs ≡ length ks → map (λ (s : GivenStore K). s.after) (left ks cs) ≡ ks
    unfolding left
    left-after [] cs is = refl
    left-after (k ∷ ks) [] is = absurd (omega (arith, is))
    left-after (k ∷ ks) (c ∷ cs) is = ap (λ (more : List K). k ∷ more) (left-after ks cs (omega (arith, is)))

    left-changes : (ks : List K) (cs : List (List StoredChange)) → length cs ≡ length ks → map (λ (s : GivenStore K). s.changes) (left ks cs) ≡ cs
    unfolding left
    left-changes [] [] is = refl
    left-changes [] (c ∷ cs) is = absurd (omega (arith, is))
    left-changes (k ∷ ks) [] is = absurd (omega (arith, is))
    left-changes (k ∷ ks) (c ∷ cs) is = ap (λ (more : List (List StoredChange)). c ∷ more) (left-changes ks cs (omega (arith, is)))

    left-each : (ks : List K) (cs : List (List StoredChange)) → AllByRecursion Given (left ks cs)
    unfolding left
    left-each [] cs = tt
    left-each (k ∷ ks) [] = tt
    left-each (k ∷ ks) (c ∷ cs) = (given-stays (seen k) c, left-each ks cs)

    left-stays : (ks : List K) (cs : List (List StoredChange)) → AllStay (map (λ (s : GivenStore K). s.fate) (left ks cs))
    unfolding left
    left-stays [] cs = tt
    left-stays (k ∷ ks) [] = tt
    left-stays (k ∷ ks) (c ∷ cs) = (refl, left-stays ks cs)

    -- as many of each are left
    drop-long : {A B : Type 0} (xs : List A) (ys : List B) (n : ℕ) → length xs ≡ length ys → length (drop n xs) ≡ length (drop n ys)
    drop-long xs ys zero is = is
    drop-long [] [] (suc n) is = refl
    drop-long [] (y ∷ ys) (suc n) is = absurd (omega (arith, is))
    drop-long (x ∷ xs) [] (suc n) is = absurd (omega (arith, is))
    drop-long (x ∷ xs) (y ∷ ys) (suc n) is = drop-long xs ys n (omega (arith, is))

    -- the first, this one and the others are all
    whole : {A : Type 0} (xs : List A) (n : ℕ) (x : A) → n < length xs → x ≡ get_or xs n x → take n xs ++ x ∷ drop (n + 1) xs ≡ xs
    whole [] n x less is = absurd (omega (arith, less))
    whole (y ∷ ys) zero x less is = ap (λ (z : _). z ∷ ys) is
    whole (y ∷ ys) (suc n) x less is =
        let next : suc n + 1 ≡ suc (n + 1) = omega arith in
        ap (λ (k : ℕ). y ∷ take n ys ++ x ∷ drop k (y ∷ ys)) next ∙ ap (λ (zs : List _). y ∷ zs) (whole ys n x (omega (arith, less)) is)

    -- this one is refused, and no other is called
    pub changed-stop : IsGiven MayChange (seen d) (seen now) changes → AreGivenTo seen olds (set news count now) all_changes AreInTurn
    changed-stop given =
        let entry : GivenStore K = record { before = d; after = now; changes = changes; fate = MayChange } in
        let ks = drop (count + 1) olds in
        let cs = drop (count + 1) all_changes in
        let long : length cs ≡ length ks = drop-long all_changes olds (count + 1) many in
        let rest = left ks cs in
        let stores = some.stores ++ entry ∷ rest in
        record {
          stores = stores;
          olds_are = map-append (λ (s : GivenStore K). s.before) some.stores (entry ∷ rest) ∙ ap₂ (λ (a b : List K). a ++ d ∷ b) some.walked.olds_are (left-before ks cs long) ∙ whole olds count d inside was;
          news_are = map-append (λ (s : GivenStore K). s.after) some.stores (entry ∷ rest) ∙ ap (λ (b : List K). map (λ (s : GivenStore K). s.after) some.stores ++ now ∷ b) (left-after ks cs long)
              ∙ sym (set-here (λ (s : GivenStore K). s.before) (λ (s : GivenStore K). s.after) Given olds news count some.stores some.walked d now inside);
          changes_are = map-append (λ (s : GivenStore K). s.changes) some.stores (entry ∷ rest) ∙ ap₂ (λ (a b : List (List StoredChange)). a ++ changes ∷ b) some.changes_are (left-changes ks cs long) ∙ whole all_changes count changes inside_too own;
          each = each-append Given some.stores (entry ∷ rest) some.walked.each (given, left-each ks cs);
          fates = subst AreInTurn (sym (map-append (λ (s : GivenStore K). s.fate) some.stores (entry ∷ rest))) (in-turn (map (λ (s : GivenStore K). s.fate) some.stores) (MayChange ∷ map (λ (s : GivenStore K). s.fate) rest) some.all (left-stays ks cs));
        }

  -- all are changed
  pub changed-all : (news : List K) (count : ℕ) → HaveChanged news count → length olds ≤ count → AreGivenTo seen olds news all_changes AllChange
  changed-all news count some end = record {
    stores = some.stores;
    olds_are = walked-olds (λ (s : GivenStore K). s.before) (λ (s : GivenStore K). s.after) Given olds news count some.stores some.walked end;
    news_are = walked-news (λ (s : GivenStore K). s.before) (λ (s : GivenStore K). s.after) Given olds news count some.stores some.walked end;
    changes_are = some.changes_are ∙ take_all count all_changes (omega (arith, end, many));
    each = some.walked.each;
    fates = some.all;
  }

-- ---- all stores

-- the nodes' stores, the controller's and the new one
pub together : {K : Type 0} (seen : K → Store) (before after : Stores K) (node_changes : List (List StoredChange)) (controller_changes new_changes : List StoredChange) (NodeFates Fates : List Fate → Type 0)
    → AreGivenTo seen before.nodes after.nodes node_changes NodeFates → (controller_fate : Fate) → IsGiven controller_fate (seen before.controller) (seen after.controller) controller_changes
    → (new_fate : Fate) → IsGiven new_fate (seen before.new) (seen after.new) new_changes → ((fates : List Fate) → NodeFates fates → Fates (fates ++ controller_fate ∷ new_fate ∷ []))
    → AreAllGiven seen before after node_changes controller_changes new_changes Fates
together seen before after node_changes controller_changes new_changes NodeFates Fates nodes controller_fate controller new_fate new turn = record {
  stores = nodes.stores;
  olds_are = nodes.olds_are;
  news_are = nodes.news_are;
  changes_are = nodes.changes_are;
  each = nodes.each;
  controller_fate = controller_fate;
  controller = controller;
  new_fate = new_fate;
  new = new;
  fates = turn (map (λ (s : GivenStore _). s.fate) nodes.stores) nodes.fates;
}

-- the fates of all, by those of the nodes' stores
pub turn-nodes : (fates : List Fate) → AreInTurn fates → AreInTurn (fates ++ Stays ∷ Stays ∷ [])
turn-nodes fates turn = turn-stays fates (Stays ∷ Stays ∷ []) turn (refl, (refl, tt))

pub turn-controller : (fates : List Fate) → AllChange fates → AreInTurn (fates ++ MayChange ∷ Stays ∷ [])
turn-controller fates all = in-turn fates (MayChange ∷ Stays ∷ []) all (refl, tt)

pub turn-new : (fates : List Fate) → AllChange fates → AreInTurn (fates ++ Changes ∷ MayChange ∷ [])
turn-new fates all = in-turn fates (Changes ∷ MayChange ∷ []) all tt

pub turn-all : (fates : List Fate) → AllChange fates → AllChange (fates ++ Changes ∷ Changes ∷ [])
turn-all fates all = each-append (λ (f : Fate). f ≡ Changes) fates (Changes ∷ Changes ∷ []) all (refl, (refl, tt))
