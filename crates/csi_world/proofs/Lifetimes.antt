-- The calls of a thing, by its id, since what was so of it ended without a call: a node was lost, or a name forgotten. All calls before
-- that are of an earlier session than the one that began then.
use Rattle.csi_world.proofs.Words.{◌≡◌, ◌⊎◌, ℕ, ◌<◌, ◌≤◌, List, [], ◌∷◌, ◌++◌, Bool, true, false, cond, if◌then◌else◌}
use Rattle.csi_world.proofs.Words.{Option, Some, None, find, IsTrue, refl, sym, ◌∙◌, ap, subst, inl, inr, ⊎_elim}
use Rattle.csi_world.proofs.Words.{arith, AllByRecursion, Number, is_before, IsBefore, same_text, PluginThing, Exists}
use Rattle.csi_world.proofs.Words.{Attached, Staged, Published, IsAmong, EachTwo, is_over, Issued, Item, Lost}
use Rattle.csi_world.proofs.Words.{Forgotten, Sent, History, Thing, since, lifetime, issued_by, issued_in, last_in}
use Rattle.csi_world.proofs.Lemmas.{false≢true, false_from_ne_true, ltb-true, nat_tests, filter_map-append, none-some}
use Rattle.csi_world.proofs.Lemmas.{same_Some, each_of, among-append, among-right, among-joined, among-find}
use Rattle.csi_world.proofs.Lemmas.{none_passes, some-found, find-none, find-passes}
use Rattle.csi_orchestrator.specs.declared.thing.Thing.TheVariants as things
use Rattle.csi_orchestrator.specs.Model.Readings as orchestrator
use Rattle.csi_world.proofs.CallThings.{IsThingBy, is_of, ComesAfter}

-- what is staged or published at the node
abbrev pub is_on : List ℕ → PluginThing → Bool
is_on node (Exists name) = false
is_on node (Attached id other) = false
is_on node (Staged id other) = same_text other node
is_on node (Published id other target) = same_text other node

-- whether the volume of the name is there
abbrev pub is_named : List ℕ → PluginThing → Bool
is_named name (Exists other) = same_text name other
is_named name thing = false

-- the item ends what was so of the thing
abbrev pub ends : PluginThing → Item → Bool
ends thing (Lost node) = is_on node thing
ends thing (Forgotten name) = is_named name thing
ends thing item = false

-- the items from the last one on that is so
abbrev pub from : (Item → Bool) → List Item → List Item
from is [] = []
from is (item ∷ older) = if is item then item ∷ older else from is older

-- the calls since, and the calls before
abbrev pub calls_since : PluginThing → List Item → List Issued
calls_since thing items = issued_in (since (ends thing) items)

-- those before
abbrev pub calls_before : PluginThing → List Item → List Issued
calls_before thing items = issued_in (from (ends thing) items)

-- the latest call of the thing since
abbrev pub latest : List Item → PluginThing → Option Issued
latest items thing = find (is_of thing) (calls_since thing items)

-- the session that had begun when it ended, 0 if it never did
abbrev pub over_in : Number → List Item → PluginThing → ℕ
over_in began [] thing = 0
over_in began (item ∷ older) thing = if ends thing item then (last_in began older).session else over_in began older thing

-- the number is of a session before that
abbrev pub is_past : History → PluginThing → Number → Bool
is_past history thing number = is_over (over_in history.began history.items thing) number

-- two tests that say the same of each item leave the same
since-alike : (p q : Item → Bool) → ((item : Item) → p item ≡ q item) → (items : List Item) → since p items ≡ since q items
since-alike p q alike items = grind arith

-- a name's lifetime is what came since its volume's being there ended
pub lifetime-is : (name : List ℕ) (items : List Item) → lifetime name items ≡ since (ends (Exists name)) items
lifetime-is name items = grind (arith, since-alike)

-- ---- what an orchestrator knows of a thing is told by the calls since a loss ended it

-- those calls
abbrev pub calls_for : Thing → List Item → List Issued
calls_for thing items = issued_in (since (orchestrator.ends thing) items)

-- where no item is so, all came since
since-all : (is : Item → Bool) → ((item : Item) → is item ≡ false) → (items : List Item) → since is items ≡ items
since-all is none [] = refl
since-all is none (item ∷ older) = ap (λ b. cond b [] (item ∷ since is older)) (none item) ∙ ap (λ (xs : List Item). item ∷ xs) (since-all is none older)

-- a name's being there is ended by no loss
pub calls-exists : (name : List ℕ) (items : List Item) → calls_for (things.Exists name) items ≡ issued_in items
calls-exists name items = grind (arith, since-all)

-- nor is where its volume is attached
pub calls-attached : (name node : List ℕ) (items : List Item) → calls_for (things.Attached name node) items ≡ issued_in items
calls-attached name node items = grind (arith, since-all)

-- what else is so of a volume ends by its name where it does by an id
ends-alike : {has : List ℕ → ℕ → Type 0} (thing : Thing) (plugin_thing : PluginThing) → IsThingBy has thing plugin_thing → ((name : List ℕ) → thing ≡ things.Exists name → ⊥) → (item : Item)
    → orchestrator.ends thing item ≡ ends plugin_thing item
ends-alike thing plugin_thing h other item = grind arith

-- so it is of the calls since
pub calls-same : {has : List ℕ → ℕ → Type 0} (thing : Thing) (plugin_thing : PluginThing) (items : List Item) → IsThingBy has thing plugin_thing → ((name : List ℕ) → thing ≡ things.Exists name → ⊥)
    → calls_for thing items ≡ calls_since plugin_thing items
calls-same thing plugin_thing items of other = ap issued_in (since-alike (orchestrator.ends thing) (ends plugin_thing) (ends-alike thing plugin_thing of other) items)

-- the items since and those before are all
split : (is : Item → Bool) (items : List Item) → items ≡ since is items ++ from is items
split is [] = refl
split is (item ∷ older) = grind (arith, (split is older))

-- so are the calls
pub calls-split : (thing : PluginThing) (items : List Item) → issued_in items ≡ calls_since thing items ++ calls_before thing items
calls-split thing items = ap issued_in (split (ends thing) items) ∙ filter_map-append issued_by (since (ends thing) items) (from (ends thing) items)

-- what was sent since was sent
pub for-sent : (thing : Thing) (items : List Item) (call : Issued) → IsAmong call (calls_for thing items) → IsAmong call (issued_in items)
for-sent thing items call among =
    subst (IsAmong call) (sym (ap issued_in (split (orchestrator.ends thing) items) ∙ filter_map-append issued_by (since (orchestrator.ends thing) items) (from (orchestrator.ends thing) items)))
    (among-append (calls_for thing items) (issued_in (from (orchestrator.ends thing) items)) call among)

-- each call is among the ones or the others
pub since-or-before : (thing : PluginThing) (items : List Item) (call : Issued) → IsAmong call (issued_in items) → IsAmong call (calls_since thing items) ⊎ IsAmong call (calls_before thing items)
since-or-before thing items call among = among-joined (calls_since thing items) (calls_before thing items) call (subst (IsAmong call) (calls-split thing items) among)

-- the calls since are among all
pub since-sent : (thing : PluginThing) (items : List Item) (call : Issued) → IsAmong call (calls_since thing items) → IsAmong call (issued_in items)
since-sent thing items call among = subst (IsAmong call) (sym (calls-split thing items)) (among-append (calls_since thing items) (calls_before thing items) call among)

-- and so are those before
pub before-sent : (thing : PluginThing) (items : List Item) (call : Issued) → IsAmong call (calls_before thing items) → IsAmong call (issued_in items)
before-sent thing items call among = subst (IsAmong call) (sym (calls-split thing items)) (among-right (calls_since thing items) (calls_before thing items) call among)

-- what is so of each two of a list is so of the first ones
two-first : {X : Type 0} (R : X → X → Type 0) (xs ys : List X) → EachTwo R (xs ++ ys) → EachTwo R xs
two-first R [] ys two = tt
two-first {X = X} R (x ∷ xs) ys two = (all_first xs two.0, two-first R xs ys two.1)
  where
    all_first : (zs : List X) → AllByRecursion (R x) (zs ++ ys) → AllByRecursion (R x) zs
    all_first [] all = tt
    all_first (z ∷ zs) all = (all.0, all_first zs all.1)

-- the calls since have rising numbers
pub since-rising : (thing : PluginThing) (items : List Item) → EachTwo ComesAfter (issued_in items) → EachTwo ComesAfter (calls_since thing items)
since-rising thing items two = two-first ComesAfter (calls_since thing items) (calls_before thing items) (subst (EachTwo ComesAfter) (calls-split thing items) two)

-- the latest call of a thing was sent since, and is of it
pub latest-is : (thing : PluginThing) (items : List Item) (call : Issued) → latest items thing ≡ Some call → IsAmong call (issued_in items) × (is_of thing call ≡ true)
latest-is thing items call found =
    (since-sent thing items call (among-find (is_of thing) (calls_since thing items) call found), find-passes (is_of thing) (calls_since thing items) call found)

-- what is so of when a history's sessions began: the calls before a thing's end are of sessions before it, those since aren't, each call has
-- a number above 0, and what ended did so in a session that has begun
pub record IsTimed (began : Number) (items : List Item) : Type 0 where
  pub before : (thing : PluginThing) (call : Issued) → IsAmong call (calls_before thing items) → IsTrue (is_over (over_in began items thing) call.number)
  pub since : (thing : PluginThing) (call : Issued) → IsAmong call (calls_since thing items) → is_over (over_in began items thing) call.number ≡ false
  pub counted : (call : Issued) → IsAmong call (issued_in items) → 0 < call.number.call
  pub begun : (thing : PluginThing) → over_in began items thing ≤ (last_in began items).session

-- a number that is no earlier than a session isn't over in it
pub not-over : (session : ℕ) (number : Number) → session ≤ number.session → is_over session number ≡ false
not-over session number later = false_from_ne_true (is_over session number) (λ over. clash session number.session later (ltb-true number.session session over))
  where
    clash : (a b : ℕ) → a ≤ b → b < a → ⊥
    clash a b less more = omega arith

-- one that is earlier is
pub is-over : (session : ℕ) (number : Number) → number.session < session → IsTrue (is_over session number)
is-over session number earlier = grind (arith, nat_tests)

-- and the other way round
pub over-earlier : (session : ℕ) (number : Number) → IsTrue (is_over session number) → number.session < session
over-earlier session number over = ltb-true number.session session over

-- what is before a number that is over is over
pub over-before : (session : ℕ) (earlier later : Number) → IsBefore earlier later → IsTrue (is_over session later) → IsTrue (is_over session earlier)
over-before session earlier later before over = is-over session earlier (under earlier later before (over-earlier session later over))
  where
    under : (a b : Number) → IsBefore a b → b.session < session → a.session < session
    under a b less more = grind (arith, nat_tests)

-- a call is sent in the session of the last number
pub timed-sent : (began : Number) (items : List Item) (call : Issued) → IsTimed began items → IsBefore (last_in began items) call.number → (last_in began items).session ≡ call.number.session
    → IsTimed began (Sent call ∷ items)
timed-sent began items call timed later same =
    record {
      before = timed.before;
      since = λ thing other among. ⊎_elim (λ e. subst (λ (x : Issued). is_over (over_in began items thing) x.number ≡ false) (sym e) (own thing)) (λ there. timed.since thing other there) among;
      counted = λ other among. ⊎_elim (λ e. subst (λ (x : Issued). 0 < x.number.call) (sym e) (above (last_in began items) call.number later same)) (λ there. timed.counted other there) among;
      begun = λ thing. up (timed.begun thing);
    }
  where
    own : (thing : PluginThing) → is_over (over_in began items thing) call.number ≡ false
    own thing = not-over (over_in began items thing) call.number (subst (λ s. over_in began items thing ≤ s) same (timed.begun thing))

    above : (a b : Number) → IsBefore a b → a.session ≡ b.session → 0 < b.call
    above a b before same = grind (arith, nat_tests)

    up : {a : ℕ} → a ≤ (last_in began items).session → a ≤ call.number.session
    up {a} less = subst (λ s. a ≤ s) same less

-- an item that ends nothing and sends nothing, in a session that is no earlier
pub timed-noted : (began : Number) (items : List Item) (item : Item) → ((thing : PluginThing) → ends thing item ≡ false) → issued_by item ≡ None → (last_in began items).session ≤ (last_in began (item ∷ items)).session
    → IsTimed began items → IsTimed began (item ∷ items)
timed-noted began items item stays silent grows timed =
    record {
      before = λ thing call among. subst (λ b. IsTrue (is_over (cond b (last_in began items).session (over_in began items thing)) call.number)) (sym (stays thing))
          (timed.before thing call (subst (λ b. IsAmong call (issued_in (cond b (item ∷ items) (from (ends thing) items)))) (stays thing) among));
      since = λ thing call among. subst (λ b. is_over (cond b (last_in began items).session (over_in began items thing)) call.number ≡ false) (sym (stays thing))
          (timed.since thing call (quiet (since (ends thing) items) call (subst (λ b. IsAmong call (issued_in (cond b [] (item ∷ since (ends thing) items)))) (stays thing) among)));
      counted = λ call among. timed.counted call (quiet items call among);
      begun = λ thing. subst (λ b. cond b (last_in began items).session (over_in began items thing) ≤ (last_in began (item ∷ items)).session) (sym (stays thing)) (up (timed.begun thing));
    }
  where
    quiet : (list : List Item) (call : Issued) → IsAmong call (issued_in (item ∷ list)) → IsAmong call (issued_in list)
    quiet list call among = rw silent at among

    up : {a : ℕ} → a ≤ (last_in began items).session → a ≤ (last_in began (item ∷ items)).session
    up {a} less = omega (arith, less, grows)

-- an item that ends things where a session began and nothing was sent in it
pub timed-ended : (began : Number) (items : List Item) (item : Item) → issued_by item ≡ None → last_in began (item ∷ items) ≡ last_in began items
    → ((call : Issued) → IsAmong call (issued_in items) → call.number.session < (last_in began items).session) → IsTimed began items → IsTimed began (item ∷ items)
timed-ended began items item silent same earlier timed =
    record {
      before = λ thing call among. before thing call (ends thing item) among;
      since = λ thing call among. later thing call (ends thing item) among;
      counted = λ call among. timed.counted call (quiet items call among);
      begun = λ thing. subst (λ (n : Number). over_in began (item ∷ items) thing ≤ n.session) (sym same) (up thing (ends thing item));
    }
  where
    quiet : (list : List Item) (call : Issued) → IsAmong call (issued_in (item ∷ list)) → IsAmong call (issued_in list)
    quiet list call among = rw silent at among

    before : (thing : PluginThing) (call : Issued) (b : Bool) → IsAmong call (issued_in (cond b (item ∷ items) (from (ends thing) items))) → IsTrue (is_over (cond b (last_in began items).session (over_in began items thing)) call.number)
    before thing call true among = is-over (last_in began items).session call.number (earlier call (quiet items call among))
    before thing call false among = timed.before thing call among

    later : (thing : PluginThing) (call : Issued) (b : Bool) → IsAmong call (issued_in (cond b [] (item ∷ since (ends thing) items))) → is_over (cond b (last_in began items).session (over_in began items thing)) call.number ≡ false
    later thing call true among = absurd among
    later thing call false among = timed.since thing call (quiet (since (ends thing) items) call among)

    up : (thing : PluginThing) (b : Bool) → cond b (last_in began items).session (over_in began items thing) ≤ (last_in began items).session
    up thing true = omega arith
    up thing false = timed.begun thing

-- where something passes in the first part, it is the first of all
pub find-in_first : {X : Type 0} (p : X → Bool) (xs ys : List X) (x : X) → find p xs ≡ Some x → find p (xs ++ ys) ≡ Some x
find-in_first p [] ys x found = absurd (none-some x found)
find-in_first {X = X} p (y ∷ xs) ys x found = by (p y) found (λ e. find-in_first p xs ys x e)
  where
    by : (b : Bool) → cond b (Some y) (find p xs) ≡ Some x → (find p xs ≡ Some x → find p (xs ++ ys) ≡ Some x) → cond b (Some y) (find p (xs ++ ys)) ≡ Some x
    by true e rest = e
    by false e rest = rest e

-- the first that passes is the first that passes a narrower test, where it passes that
pub find-narrower : {X : Type 0} (p q : X → Bool) (xs : List X) (x : X) → find p xs ≡ Some x → q x ≡ true → ((y : X) → IsAmong y xs → q y ≡ true → p y ≡ true) → find q xs ≡ Some x
find-narrower p q [] x found passes wider = absurd (none-some x found)
find-narrower {X = X} p q (y ∷ xs) x found passes wider = by (p y) refl found (λ e. find-narrower p q xs x e passes (λ z among. wider z (inr among)))
  where
    by : (b : Bool) → p y ≡ b → cond b (Some y) (find p xs) ≡ Some x → (find p xs ≡ Some x → find q xs ≡ Some x) → cond (q y) (Some y) (find q xs) ≡ Some x
    by true t e rest = let same : y ≡ x = same_Some y x e in rw (ap q same ∙ passes) e
    by false t e rest = let fails : q y ≡ false = false_from_ne_true (q y) (λ h. false≢true (sym t ∙ wider y (inl refl) h)) in rw fails (rest e)

-- the latest of rising calls that pass is no earlier than any other
pub latest-of : (p : Issued → Bool) (xs : List Issued) (last other : Issued) → EachTwo ComesAfter xs → find p xs ≡ Some last → IsAmong other xs → p other ≡ true → (other ≡ last) ⊎ IsBefore other.number last.number
latest-of p [] last other two found at of = absurd at
latest-of p (i ∷ is) last other two found at of = by (p i) refl found at (λ e o. latest-of p is last other two.1 e o of)
  where
    by : (b : Bool) → p i ≡ b → cond b (Some i) (find p is) ≡ Some last → (other ≡ i) ⊎ IsAmong other is
        → (find p is ≡ Some last → IsAmong other is → (other ≡ last) ⊎ IsBefore other.number last.number) → (other ≡ last) ⊎ IsBefore other.number last.number
    by true t e (inl o) rest = inl (o ∙ same_Some i last e)
    by true t e (inr o) rest = inr (subst (λ (x : Issued). IsBefore other.number x.number) (same_Some i last e) (each_of (ComesAfter i) is other two.0 o))
    by false t e (inl o) rest = absurd (false≢true (sym t ∙ sym (ap p o) ∙ of))
    by false t e (inr o) rest = rest e o

-- ---- two searches, of which what passes the narrower one passes the wider one

module _ (p q : Issued → Bool) (old : Issued → Bool) (xs : List Issued) (rising : EachTwo ComesAfter xs)
    (wider : (x : Issued) → IsAmong x xs → q x ≡ true → p x ≡ true) (fresh : (x : Issued) → IsAmong x xs → p x ≡ true → old x ≡ false → q x ≡ true)
    (not_old : (x : Issued) → IsAmong x xs → q x ≡ true → old x ≡ false) (closed : (x y : Issued) → IsBefore x.number y.number → old y ≡ true → old x ≡ true) where
  -- where the wider one finds nothing, neither does the narrower
  pub none-narrower : find p xs ≡ None → find q xs ≡ None
  none-narrower none = find-none q xs (λ x among. false_from_ne_true (q x) (λ passes. false≢true (sym (none_passes p xs x none among) ∙ wider x among passes)))

  -- where it finds one that isn't old, so does the narrower
  pub same-narrower : (x : Issued) → find p xs ≡ Some x → old x ≡ false → find q xs ≡ Some x
  same-narrower x found new =
      let there = among-find p xs x found in
      let passes = fresh x there (find-passes p xs x found) new in
      let first = some-found q xs x there passes in
      let y : Issued = first.0 in
      let is = among-find q xs y first.1 in
      ⊎_elim (λ e. first.1 ∙ ap Some e) (λ before. ⊎_elim (λ e. first.1 ∙ ap Some (sym e)) (λ after. absurd (not-both y.number x.number before after)) (latest-of q xs y x rising first.1 there passes))
      (latest-of p xs x y rising found is (wider y is (find-passes q xs y first.1)))
    where
      not-both : (a b : Number) → IsBefore a b → IsBefore b a → ⊥
      not-both a b h k = let t : is_before a b ≡ true = rw h refl in let u : is_before b a ≡ true = rw k refl in grind (arith, nat_tests)

  -- where it finds one that is old, the narrower finds nothing
  pub none-after_old : (x : Issued) → find p xs ≡ Some x → old x ≡ true → find q xs ≡ None
  none-after_old x found is_old =
      find-none q xs (λ y among. false_from_ne_true (q y) (λ passes.
      false≢true (sym (not_old y among passes)
      ∙ ⊎_elim (λ e. ap old e ∙ is_old) (λ before. closed y x before is_old) (latest-of p xs x y rising found among (wider y among passes)))))

  -- what the narrower one finds, the wider finds too
  pub same-wider : (y : Issued) → find q xs ≡ Some y → find p xs ≡ Some y
  same-wider y found =
      let there = among-find q xs y found in
      let first = some-found p xs y there (wider y there (find-passes q xs y found)) in
      by first.0 first.1 (old first.0) refl
    where
      by : (x : Issued) → find p xs ≡ Some x → (b : Bool) → old x ≡ b → find p xs ≡ Some y
      by x is true e = absurd (none-some y (sym (none-after_old x is e) ∙ found))
      by x is false e = is ∙ sym (same-narrower x is e) ∙ found
