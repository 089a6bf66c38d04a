-- The row of a volume is one that an orchestrator's record may have, where it is staged at listed nodes only, and staged and published nowhere at
-- one of them at most.
use Rattle.std.proofs.Common.{◌≡◌, ◌≢◌, ℕ, ◌≤◌, List, [], ◌∷◌, length, map, Bool, true, false, cond, refl, sym, ◌∙◌, ap, subst, inl, inr, arith}
use Rattle.std.specs.Prelude.{◌⊎◌, ◌||◌, ◌&&◌, Option, Some, None, find}
use Rattle.std.specs.List.{AllByRecursion}
use Rattle.std.proofs.lemmas.Bool.{false≢true}
use Rattle.std.proofs.lemmas.List.{length-map}
use Rattle.std.proofs.lemmas.Option.{none-some, same_Some}
use Rattle.csi_types.specs.Model.Members.{IsAmong, EachTwo}
use Rattle.csi_types.specs.Public.Places.{AtMostOne}
use Rattle.csi_types.proofs.Members.{all_of, each_of, among-find, among-map, none_passes}
use Rattle.csi_types.proofs.Pairs.{two-map, two-more}
use Rattle.csi_types.proofs.Searches.{find-missed, find-none}
use Rattle.csi_types.specs.declared.capability.Capability.{Capability}
use Rattle.csi_types.specs.Model.Holding.{AreApart}
use Rattle.csi_types.specs.Model.Same.{same_text, has_capability}
use Rattle.csi_types.specs.Model.Sharing.{is_single_node, are_two_writers, allows_one_target, is_single_writer, writes}
use Rattle.csi_types.proofs.Equality.{same_text-tells}
use Rattle.csi_controller.specs.declared.row.ControllerRow.{ControllerRow}
use Rattle.csi_controller.specs.declared.row.NodeHolding.{NodeHolding}
use Rattle.csi_controller.specs.Model.Shown.{volume_of_row}
use Rattle.csi_controller.specs.Public.Core.{IsSoundRow, volume_holding}
use Rattle.csi_controller.proofs.Exclusive.{row-exclusive}
use Rattle.csi_controller.proofs.SameText.{text-turned}
use Rattle.csi_node.specs.declared.row.NodeTarget.{NodeTarget}
use Rattle.csi_node.specs.Public.OneRow.{target_among, AreDistinctTargets}
use Rattle.csi_orchestrator.specs.declared.row.TargetEntry.{TargetEntry}
use Rattle.csi_orchestrator.specs.declared.thing.Known.TheVariants.{Yes, No}
use Rattle.csi_orchestrator.specs.Model.Shown.{NodeEntryShown, RowShown}
use Rattle.csi_orchestrator.specs.Public.Bounds.{IsEntryWithin}
use Rattle.csi_orchestrator.specs.Public.Restored.{IsRestorable}
use Rattle.csi_orchestrator.specs.Public.RowRules.{MayBeWanted}
use Rattle.csi_orchestrator.specs.Public.Shown.{AreTargetsApart, AreNodesApart}
use Rattle.csi_orchestrator.specs.Public.Steady.{HasTries, IsUntried, IsStanding, HasOne, IsAtWork, HasMarks, IsLeftSo, IsAtRest, AreMarked, HasLast, IsAllowed, CanBeBeside}
use Rattle.csi_recovery.specs.Public.Recovered.{root, is_maybe, undoing, tries_for, row_with}
use Rattle.csi_recovery.specs.Public.Judged.{IsFreeRow}
use Rattle.csi_recovery.specs.Private.Walks.{entry_with, published_there, undone_there}
use Rattle.csi_recovery.proofs.Found.{two-seen}

-- the targets of a volume that is staged in the capability of its holding
pub record AreRightTargets (held : NodeHolding) (targets : List NodeTarget) : Type 0 where
  pub few : length targets ≤ 16
  pub apart : AreDistinctTargets targets
  pub single : allows_one_target held.capability.mode ≡ true → length targets ≤ 1

-- if it is staged
abbrev pub AreRight : NodeHolding → Option (List NodeTarget) → Type 0
AreRight held o = (targets : List NodeTarget) → o ≡ Some targets → AreRightTargets held targets

-- ---- one entry

-- what an entry is but for its targets
pub record IsOf (held : NodeHolding) (entry : NodeEntryShown) : Type 0 where
  pub node : entry.node ≡ held.node
  pub capability : entry.capability ≡ held.capability
  pub readonly : entry.readonly ≡ held.readonly

is-of : (held : NodeHolding) (o : Option (List NodeTarget)) → IsOf held (entry_with held o)
is-of held None = record { node = refl; capability = refl; readonly = refl }
is-of held (Some []) = record { node = refl; capability = refl; readonly = refl }
is-of held (Some (there ∷ others)) = record { node = refl; capability = refl; readonly = refl }

-- its targets are apart
missed-each : (target : List ℕ) (targets : List NodeTarget) → target_among targets target ≡ None → AllByRecursion (λ (t : TargetEntry). same_text target t.target ≡ false) (map published_there targets)
missed-each target [] none = tt
missed-each target (t ∷ ts) none = by (same_text t.target target) refl none (λ rest. missed-each target ts rest)
  where
    by : (b : Bool) → same_text t.target target ≡ b → cond b (Some t) (target_among ts target) ≡ None
        → (target_among ts target ≡ None → AllByRecursion (λ (x : TargetEntry). same_text target x.target ≡ false) (map published_there ts)) → AllByRecursion (λ (x : TargetEntry). same_text target x.target ≡ false) (published_there t ∷ map published_there ts)
    by true e some later = absurd (none-some t (sym some))
    by false e rest later = (text-turned target t.target ∙ e, later rest)

apart-targets : (targets : List NodeTarget) → AreDistinctTargets targets → EachTwo (λ (a b : TargetEntry). same_text a.target b.target ≡ false) (map published_there targets)
apart-targets [] distinct = tt
apart-targets (t ∷ ts) distinct = (missed-each t.target ts distinct.0, apart-targets ts distinct.1)

targets-apart : (held : NodeHolding) (o : Option (List NodeTarget)) → AreRight held o → AreTargetsApart (entry_with held o)
targets-apart held None right = tt
targets-apart held (Some []) right = (tt, tt)
targets-apart held (Some (there ∷ others)) right = apart-targets (there ∷ others) (right (there ∷ others) refl).apart

-- few
targets-few : (held : NodeHolding) (o : Option (List NodeTarget)) → AreRight held o → length (entry_with held o).target_entries ≤ 16
targets-few held None right = omega arith
targets-few held (Some []) right = omega arith
targets-few held (Some (there ∷ others)) right = let long = length-map (there ∷ others) published_there in let few = (right (there ∷ others) refl).few in omega (arith, long, few)

-- and one, where the mode allows one
one-target : (held : NodeHolding) (o : Option (List NodeTarget)) → AreRight held o → allows_one_target held.capability.mode ≡ true → length (entry_with held o).target_entries ≤ 1
one-target held None right one = omega arith
one-target held (Some []) right one = omega arith
one-target held (Some (there ∷ others)) right one = let long = length-map (there ∷ others) published_there in let few = (right (there ∷ others) refl).single one in omega (arith, long, few)

-- Yes isn't No
yes-no : Yes ≢ No
yes-no e = cc

-- each of them is published
all-published : (targets : List NodeTarget) → AllByRecursion (λ (t : TargetEntry). t.published ≡ Yes) (map published_there targets)
all-published [] = tt
all-published (t ∷ ts) = (refl, all-published ts)

-- a list with something in it isn't empty
not-empty : {X : Type 0} (x : X) (xs : List X) → x ∷ xs ≡ [] → ⊥
not-empty x xs e = absurd (omega (arith, ap length e))

-- it is at rest, unless it may be staged
rests : (held : NodeHolding) (o : Option (List NodeTarget)) → is_maybe (entry_with held o).staged ≡ false → IsAtRest (entry_with held o)
rests held None sure = inr (record { attached = yes-no; staged = refl; targets = refl })
rests held (Some []) sure = absurd (false≢true (sym sure))
rests held (Some (there ∷ others)) sure = inl (record { attached = refl; staged = refl; published = all-published (there ∷ others); some = not-empty (published_there there) (map published_there others) })

-- and then it is being undone
undone : (held : NodeHolding) (o : Option (List NodeTarget)) → is_maybe (entry_with held o).staged ≡ true → HasMarks IsAtWork root (entry_with held o)
undone held None maybe = absurd (false≢true maybe)
undone held (Some []) maybe = record { published = No; marks = tt; targets = inl ((same_text-tells root root).1 refl, refl, tt); alone = λ other. refl }
undone held (Some (there ∷ others)) maybe = absurd (false≢true maybe)

-- it has targets only where it is staged, or may be
staged-some : (held : NodeHolding) (o : Option (List NodeTarget)) → (entry_with held o).target_entries ≢ [] → (entry_with held o).staged ≢ No
staged-some held None some = absurd (some refl)
staged-some held (Some []) some = λ e. cc
staged-some held (Some (there ∷ others)) some = λ e. cc

-- and where it is staged, or may be, it has
some-staged : (held : NodeHolding) (o : Option (List NodeTarget)) → (entry_with held o).staged ≢ No → (entry_with held o).target_entries ≢ []
some-staged held None staged = absurd (staged refl)
some-staged held (Some []) staged = not-empty undone_there []
some-staged held (Some (there ∷ others)) staged = not-empty (published_there there) (map published_there others)

-- ---- all entries

-- what isn't so is false
false-where : (b : Bool) → (b ≡ true → ⊥) → b ≡ false
false-where true never = absurd (never refl)
false-where false never = refl

-- neither
neither : (a b : Bool) → a ≡ false → b ≡ false → (a || b) ≡ false
neither true b e f = absurd (false≢true (sym e))
neither false b e f = f

-- no two of them write where one is to write alone
two-writers : (wa wb sa sb : Bool) → ((sa ≡ true) ⊎ (sb ≡ true) → wa ≡ true → wb ≡ true → ⊥) → (wa && wb && (sa || sb)) ≡ false
two-writers false wb sa sb alone = refl
two-writers true false sa sb alone = refl
two-writers true true true sb alone = absurd (alone (inl refl) refl refl)
two-writers true true false true alone = absurd (alone (inr refl) refl refl)
two-writers true true false false alone = refl

-- the one that may be staged is being undone, and the others are at rest
one-undone : (entries : List NodeEntryShown) (unsure : NodeEntryShown) → AreNodesApart entries → AtMostOne (λ (e : NodeEntryShown). is_maybe e.staged) entries
    → ((e : NodeEntryShown) → IsAmong e entries → is_maybe e.staged ≡ false → IsAtRest e) → ((e : NodeEntryShown) → IsAmong e entries → is_maybe e.staged ≡ true → HasMarks IsAtWork root e)
    → find (λ (e : NodeEntryShown). is_maybe e.staged) entries ≡ Some unsure
    → HasOne (λ (e : NodeEntryShown). e.node) unsure.node (λ (e : NodeEntryShown). HasMarks IsAtWork root e ⊎ IsLeftSo (λ mark. mark ≢ No) e) IsAtRest entries
one-undone [] unsure apart once rest work found = absurd (none-some unsure found)
one-undone (e ∷ es) unsure apart once rest work found =
    by (is_maybe e.staged) refl found (one-undone es unsure apart.1 once.1 (λ x among. rest x (inr among)) (λ x among. work x (inr among)))
  where
    by : (b : Bool) → is_maybe e.staged ≡ b → cond b (Some e) (find (λ (x : NodeEntryShown). is_maybe x.staged) es) ≡ Some unsure
        → (find (λ (x : NodeEntryShown). is_maybe x.staged) es ≡ Some unsure
        → HasOne (λ (x : NodeEntryShown). x.node) unsure.node (λ (x : NodeEntryShown). HasMarks IsAtWork root x ⊎ IsLeftSo (λ mark. mark ≢ No) x) IsAtRest es)
        → HasOne (λ (x : NodeEntryShown). x.node) unsure.node (λ (x : NodeEntryShown). HasMarks IsAtWork root x ⊎ IsLeftSo (λ mark. mark ≢ No) x) IsAtRest (e ∷ es)
    by true maybe here later =
        let same : e ≡ unsure = same_Some e unsure here in
        inl (
          subst (λ (u : NodeEntryShown). same_text e.node u.node ≡ true) same ((same_text-tells e.node e.node).1 refl),
          inl (work e (inl refl) maybe),
          all_of (λ (y : NodeEntryShown). (same_text y.node unsure.node ≡ false) × IsAtRest y) es
              (λ y among. (
                subst (λ (u : NodeEntryShown). same_text y.node u.node ≡ false) same (text-turned y.node e.node ∙ each_of (λ (x : NodeEntryShown). same_text e.node x.node ≡ false) es y apart.0 among),
                rest y (inr among) (none_passes (λ (x : NodeEntryShown). is_maybe x.staged) es y (once.0 maybe) among),
              )),
        )
    by false sure there later =
        inr (
          each_of (λ (x : NodeEntryShown). same_text e.node x.node ≡ false) es unsure apart.0 (among-find (λ (x : NodeEntryShown). is_maybe x.staged) es unsure there),
          rest e (inl refl) sure,
          later there,
        )

-- what is at rest is known to be staged, or not to be
rest-sure : (e : NodeEntryShown) → IsAtRest e → is_maybe e.staged ≡ false
rest-sure e (inl used) = ap is_maybe used.staged
rest-sure e (inr left) = ap is_maybe left.staged

-- where none passes, no two do
none-once : {X : Type 0} (p : X → Bool) (xs : List X) → find p xs ≡ None → AtMostOne p xs
none-once p [] none = tt
none-once p (x ∷ xs) none = let parts = find-missed (p x) x (find p xs) none in (λ passes. parts.1, none-once p xs parts.1)

-- where all but one are at rest, that one at most may be staged
one-once : (node : List ℕ) (So : NodeEntryShown → Type 0) (entries : List NodeEntryShown) → HasOne (λ (e : NodeEntryShown). e.node) node So IsAtRest entries → AtMostOne (λ (e : NodeEntryShown). is_maybe e.staged) entries
one-once node So [] one = absurd one
one-once node So (e ∷ es) (inl here) =
    let none = find-none (λ (x : NodeEntryShown). is_maybe x.staged) es
    (λ x among. rest-sure x (each_of (λ (y : NodeEntryShown). (same_text y.node node ≡ false) × IsAtRest y) es x here.2 among).1) in
    (λ passes. none, none-once (λ (x : NodeEntryShown). is_maybe x.staged) es none)
one-once node So (e ∷ es) (inr later) = (λ passes. absurd (false≢true (sym (rest-sure e later.1) ∙ passes)), one-once node So es later.2)

marked-once : (o : Option NodeEntryShown) (entries : List NodeEntryShown) → find (λ (e : NodeEntryShown). is_maybe e.staged) entries ≡ o → AreMarked IsAtWork (λ mark. mark ≢ No) (undoing o) entries
    → AtMostOne (λ (e : NodeEntryShown). is_maybe e.staged) entries
marked-once None entries none all = none-once (λ (e : NodeEntryShown). is_maybe e.staged) entries none
marked-once (Some unsure) entries found one = one-once unsure.node (λ (e : NodeEntryShown). HasMarks IsAtWork root e ⊎ IsLeftSo (λ mark. mark ≢ No) e) entries one

-- a goal that undoes goes with its tries
goal-tries : (o : Option NodeEntryShown) → HasTries (undoing o) (tries_for (undoing o))
goal-tries None = refl
goal-tries (Some e) = omega arith

goal-untried : (o : Option NodeEntryShown) (entries : List NodeEntryShown) → tries_for (undoing o) ≡ 0 → IsUntried (undoing o) entries
goal-untried None entries none = tt
goal-untried (Some e) entries none = absurd (omega (arith, none))

goal-standing : (o : Option NodeEntryShown) (id : ℕ) → IsStanding (undoing o) (Some id) Yes
goal-standing None id = tt
goal-standing (Some e) id = tt

goal-last : (o : Option NodeEntryShown) (entries : List NodeEntryShown) → HasLast (undoing o) entries
goal-last None entries = tt
goal-last (Some e) entries = tt

goal-wanted : (o : Option NodeEntryShown) (row : RowShown) → MayBeWanted row (undoing o)
goal-wanted None row = tt
goal-wanted (Some e) row = tt

module _ (n : ℕ) (row : ControllerRow) (rules : IsSoundRow n row) (targets : NodeHolding → Option (List NodeTarget)) (right : (held : NodeHolding) → IsAmong held row.holdings.items → AreRight held (targets held)) where
  -- the entry of a holding
  abbrev own : NodeHolding → NodeEntryShown
  own held = entry_with held (targets held)

  -- all
  abbrev entries : List NodeEntryShown
  entries = map own row.holdings.items

  -- what is so of each
  each-own : (Q : NodeEntryShown → Type 0) → ((held : NodeHolding) → IsAmong held row.holdings.items → Q (own held)) → (e : NodeEntryShown) → IsAmong e entries → Q e
  each-own Q fact e among = let from = among-map own row.holdings.items e among in subst Q (sym from.2) (fact from.0 from.1)

  -- any two holdings are apart
  held-apart : EachTwo (λ (a b : NodeHolding). AreApart (volume_holding row.id a) (volume_holding row.id b)) row.holdings.items
  held-apart = two-seen AreApart (volume_holding row.id) row.holdings.items (row-exclusive n row rules).apart

  nodes-apart : AreNodesApart entries
  nodes-apart =
      two-map (λ (a b : NodeEntryShown). same_text a.node b.node ≡ false) own row.holdings.items
      (two-more (λ (a b : NodeHolding). AreApart (volume_holding row.id a) (volume_holding row.id b)) (λ (a b : NodeHolding). same_text (own a).node (own b).node ≡ false) row.holdings.items
      (λ a b apart.
      false-where (same_text (own a).node (own b).node) (λ same. apart.nodes (sym (is-of a (targets a)).node ∙ (same_text-tells (own a).node (own b).node).0 same ∙ (is-of b (targets b)).node))) held-apart)

  beside : EachTwo CanBeBeside entries
  beside =
      two-map CanBeBeside own row.holdings.items
      (two-more (λ (a b : NodeHolding). AreApart (volume_holding row.id a) (volume_holding row.id b)) (λ (a b : NodeHolding). CanBeBeside (own a) (own b)) row.holdings.items (λ a b apart.
      let one = is-of a (targets a) in
      let other = is-of b (targets b) in
      let together : are_two_writers (own a).capability.mode (own a).readonly (own b).capability.mode (own b).readonly ≡ are_two_writers a.capability.mode a.readonly b.capability.mode b.readonly
      = λ i. are_two_writers (one.capability i).mode (one.readonly i) (other.capability i).mode (other.readonly i) in
      record {
        several =
            neither (is_single_node (own a).capability.mode) (is_single_node (own b).capability.mode) (ap (λ (c : Capability). is_single_node c.mode) one.capability ∙ apart.first_shared)
            (ap (λ (c : Capability). is_single_node c.mode) other.capability ∙ apart.second_shared);
        one_writer =
            together
            ∙ two-writers (writes a.capability.mode a.readonly) (writes b.capability.mode b.readonly) (is_single_writer a.capability.mode) (is_single_writer b.capability.mode) apart.one_writer;
      }) held-apart)

  -- at rest, or being undone
  marked : AtMostOne (λ (e : NodeEntryShown). is_maybe e.staged) entries → (o : Option NodeEntryShown) → find (λ (e : NodeEntryShown). is_maybe e.staged) entries ≡ o → AreMarked IsAtWork (λ mark. mark ≢ No) (undoing o) entries
  marked once None none =
      all_of IsAtRest entries (λ e among. each-own (λ (x : NodeEntryShown). is_maybe x.staged ≡ false → IsAtRest x) (λ held there. rests held (targets held)) e among (none_passes (λ (x : NodeEntryShown). is_maybe x.staged) entries e none among))
  marked once (Some unsure) found =
      one-undone entries unsure nodes-apart once (each-own (λ (x : NodeEntryShown). is_maybe x.staged ≡ false → IsAtRest x) (λ held there. rests held (targets held)))
      (each-own (λ (x : NodeEntryShown). is_maybe x.staged ≡ true → HasMarks IsAtWork root x) (λ held there. undone held (targets held))) found

  -- so the row is one of a record's
  pub restorable : (nodes : List (List ℕ)) → IsFreeRow nodes (row_with (volume_of_row row) entries) → IsRestorable nodes (row_with (volume_of_row row) entries)
  restorable nodes free =
      let unsure : Option NodeEntryShown = find (λ (e : NodeEntryShown). is_maybe e.staged) entries in
      let long = length-map row.holdings.items own in
      let few = rules.limit in
      record {
        quiet = refl;
        sound = record {
          nodes = nodes-apart;
          targets = all_of AreTargetsApart entries (each-own AreTargetsApart (λ held there. targets-apart held (targets held) (right held there)));
          goal = goal-wanted unsure (row_with (volume_of_row row) entries);
          open_due = λ due none. absurd (none-some due none);
        };
        steady = record {
          tries = goal-tries unsure;
          untried = goal-untried unsure entries;
          standing = goal-standing unsure row.id;
          bare = λ none. absurd (none-some row.id (sym none));
          empty = λ other. absurd (other refl);
          marked = marked free.once unsure refl;
          last = goal-last unsure entries;
          allowed = all_of (IsAllowed row.capabilities) entries
              (each-own (IsAllowed row.capabilities) (λ held there.
              let of = is-of held (targets held) in
              record {
                capable =
                    ap (has_capability row.capabilities) of.capability
                    ∙ each_of (λ (h : NodeHolding). has_capability row.capabilities h.capability ≡ true) row.holdings.items held rules.listed there;
                one_target = λ one. one-target held (targets held) (right held there) (sym (ap (λ (c : Capability). allows_one_target c.mode) of.capability) ∙ one);
              }));
          beside = beside;
        };
        within = record {
          each = all_of (IsEntryWithin nodes) entries
              (λ e among. record {
                among = λ some. free.listed e among (each-own (λ (x : NodeEntryShown). x.target_entries ≢ [] → x.staged ≢ No) (λ held there. staged-some held (targets held)) e among some);
                targets = each-own (λ (x : NodeEntryShown). length x.target_entries ≤ 16) (λ held there. targets-few held (targets held) (right held there)) e among;
              });
          few = omega (arith, long, few);
        };
      }

  -- and where it is one of a record's, it is free
  pub free : (nodes : List (List ℕ)) → IsRestorable nodes (row_with (volume_of_row row) entries) → IsFreeRow nodes (row_with (volume_of_row row) entries)
  free nodes kept = record {
    listed = λ e among staged.
        (each_of (IsEntryWithin nodes) entries e kept.within.each among).among (each-own (λ (x : NodeEntryShown). x.staged ≢ No → x.target_entries ≢ []) (λ held there. some-staged held (targets held)) e among staged);
    once = marked-once (find (λ (e : NodeEntryShown). is_maybe e.staged) entries) entries refl kept.steady.marked;
  }
