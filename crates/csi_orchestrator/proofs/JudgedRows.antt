-- The tests of a row are passed exactly where it keeps the rules.
use Rattle.csi_orchestrator.proofs.Words.{◌≡◌, ◌≢◌, ℕ, length, map, Bool, true, false, not, List, [], ◌∷◌, refl, sym}
use Rattle.csi_orchestrator.proofs.Words.{◌∙◌, ap, subst, inl, inr, arith, ◌⊎◌, ⊎_elim, ◌==◌, Option, Some, None, find}
use Rattle.csi_orchestrator.proofs.Words.{is_some, option_and_then, ◌&&◌, ◌||◌, AllByRecursion, IsAmong, EachTwo}
use Rattle.csi_orchestrator.proofs.Words.{Capability, same_text, same_flag, is_single_node, are_two_writers, Goal}
use Rattle.csi_orchestrator.proofs.Words.{Create, Use, Stop, Delete, OpenCall, TargetEntry, NodeEntry, Row, Usage}
use Rattle.csi_orchestrator.proofs.Words.{Known, Yes, No, Maybe, is_for_one_node, uses_as_second_writer, call_for, Held}
use Rattle.csi_orchestrator.proofs.Words.{NodeEntryShown, RowShown, mark_in, held_at, goal_in, is_yes, is_no}
use Rattle.csi_orchestrator.proofs.Words.{IsRestorable, is_so_elsewhere, has_elsewhere, AreTargetsApart}
use Rattle.csi_orchestrator.proofs.Words.{node_entry_shown, row_shown, IsStanding, HasOne, IsAtWork, HasMarks, IsLeft}
use Rattle.csi_orchestrator.proofs.Words.{IsAtRest, AreMarked, HasLast, IsEmptyUnlessMade, CanBeBeside, is_resting}
use Rattle.csi_orchestrator.proofs.Words.{stops_here, uses_here, is_stop_on_the_way, is_use_on_the_way, fits_life}
use Rattle.csi_orchestrator.proofs.Words.{is_restorable}
use Rattle.csi_orchestrator.proofs.Lemmas.{false≢true, length-map, none-some, same_Some, each_of, among-find}
use Rattle.csi_orchestrator.proofs.Lemmas.{find-passes, any-none, same_text-tells, same_capability-tells}
use Rattle.csi_orchestrator.specs.Public.RowRules.{HasEntry, IsUsable, MayBeWanted}
use Rattle.csi_orchestrator.proofs.HasOnes.{one-found, one-is, one-with, one-weaker}
use Rattle.csi_orchestrator.proofs.Judged.{AreEntriesFit, left, resting, beside-flip, entries_tell, tries_tell, tried_tells}
use Rattle.csi_orchestrator.proofs.RowRules.{here}
use Rattle.csi_orchestrator.proofs.Tells.{Tells, never, most, empty, absent, like, both, both_then, either, each_shown}
use Rattle.csi_orchestrator.proofs.UseRules.{flag-same}
use Rattle.csi_orchestrator.proofs.ViewsFollow.{and-false}
use Rattle.csi_orchestrator.proofs.Walks.{TargetLast, one_tells, no-yes, maybe-yes, marks_tell}

-- ---- a use

-- an entry at which it is at work: its target came last
record IsUsedHere (usage : Usage) (entry : NodeEntryShown) : Type 0 where
  pub marks : HasMarks IsAtWork usage.target entry
  pub last : TargetLast usage.target entry.target_entries
  pub capable : entry.capability ≡ usage.capability
  pub flagged : entry.readonly ≡ usage.readonly

-- the same flag
flags : (a b : Bool) → Tells (same_flag a b) (a ≡ b)
flags a b = grind (arith, flag-same)

used : (usage : Usage) (entry : NodeEntry) → AreTargetsApart (node_entry_shown entry) → Tells (uses_here usage entry) (IsUsedHere usage (node_entry_shown entry))
used usage entry apart =
    like
    (both (record { from = (same_capability-tells entry.capability usage.capability).0; back = (same_capability-tells entry.capability usage.capability).1 })
    (both (flags entry.readonly usage.readonly) (marks_tell true (node_entry_shown entry) usage.target apart))) (λ is. record { marks = is.1.1.0; last = is.1.1.1 refl; capable = is.0; flagged = is.1.0 })
    (λ is. (is.capable, (is.flagged, (is.marks, λ must. is.last))))

-- one entry is so
abbrev OneUsed : Usage → List NodeEntryShown → Type 0
OneUsed usage entries = HasOne (λ (e : NodeEntryShown). e.node) usage.node (IsUsedHere usage) IsAtRest entries

-- of two of a list the one stands so to the other, or this to that, unless they are one
two-either : {X : Type 0} (R : X → X → Type 0) (xs : List X) (x y : X) → EachTwo R xs → IsAmong x xs → IsAmong y xs → (x ≡ y) ⊎ (R x y ⊎ R y x)
two-either R [] x y two a b = absurd a
two-either R (z ∷ zs) x y two (inl a) (inl b) = inl (a ∙ sym b)
two-either R (z ∷ zs) x y two (inl a) (inr b) = inr (inl (subst (λ w. R w y) (sym a) (each_of (R z) zs y two.0 b)))
two-either R (z ∷ zs) x y two (inr a) (inl b) = inr (inr (subst (λ w. R w x) (sym b) (each_of (R z) zs x two.0 a)))
two-either R (z ∷ zs) x y two (inr a) (inr b) = two-either R zs x y two.1 a b

-- it may be wanted, since the volume may be held so beside the other entries
usable : (row : RowShown) (usage : Usage) → row.exists ≡ Yes → EachTwo CanBeBeside row.node_entries → OneUsed usage row.node_entries → IsUsable row usage
usable row usage made beside one =
    record {
      made = made;
      entry = record { node_entry = own; target_entry = target.0; at_node = there.1; at_target = target.1; same_capability = used.capable; same_flag = used.flagged };
      shared = elsewhere (is_for_one_node usage) (λ e can. ap (λ (c : Capability). is_single_node e.capability.mode || is_single_node c.mode) (sym used.capable) ∙ can.several);
      one_writer =
          elsewhere (uses_as_second_writer usage)
          (λ e can. ap (λ (c : Capability). are_two_writers e.capability.mode e.readonly c.mode usage.readonly) (sym used.capable) ∙ ap (λ r. are_two_writers e.capability.mode e.readonly own.capability.mode r) (sym used.flagged) ∙ can.one_writer);
    }
  where
    there : (e : NodeEntryShown) × (find (λ (e : NodeEntryShown). same_text e.node usage.node) row.node_entries ≡ Some e) × IsUsedHere usage e
    there = one-found (λ (e : NodeEntryShown). e.node) usage.node (IsUsedHere usage) IsAtRest row.node_entries one

    own : NodeEntryShown
    own = there.0

    used : IsUsedHere usage own
    used = there.2

    target : (t : TargetEntry) × (find (λ (t : TargetEntry). same_text t.target usage.target) own.target_entries ≡ Some t) × (t.published ≡ used.marks.published)
    target = one-found (λ (t : TargetEntry). t.target) usage.target (λ (t : TargetEntry). t.published ≡ used.marks.published) (λ (t : TargetEntry). t.published ≡ Yes) own.target_entries used.marks.targets

    beside-own : (e : NodeEntryShown) → IsAmong e row.node_entries → same_text e.node usage.node ≡ false → CanBeBeside e own
    beside-own e among other = pick (two-either CanBeBeside row.node_entries e own beside among (among-find (λ (x : NodeEntryShown). same_text x.node usage.node) row.node_entries own there.1))
      where
        pick : (e ≡ own) ⊎ (CanBeBeside e own ⊎ CanBeBeside own e) → CanBeBeside e own
        pick (inl same) =
            absurd (false≢true (sym other ∙ ap (λ (x : NodeEntryShown). same_text x.node usage.node) same ∙ find-passes (λ (x : NodeEntryShown). same_text x.node usage.node) row.node_entries own there.1))
        pick (inr (inl can)) = can
        pick (inr (inr can)) = beside-flip own e can

    elsewhere : (so : Held → Bool) → ((e : NodeEntryShown) → CanBeBeside e own → so (held_at e) ≡ false) → has_elsewhere so usage.node row ≡ false
    elsewhere so free = any-none (is_so_elsewhere so usage.node) row.node_entries (λ e among. by e among (same_text e.node usage.node) refl)
      where
        by : (e : NodeEntryShown) → IsAmong e row.node_entries → (b : Bool) → same_text e.node usage.node ≡ b → is_so_elsewhere so usage.node e ≡ false
        by e among true same = here so usage.node e ((same_text-tells e.node usage.node).0 same)
        by e among false other =
            ap (λ b. not (same_text e.node usage.node) && not (is_no e.attached) && b) (free e (beside-own e among other)) ∙ and-false (not (same_text e.node usage.node) && not (is_no e.attached))

-- where a goal is at work, it isn't published yet
work-unpublished : (a s p : Known) → IsAtWork a s p → is_yes p ≡ false
work-unpublished a s p work = grind arith

-- what is found of its node is so, by the rules
used-here : (row : RowShown) (usage : Usage) (entry : NodeEntryShown) → HasEntry row usage → HasLast (Some (Use usage)) row.node_entries → find (λ (e : NodeEntryShown). same_text e.node usage.node) row.node_entries ≡ Some entry
    → HasMarks IsAtWork usage.target entry → IsUsedHere usage entry
used-here row usage entry has last found marks =
    record {
      marks = marks;
      last = last entry found (ap (λ (o : Option TargetEntry). is_yes (mark_in (λ (t : TargetEntry). t.published) o)) target.1 ∙ ap is_yes target.2 ∙ work-unpublished entry.attached entry.staged marks.published marks.marks);
      capable = ap (λ (e : NodeEntryShown). e.capability) own ∙ has.same_capability;
      flagged = ap (λ (e : NodeEntryShown). e.readonly) own ∙ has.same_flag;
    }
  where
    own : entry ≡ has.node_entry
    own = same_Some entry has.node_entry (sym found ∙ has.at_node)

    target : (t : TargetEntry) × (find (λ (t : TargetEntry). same_text t.target usage.target) entry.target_entries ≡ Some t) × (t.published ≡ marks.published)
    target = one-found (λ (t : TargetEntry). t.target) usage.target (λ (t : TargetEntry). t.published ≡ marks.published) (λ (t : TargetEntry). t.published ≡ Yes) entry.target_entries marks.targets

-- ---- a stop

-- an entry at which it is at work, or what is left there
abbrev IsStoppedHere : List ℕ → NodeEntryShown → Type 0
IsStoppedHere target entry = HasMarks IsAtWork target entry ⊎ IsLeft entry

stopped : (target : List ℕ) (entry : NodeEntry) → AreTargetsApart (node_entry_shown entry) → Tells (stops_here target entry) (IsStoppedHere target (node_entry_shown entry))
stopped target entry apart =
    like (either (left entry) (marks_tell false (node_entry_shown entry) target apart)) (⊎_elim inr (λ is. inl is.0)) (⊎_elim (λ marks. inr (marks, λ must. absurd (false≢true must))) inl)

-- ---- the life of a row

-- how its id, what is known of the volume, what is wanted of it, and its entries go together
record HasLife (row : RowShown) : Type 0 where
  pub standing : IsStanding row.goal row.id row.exists
  pub bare : row.id ≡ None → row.node_entries ≡ []
  pub empty : IsEmptyUnlessMade row.exists row.node_entries
  pub marked : AreMarked IsAtWork (λ mark. mark ≢ No) row.goal row.node_entries
  pub last : HasLast row.goal row.node_entries
  pub may : MayBeWanted row row.goal

-- the row with this id, of whose volume this is known and wanted
abbrev row_so : Row → Option Goal → Option ℕ → Known → RowShown
row_so row goal id exists = record (row_shown row) { id = id; exists = exists; goal = goal }

-- without entries
bare : (row : Row) (goal : Option Goal) (id : Option ℕ) (exists : Known) → exists ≢ Yes → IsStanding goal id exists → AreMarked IsAtWork (λ mark. mark ≢ No) goal [] → HasLast goal []
    → (map node_entry_shown row.node_entries.items ≡ [] → MayBeWanted (row_so row goal id exists) goal) → Tells (length row.node_entries.items == 0) (HasLife (row_so row goal id exists))
bare row goal id exists other standing marked last may =
    like (empty row.node_entries.items)
    (λ none.
    let shown : map node_entry_shown row.node_entries.items ≡ [] = ap (map node_entry_shown) none in
    record {
      standing = standing;
      bare = λ e. shown;
      empty = λ other. shown;
      marked = subst (AreMarked IsAtWork (λ mark. mark ≢ No) goal) (sym shown) marked;
      last = subst (HasLast goal) (sym shown) last;
      may = may shown;
    })
    (λ life. (empty row.node_entries.items).from (ap (λ n. n == 0) (sym (length-map row.node_entries.items node_entry_shown) ∙ ap length (life.empty other))))

-- with entries that are marked so, which may be wanted
made : (row : Row) (goal : Option Goal) (id : ℕ) → IsStanding goal (Some id) Yes → {b : Bool} {P : Type 0} → Tells b P
    → (P → AreMarked IsAtWork (λ mark. mark ≢ No) goal (map node_entry_shown row.node_entries.items) × HasLast goal (map node_entry_shown row.node_entries.items) × MayBeWanted (row_so row goal (Some id) Yes) goal)
    → (HasLife (row_so row goal (Some id) Yes) → P) → Tells b (HasLife (row_so row goal (Some id) Yes))
made row goal id standing tells into out =
    like tells
    (λ p. let is = into p in record { standing = standing; bare = λ e. absurd (none-some id (sym e)); empty = λ other. absurd (other refl); marked = is.0; last = is.1; may = is.2 }) out

life_tells : (nodes : List (List ℕ)) (row : Row) (goal : Option Goal) (id : Option ℕ) (exists : Known) → AreEntriesFit nodes row.arguments.capabilities (map node_entry_shown row.node_entries.items)
    → Tells (fits_life goal (is_some id) exists row.node_entries.items) (HasLife (row_so row goal id exists))
life_tells nodes row None None Maybe fit = bare row None None Maybe maybe-yes tt tt tt (λ none. tt)
life_tells nodes row None (Some id) Yes fit = made row None id tt (each_shown node_entry_shown is_resting IsAtRest resting row.node_entries.items) (λ rest. (rest, tt, tt)) (λ life. life.marked)
life_tells nodes row None (Some id) No fit = bare row None (Some id) No no-yes tt tt tt (λ none. tt)
life_tells nodes row (Some Create) None Maybe fit = bare row (Some Create) None Maybe maybe-yes tt tt tt (λ none. refl)
life_tells nodes row (Some (Use usage)) (Some id) Yes fit =
    made row (Some (Use usage)) id tt
    (one_tells node_entry_shown (λ (e : NodeEntryShown). e.node) usage.node (IsUsedHere usage) IsAtRest (uses_here usage) is_resting (is_use_on_the_way usage) refl (λ r rs. refl) resting row.node_entries.items
    (λ r among. used usage r (each_of AreTargetsApart (map node_entry_shown row.node_entries.items) (node_entry_shown r) fit.targets among)) fit.apart)
    (λ one. (
      one-weaker (λ (e : NodeEntryShown). e.node) usage.node (IsUsedHere usage) IsAtRest (HasMarks IsAtWork usage.target) (map node_entry_shown row.node_entries.items) (λ e used. used.marks) one,
      λ entry found un. (one-is (λ (e : NodeEntryShown). e.node) usage.node (IsUsedHere usage) IsAtRest (map node_entry_shown row.node_entries.items) one entry found).last,
      usable (row_so row (Some (Use usage)) (Some id) Yes) usage refl fit.beside one,
    ))
    (λ life.
    one-with (λ (e : NodeEntryShown). e.node) usage.node (HasMarks IsAtWork usage.target) IsAtRest (IsUsedHere usage) (map node_entry_shown row.node_entries.items)
    (λ entry found marks. used-here (row_so row (Some (Use usage)) (Some id) Yes) usage entry life.may.entry life.last found marks) life.marked)
life_tells nodes row (Some (Stop node target)) (Some id) Yes fit =
    made row (Some (Stop node target)) id tt
    (one_tells node_entry_shown (λ (e : NodeEntryShown). e.node) node (IsStoppedHere target) IsAtRest (stops_here target) is_resting (is_stop_on_the_way node target) refl (λ r rs. refl) resting row.node_entries.items
    (λ r among. stopped target r (each_of AreTargetsApart (map node_entry_shown row.node_entries.items) (node_entry_shown r) fit.targets among)) fit.apart) (λ one. (one, tt, tt)) (λ life. life.marked)
life_tells nodes row (Some Delete) (Some id) Maybe fit = bare row (Some Delete) (Some id) Maybe maybe-yes tt tt tt (λ none. subst (AllByRecursion (λ (e : NodeEntryShown). e.attached ≡ No)) (sym none) tt)
life_tells nodes row goal id exists fit = never (λ life. life.standing)

-- ---- a row

-- it passes its test exactly where it keeps the rules
pub restorable_tells : (nodes : List (List ℕ)) (row : Row) → Tells (is_restorable nodes row) (IsRestorable nodes (row_shown row))
restorable_tells nodes row =
    let entries = row.node_entries.items in
    let long : length (map node_entry_shown entries) ≡ length entries = length-map entries node_entry_shown in
    like
    (both (most (length entries) 64)
    (both (absent row.open_call)
    (both (tries_tell row.goal row.tries) (both (tried_tells row.goal row.tries entries) (both_then (entries_tell nodes row.arguments entries) (life_tells nodes row row.goal row.id row.exists))))))
    (λ is.
    let fit = is.1.1.1.1.0 in
    let life = is.1.1.1.1.1 in
    let quiet = is.1.0 in
    let few = is.0 in
    record {
      quiet = quiet;
      sound =
          record {
            nodes = fit.apart;
            targets = fit.targets;
            goal = life.may;
            open_due = λ due e. absurd (none-some due (sym (ap (option_and_then (λ (o : OpenCall). call_for row.name (goal_in (row_shown row)) row.id o.kind)) quiet) ∙ e));
          };
      steady =
          record {
            tries = is.1.1.0;
            untried = is.1.1.1.0;
            standing = life.standing;
            bare = life.bare;
            empty = life.empty;
            marked = life.marked;
            last = life.last;
            allowed = fit.allowed;
            beside = fit.beside;
          };
      within = record { each = fit.within; few = omega (arith, long, few) };
    })
    (λ kept.
    let few = kept.within.few in
    let steady = kept.steady in
    let fit : AreEntriesFit nodes row.arguments.capabilities (map node_entry_shown entries) = record { within = kept.within.each; targets = kept.sound.targets; allowed = steady.allowed; apart = kept.sound.nodes; beside = steady.beside } in
    let life : HasLife (row_so row row.goal row.id row.exists) = record { standing = steady.standing; bare = steady.bare; empty = steady.empty; marked = steady.marked; last = steady.last; may = kept.sound.goal } in
    (omega (arith, long, few), (kept.quiet, (steady.tries, (steady.untried, (fit, life))))))
