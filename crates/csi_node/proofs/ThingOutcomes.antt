-- What an outcome of the table does to the things of a node.
use Rattle.std.proofs.Common.{◌≡◌, ◌≢◌, ℕ, List, Bool, true, false, cond, not, refl, sym, ◌∙◌, ap}
use Rattle.std.specs.Prelude.{Option, Some, None, option_map, find, ◌==◌}
use Rattle.std.proofs.lemmas.Bool.{and_parts, eqb-true, eq-eqb, false_from_ne_true, true≢false}
use Rattle.csi_types.proofs.Searches.{find-filter, find-append_one, find-filter_not, find-append_other}
use Rattle.csi_types.proofs.Equality.{same_text-tells, same_plugin_thing-tells}
use Rattle.csi_types.specs.declared.call.Call.{Call}
use Rattle.csi_types.specs.declared.call.Call.TheVariants as calls
use Rattle.csi_types.specs.declared.status.Status.TheVariants.{Ok}
use Rattle.csi_types.specs.Public.PluginThing.{PluginThing, Exists, Attached, Staged, Published, ThingForm, StagedAs, PublishedAs, same_plugin_thing, asked}
use Rattle.csi_types.specs.Model.Same.{same_text}
use Rattle.csi_types.proofs.Options.{none-from_map}
use Rattle.csi_types.proofs.Tests.{not-where}
use Rattle.csi_node.specs.Model.State.{NodeState, StagedVolume, PublishedVolume, is_published_at}
use Rattle.csi_node.specs.Model.Table.{Outcome, Change, Stays, Stages, Unstages, Publishes, Unpublishes, refused, met, done, changed}
use Rattle.csi_node.specs.Public.View.{held_on, thing_of}
use Rattle.csi_node.proofs.ThingRows.{here}
use Rattle.csi_node.proofs.TableOutcomes.{IsOutcome, at_itself, refuses, was_staged, stages, unstages, was_published, publishes, was_unpublished, unpublishes, stage_call, publish_call}

-- after an OK the thing is as asked, after a refusal as it was, and other things are as they were
pub record Effect (node : List ℕ) (state : NodeState) (call : Call) (outcome : Outcome) (thing : PluginThing) : Type 0 where
  pub done : outcome.reply.status ≡ Ok → held_on node (changed state outcome.change) thing ≡ asked call outcome.reply
  pub refused : outcome.reply.status ≢ Ok → held_on node (changed state outcome.change) thing ≡ held_on node state thing
  pub others : (other : PluginThing) → same_plugin_thing other thing ≡ false → held_on node (changed state outcome.change) other ≡ held_on node state other

-- the same for the thing of a call, if it has one
abbrev pub EffectAt : List ℕ → NodeState → Call → Outcome → Option PluginThing → Type 0
EffectAt node state call outcome None = Unit {0}
EffectAt node state call outcome (Some thing) = Effect node state call outcome thing

-- things that the test tells apart aren't equal
is_not : (a b : PluginThing) → same_plugin_thing a b ≡ false → a ≡ b → ⊥
is_not a b other same = true≢false (sym ((same_plugin_thing-tells a b).1 same) ∙ other)

-- a place is this node, or nothing is there
by_place : (b : Bool) (x y : Option ThingForm) → (b ≡ true → x ≡ y) → cond b x None ≡ cond b y None
by_place true x y f = f refl
by_place false x y f = refl

-- an entry that a search for the target finds is of it
is_at : (id : ℕ) (target : List ℕ) (p : PublishedVolume) → is_published_at id target p ≡ true → (p.volume ≡ id) × (p.target ≡ target)
is_at id target p h =
    let parts = and_parts (p.volume == id) (same_text p.target target) h in
    (eqb-true p.volume id parts.0, (same_text-tells p.target target).0 parts.1)

-- how what is found is held
abbrev staged_form : Option StagedVolume → Option ThingForm
staged_form found = option_map StagedAs (option_map (λ staged. staged.capability) found)

-- how what is found published is held
abbrev published_form : Option PublishedVolume → Option ThingForm
published_form found = option_map (λ published. PublishedAs published.capability published.readonly) found

module _ (node : List ℕ) (state : NodeState) where
  -- a refusal has no effect
  refused_effect : (call : Call) (outcome : Outcome) (o : Option PluginThing) → (outcome.reply.status ≡ Ok → ⊥) → outcome.change ≡ Stays → EffectAt node state call outcome o
  refused_effect call outcome None not_ok stays = tt
  refused_effect call outcome (Some thing) not_ok stays =
      let same : (other : PluginThing) → held_on node (changed state outcome.change) other ≡ held_on node state other = λ other. ap (λ change. held_on node (changed state change) other) stays in
      record { done = λ ok. absurd (not_ok ok); refused = λ _. same thing; others = λ other _. same other }

  -- an OK that changes nothing has its effect where what is asked is so already
  met_effect : (call : Call) (thing : PluginThing) → held_on node state thing ≡ asked call met.reply → Effect node state call met thing
  met_effect call thing is = record { done = λ _. is; refused = λ h. absurd (h refl); others = λ other _. refl }

  -- an OK with a change has its effect where what is asked is so then
  done_effect : (call : Call) (change : Change) (thing : PluginThing) → held_on node (changed state change) thing ≡ asked call (done change).reply
      → ((other : PluginThing) → same_plugin_thing other thing ≡ false → held_on node (changed state change) other ≡ held_on node state other) → Effect node state call (done change) thing
  done_effect call change thing is others = record { done = λ _. is; refused = λ h. absurd (h refl); others = others }

  -- to stage a volume leaves every other thing
  stages_others : (s : StagedVolume) (other : PluginThing) → same_plugin_thing other (Staged s.volume node) ≡ false → held_on node (changed state (Stages s)) other ≡ held_on node state other
  stages_others s (Exists name) differ = refl
  stages_others s (Attached id there) differ = refl
  stages_others s (Published id there target) differ = refl
  stages_others s (Staged id there) differ = by_place (same_text there node) _ _ (λ same.
      let place = (same_text-tells there node).0 same in
      let fails = false_from_ne_true (s.volume == id) (λ h.
      let volume = eqb-true s.volume id h in is_not (Staged id there) (Staged s.volume node) differ (λ i. Staged (sym volume i) (place i))) in
      ap staged_form (find-append_other (λ (s : StagedVolume). s.volume == id) state.staged s fails))

  -- to unstage one leaves every other thing
  unstages_others : (id : ℕ) (other : PluginThing) → same_plugin_thing other (Staged id node) ≡ false → held_on node (changed state (Unstages id)) other ≡ held_on node state other
  unstages_others id (Exists name) differ = refl
  unstages_others id (Attached volume there) differ = refl
  unstages_others id (Published volume there target) differ = refl
  unstages_others id (Staged volume there) differ = by_place (same_text there node) _ _ (λ same.
      let place = (same_text-tells there node).0 same in
      ap staged_form
      (find-filter (λ (s : StagedVolume). s.volume == volume) (λ (s : StagedVolume). not (s.volume == id)) state.staged (λ s found. not-where (s.volume == id) (λ h.
      let number = sym (eqb-true s.volume volume found) ∙ eqb-true s.volume id h in is_not (Staged volume there) (Staged id node) differ (λ i. Staged (number i) (place i))))))

  -- to publish one leaves every other thing
  publishes_others : (p : PublishedVolume) (other : PluginThing) → same_plugin_thing other (Published p.volume node p.target) ≡ false → held_on node (changed state (Publishes p)) other ≡ held_on node state other
  publishes_others p (Exists name) differ = refl
  publishes_others p (Attached id there) differ = refl
  publishes_others p (Staged id there) differ = refl
  publishes_others p (Published id there target) differ = by_place (same_text there node) _ _ (λ same.
      let place = (same_text-tells there node).0 same in
      let fails = false_from_ne_true (is_published_at id target p) (λ h.
      let at = is_at id target p h in is_not (Published id there target) (Published p.volume node p.target) differ (λ i. Published (sym at.0 i) (place i) (sym at.1 i))) in
      ap published_form (find-append_other (is_published_at id target) state.published p fails))

  -- to unpublish one leaves every other thing
  unpublishes_others : (id : ℕ) (target : List ℕ) (other : PluginThing) → same_plugin_thing other (Published id node target) ≡ false → held_on node (changed state (Unpublishes id target)) other ≡ held_on node state other
  unpublishes_others id target (Exists name) differ = refl
  unpublishes_others id target (Attached volume there) differ = refl
  unpublishes_others id target (Staged volume there) differ = refl
  unpublishes_others id target (Published volume there aim) differ = by_place (same_text there node) _ _ (λ same.
      let place = (same_text-tells there node).0 same in
      ap published_form
      (find-filter (is_published_at volume aim) (λ (p : PublishedVolume). not (is_published_at id target p)) state.published (λ p found. not-where (is_published_at id target p) (λ h.
      let first = is_at volume aim p found in
      let second = is_at id target p h in
      let number = sym first.0 ∙ second.0 in
      let end = sym first.1 ∙ second.1 in
      is_not (Published volume there aim) (Published id node target) differ (λ i. Published (number i) (place i) (end i))))))

  -- each outcome of the table has its effect on the call's thing
  pub effect : (call : Call) (outcome : Outcome) → IsOutcome state call outcome → EffectAt node state call outcome (thing_of node call)
  effect _ _ (refuses call status detail not_ok) = refused_effect call (refused status detail) (thing_of node call) not_ok refl
  effect _ _ (was_staged s is) = met_effect (stage_call s) (Staged s.volume node) (rw (here node) (ap (option_map StagedAs) is))
  effect _ _ (stages s none) =
      let free = none-from_map (λ (s : StagedVolume). s.capability) (find (λ (t : StagedVolume). t.volume == s.volume) state.staged) none in
      let found = find-append_one (λ (t : StagedVolume). t.volume == s.volume) state.staged s (eq-eqb s.volume s.volume refl) free in
      done_effect (stage_call s) (Stages s) (Staged s.volume node) (rw (here node) (ap staged_form found)) (stages_others s)
  effect _ _ (unstages id none) =
      let gone = find-filter_not (λ (s : StagedVolume). s.volume == id) state.staged in
      done_effect (calls.NodeUnstageVolume id) (Unstages id) (Staged id node) (rw (here node) (ap staged_form gone)) (unstages_others id)
  effect _ _ (was_published p slash is) = met_effect (publish_call p) (Published p.volume node p.target) (rw (here node) (ap published_form is))
  effect _ _ (publishes p fits) =
      let found = find-append_one (is_published_at p.volume p.target) state.published p (at_itself p) fits.free in
      done_effect (publish_call p) (Publishes p) (Published p.volume node p.target) (rw (here node) (ap published_form found)) (publishes_others p)
  effect _ _ (was_unpublished id target none) = met_effect (calls.NodeUnpublishVolume id target) (Published id node target) (rw (here node) (ap published_form none))
  effect _ _ (unpublishes id target there is) =
      let gone = find-filter_not (is_published_at id target) state.published in
      done_effect (calls.NodeUnpublishVolume id target) (Unpublishes id target) (Published id node target) (rw (here node) (ap published_form gone)) (unpublishes_others id target)
