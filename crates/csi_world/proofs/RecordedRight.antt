-- What is known of a thing is so.
use Rattle.csi_world.proofs.Words.{◌≡◌, ℕ, List, true, false, cond, Option, Some, None, option_map, find, is_some, refl}
use Rattle.csi_world.proofs.Words.{sym, ◌∙◌, ap, subst, ⊎_elim, ◌==◌, kind_of, PluginThing, Exists, Attached, Staged}
use Rattle.csi_world.proofs.Words.{Published, ThingForm, StagedAs, PublishedAs, IsAmong, same_text, Volume}
use Rattle.csi_world.proofs.Words.{volume_named, live_volume, holding_at, NodeState, StagedVolume, PublishedVolume}
use Rattle.csi_world.proofs.Words.{staged_of, is_published_at, published_at, Thing, Yes, known, NodeAt, World}
use Rattle.csi_world.proofs.Words.{node_state, IsStagedWhereAttached, IsPublishedWhereStaged, IsAttachedWhileLive}
use Rattle.csi_world.proofs.Words.{is_attached_there, is_staged_there, is_published_there, is_true_in, IsRecordedRight}
use Rattle.csi_world.proofs.Lemmas.{and_parts, eqb-true, false≢true, among-find, find-passes, is_some-map, none-where}
use Rattle.csi_world.proofs.Lemmas.{same_text-tells}
use Rattle.csi_controller.specs.Public.View as controllers
use Rattle.csi_orchestrator.specs.declared.thing.Thing.TheVariants as things
use Rattle.csi_world.proofs.WorldView.{node_view, over_at, view_of}
use Rattle.csi_world.proofs.GivenIds.{GivenId, HasNow, HasName, AreGiven, AreOf, id-of_found, name-of_found, id-named}
use Rattle.csi_world.proofs.CallThings.{IsThingBy, IsOne, Existence, Attachment, Staging, Publication}
use Rattle.csi_world.proofs.RepliesTold.{asked-doing}
use Rattle.csi_world.proofs.CreatesFirst.{CreatesFirst}
use Rattle.csi_world.proofs.NotLive.{AreEnded, OldAreSpent}
use Rattle.csi_world.proofs.Forgotten.{told_by, ended-detached}
use Rattle.csi_world.proofs.PluginsReached.{found-at}
use Rattle.csi_world.proofs.KnownThings.{IsSoFar, latest-told, not-there, yes-done}

-- what is so of a world, by the ids that were given
pub record IsWell (world : World) (given : List GivenId) : Type 0 where
  pub so_far : IsSoFar world.history world.frames (told_by given world) given
  pub of_controller : AreOf world.controller given
  pub creates : CreatesFirst world.history.items
  pub ended : AreEnded given world.history.items (view_of world)
  pub old_spent : OldAreSpent world.history.items world.controller (view_of world)

-- what is staged is attached, what is published is staged, and what is attached is live
pub record IsOrdered (world : World) : Type 0 where
  pub staged : IsStagedWhereAttached world
  pub published : IsPublishedWhereStaged world
  pub live : IsAttachedWhileLive world

-- what is known to be so is there, by an id that its name was given
pub record IsThere (world : World) (given : List GivenId) (thing : Thing) : Type 0 where
  pub plugin_thing : PluginThing
  pub one : IsThingBy (HasName given) thing plugin_thing
  pub held : is_some ((view_of world).held plugin_thing) ≡ true

-- so it is of each known thing
is_there : (world : World) (given : List GivenId) (thing : Thing) → IsWell world given → known world.history thing ≡ Yes → IsThere world given thing
is_there world given thing well h =
    let done = yes-done world.history world.frames (told_by given world) given well.so_far thing h in
    let told = latest-told world.history world.frames (told_by given world) given well.so_far done.plugin_thing done.call done.by_id done.success in
    let rule = well.so_far.truth.ids done.call.number done.call.party (kind_of done.call.call) told.0 told.1.0 told.1.1 in
    record { plugin_thing = done.plugin_thing; one = done.one; held = ap is_some told.2 ∙ asked-doing done.call.call told.0 done.is_so told.1.1 rule }

-- ---- how the views tell what holds

-- a text is the same as itself
self : (node : List ℕ) → same_text node node ≡ true
self node = (same_text-tells node node).1 refl

-- where a volume isn't live, it isn't staged at any node
ended-unstaged : (world : World) (at : NodeAt) (staged : StagedVolume) → IsOrdered world → IsAmong at world.nodes → IsAmong staged at.state.staged → live_volume staged.volume world.controller ≡ None → ⊥
ended-unstaged world at staged ordered here among ended =
    let attached = ordered.staged at staged here among in
    let held : is_some (live_volume attached.holding.volume world.controller) ≡ true = ordered.live attached.holding attached.is_held in
    false≢true (sym (ap is_some ended) ∙ ap (λ n. is_some (live_volume n world.controller)) (sym attached.of_volume) ∙ held)

module _ (world : World) (given : List GivenId) (are : AreGiven given) (of : AreOf world.controller given) (ordered : IsOrdered world) where
  -- how the world has a thing by an id, and by the name of the volume of that id
  pub record IsSoBy (name : List ℕ) (thing : Thing) (plugin_thing : ℕ → PluginThing) : Type 0 where
    -- where the volume of the name has an id, the thing is as it is by that
    pub by_id : (volume : Volume) → volume_named name world.controller ≡ Some volume → is_true_in world thing ≡ is_some ((view_of world).held (plugin_thing volume.id))
    pub unnamed : volume_named name world.controller ≡ None → is_true_in world thing ≡ false
    -- and only what has a live volume is there
    pub ended : (id : ℕ) → live_volume id world.controller ≡ None → (view_of world).held (plugin_thing id) ≡ None

  -- an attachment
  attached-so : (name node : List ℕ) → IsSoBy name (things.Attached name node) (λ id. Attached id node)
  attached-so name node =
      record {
        by_id = λ volume e. ap (is_attached_there world.controller node) e ∙ sym (is_some-map _ (holding_at volume.id node world.controller));
        unnamed = λ e. ap (is_attached_there world.controller node) e;
        ended = λ id ended. ended-detached world id node ordered.live ended;
      }

  -- where the volume isn't live, it isn't staged
  unstaged : (node : List ℕ) (id : ℕ) → live_volume id world.controller ≡ None → (o : Option NodeState) → node_state node world ≡ o → (node_view node (over_at world) o).held (Staged id node) ≡ None
  unstaged node id ended None is = refl
  unstaged node id ended (Some state) is =
      let at = found-at node world state is in
      let none : find (λ (s : StagedVolume). s.volume == id) state.staged ≡ None
      = none-where (find (λ (s : StagedVolume). s.volume == id) state.staged) (λ staged found.
      let volume : staged.volume ≡ id = eqb-true staged.volume id (find-passes (λ (s : StagedVolume). s.volume == id) state.staged staged found) in
      ended-unstaged world at.0 staged ordered at.1 (subst (λ (n : NodeState). IsAmong staged n.staged) (sym at.3) (among-find (λ (s : StagedVolume). s.volume == id) state.staged staged found))
      (ap (λ n. live_volume n world.controller) volume ∙ ended)) in
      ap (λ b. cond b (option_map StagedAs (staged_of id state)) None) (self node) ∙ ap (λ (o : Option StagedVolume). option_map StagedAs (option_map (λ (s : StagedVolume). s.capability) o)) none

  -- a staging
  staged-so : (name node : List ℕ) → IsSoBy name (things.Staged name node) (λ id. Staged id node)
  staged-so name node =
      record {
        by_id = λ volume e. ap (λ o. is_staged_there o (node_state node world)) e ∙ there (node_state node world) volume.id volume refl;
        unnamed = λ e. ap (λ o. is_staged_there o (node_state node world)) e;
        ended = λ id ended. unstaged node id ended (node_state node world) refl;
      }
    where
      there : (o : Option NodeState) (id : ℕ) (volume : Volume) → volume.id ≡ id → is_staged_there (Some volume) o ≡ is_some ((node_view node (over_at world) o).held (Staged id node))
      there None id volume e = refl
      there (Some state) id volume e = ap (λ n. is_some (staged_of n state)) e ∙ sym (is_some-map StagedAs (staged_of id state)) ∙ sym (ap (λ b. is_some (cond b (option_map StagedAs (staged_of id state)) None)) (self node))

  -- how a publication is there
  abbrev published_as : PublishedVolume → ThingForm
  published_as published = PublishedAs published.capability published.readonly

  -- where the volume isn't live, it isn't published
  unpublished : (node target : List ℕ) (id : ℕ) → live_volume id world.controller ≡ None → (o : Option NodeState) → node_state node world ≡ o → (node_view node (over_at world) o).held (Published id node target) ≡ None
  unpublished node target id ended None is = refl
  unpublished node target id ended (Some state) is =
      let at = found-at node world state is in
      let none : published_at id target state ≡ None
      = none-where (published_at id target state) (λ published found.
      let among = subst (λ (n : NodeState). IsAmong published n.published) (sym at.3) (among-find (is_published_at id target) state.published published found) in
      let passes = and_parts (published.volume == id) (same_text published.target target) (find-passes (is_published_at id target) state.published published found) in
      ended-unstaged world at.0 (record { volume = published.volume; capability = published.capability }) ordered at.1 (ordered.published at.0 published at.1 among)
      (ap (λ n. live_volume n world.controller) (eqb-true published.volume id passes.0) ∙ ended)) in
      ap (λ b. cond b (option_map published_as (published_at id target state)) None) (self node) ∙ ap (λ (o : Option PublishedVolume). option_map published_as o) none

  -- a publication
  published-so : (name node target : List ℕ) → IsSoBy name (things.Published name node target) (λ id. Published id node target)
  published-so name node target =
      record {
        by_id = λ volume e. ap (λ o. is_published_there target o (node_state node world)) e ∙ there (node_state node world) volume.id volume refl;
        unnamed = λ e. ap (λ o. is_published_there target o (node_state node world)) e;
        ended = λ id ended. unpublished node target id ended (node_state node world) refl;
      }
    where
      there : (o : Option NodeState) (id : ℕ) (volume : Volume) → volume.id ≡ id → is_published_there target (Some volume) o ≡ is_some ((node_view node (over_at world) o).held (Published id node target))
      there None id volume e = refl
      there (Some state) id volume e = ap (λ n. is_some (published_at n target state)) e ∙ sym (is_some-map published_as (published_at id target state)) ∙ sym (ap (λ b. is_some (cond b (option_map published_as (published_at id target state)) None)) (self node))

  -- what is there by an id of the name is so by the name
  there-holds : (name : List ℕ) (thing : Thing) (plugin_thing : ℕ → PluginThing) (id : ℕ) → HasName given name id → IsSoBy name thing plugin_thing → is_some ((view_of world).held (plugin_thing id)) ≡ true → is_true_in world thing ≡ true
  there-holds name thing plugin_thing id has so held = by (live_volume id world.controller) refl
    where
      by : (o : Option Volume) → live_volume id world.controller ≡ o → is_true_in world thing ≡ true
      by None e = absurd (false≢true (sym (ap is_some (so.ended id e)) ∙ held))
      by (Some volume) e =
          let there = of.names.live_id id volume e in
          let named : volume.name ≡ name = id-named world.controller given name id volume are of has there in
          so.by_id volume (subst (λ n. volume_named n world.controller ≡ Some volume) named (of.names.by_name id volume there))
          ∙ ap (λ n. is_some ((view_of world).held (plugin_thing n))) (id-of_found id world.controller volume there) ∙ held

  -- what isn't there by the id that the name has now isn't so by the name
  gone-holds-not : (name : List ℕ) (thing : Thing) (plugin_thing : ℕ → PluginThing) → IsSoBy name thing plugin_thing → ((id : ℕ) → HasNow given name id → (view_of world).held (plugin_thing id) ≡ None) → is_true_in world thing ≡ false
  gone-holds-not name thing plugin_thing so gone = by (volume_named name world.controller) refl
    where
      by : (o : Option Volume) → volume_named name world.controller ≡ o → is_true_in world thing ≡ false
      by None e = so.unnamed e
      by (Some volume) e =
          let has = subst (λ n. HasName given n volume.id) (name-of_found name world.controller volume e) (of.listed volume.id volume (of.names.by_id name volume e)) in
          so.by_id volume e ∙ ap is_some (⊎_elim (λ now. gone volume.id now) (λ old. so.ended volume.id (of.ended name volume.id old)) has)

  -- what is there holds
  yes-holds : (thing : Thing) (plugin_thing : PluginThing) → IsThingBy (HasName given) thing plugin_thing → is_some ((view_of world).held plugin_thing) ≡ true → is_true_in world thing ≡ true
  yes-holds _ _ (Existence name) held = sym (is_some-map _ (controllers.live_named name world.controller)) ∙ held
  yes-holds _ _ (Attachment name node id has) held = there-holds name (things.Attached name node) (λ i. Attached i node) id has (attached-so name node) held
  yes-holds _ _ (Staging name node id has) held = there-holds name (things.Staged name node) (λ i. Staged i node) id has (staged-so name node) held
  yes-holds _ _ (Publication name node target id has) held = there-holds name (things.Published name node target) (λ i. Published i node target) id has (published-so name node target) held

  -- and what isn't there by the id that its name has now doesn't
  no-holds : (thing : Thing) → ((plugin_thing : PluginThing) → IsOne given thing plugin_thing → (view_of world).held plugin_thing ≡ None) → is_true_in world thing ≡ false
  no-holds (things.Exists name) gone = sym (is_some-map _ (controllers.live_named name world.controller)) ∙ ap is_some (gone (Exists name) (Existence name))
  no-holds (things.Attached name node) gone = gone-holds-not name (things.Attached name node) (λ id. Attached id node) (attached-so name node) (λ id has. gone (Attached id node) (Attachment name node id has))
  no-holds (things.Staged name node) gone = gone-holds-not name (things.Staged name node) (λ id. Staged id node) (staged-so name node) (λ id has. gone (Staged id node) (Staging name node id has))
  no-holds (things.Published name node target) gone =
      gone-holds-not name (things.Published name node target) (λ id. Published id node target) (published-so name node target) (λ id has. gone (Published id node target) (Publication name node target id has))

-- what is known of each thing is right
pub recorded : (world : World) (given : List GivenId) → IsWell world given → IsOrdered world → (thing : Thing) → IsRecordedRight world thing
recorded world given well ordered thing =
    let are = well.so_far.are_given in
    record {
      yes = λ h. let there = is_there world given thing well h in yes-holds world given are well.of_controller ordered thing there.plugin_thing there.one there.held;
      no = λ h. no-holds world given are well.of_controller ordered thing (λ plugin_thing one. not-there world.history world.frames (told_by given world) given well.so_far thing plugin_thing one h);
    }
