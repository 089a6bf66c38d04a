-- The rows of an orchestrator that is made of what its plugins keep are told by calls that tell what the plugins have.
use Rattle.csi_world.proofs.Words.{arith}
use Rattle.std.proofs.Common.{◌≡◌, ℕ, List, [], ◌∷◌, map, filter, find, true, false, Option, Some, None, option_map, refl, sym, ◌∙◌, ap, subst, inl, inr, ⊎_elim, ◌==◌}
use Rattle.std.specs.List.{AllByRecursion}
use Rattle.std.proofs.lemmas.Bool.{and_parts, and_from, eqb-true, eq-eqb, false≢true}
use Rattle.csi_types.specs.Model.Members.{IsAmong, EachTwo}
use Rattle.csi_types.proofs.Members.{all_of, each_of, among-find, among-kept, among-map, in_filter}
use Rattle.csi_types.proofs.Searches.{find-one, find-passes}
use Rattle.csi_types.specs.declared.call.Call.TheVariants as calls
use Rattle.csi_types.specs.declared.call.Party.{Party}
use Rattle.csi_types.specs.declared.call.Party.TheVariants.{Controller}
use Rattle.csi_types.specs.declared.call.Call.{Call}
use Rattle.csi_types.specs.declared.capability.Capability.{Capability}
use Rattle.csi_types.specs.declared.holding.Holding.{Holding}
use Rattle.csi_types.specs.declared.number.Number.{Number}
use Rattle.csi_types.specs.Model.Same.{same_text}
use Rattle.csi_types.proofs.Equality.{same_text-tells}
use Rattle.csi_controller.specs.Model.Safe.{AreExclusive}
use Rattle.csi_controller.specs.Model.State.{Volume, ControllerState, holdings_of, is_held_at, holding_at}
use Rattle.csi_controller.specs.Public.View.{live_named}
use Rattle.csi_controller.proofs.OrderlyStates.{IsOrderly}
use Rattle.csi_node.specs.Model.State.{NodeState, PublishedVolume, staged_of, published_of, is_published_at}
use Rattle.csi_orchestrator.specs.declared.row.TargetEntry.{TargetEntry}
use Rattle.csi_orchestrator.specs.declared.thing.Known.{Known}
use Rattle.csi_orchestrator.specs.declared.thing.Known.TheVariants.{Yes, No, Maybe}
use Rattle.csi_orchestrator.specs.Model.History.{History}
use Rattle.csi_orchestrator.specs.Model.Shown.{NodeEntryShown, RowShown, mark_in}
use Rattle.csi_orchestrator.specs.Public.Restored.{IsRestorable, AreRestorable}
use Rattle.csi_orchestrator.specs.Public.Shown.{AreTargetsApart}
use Rattle.csi_orchestrator.proofs.FittedRows.{FitsTarget, FitsEntry, FitsGoal, FitsRow, all-fitted}
use Rattle.csi_orchestrator.proofs.AllTold.{AreTold}
use Rattle.csi_orchestrator.proofs.RowsOfRecord.{each-unmapped}
use Rattle.csi_recovery.specs.Public.Recovered.{GivenNode, given_state, target_of, entry_by, entry_at, entry_of, is_maybe, undoing, tries_for, recovered_row, recovered_rows}
use Rattle.csi_world.proofs.GivenIds.{live-named}
use Rattle.csi_recovery.proofs.CallsTold.{IsVolume, FitsSo, IsTrail, first-trail, trail-grows}

-- of a list, what isn't set apart by what sets each two apart is one
pub two-same : {X : Type 0} (R : X → X → Type 0) (xs : List X) (x y : X) → EachTwo R xs → IsAmong x xs → IsAmong y xs → (R x y → ⊥) → (R y x → ⊥) → x ≡ y
two-same R [] x y two at bt f g = absurd at
two-same R (z ∷ zs) x y two (inl e) (inl d) f g = e ∙ sym d
two-same R (z ∷ zs) x y two (inl e) (inr bt) f g = absurd (f (subst (λ w. R w y) (sym e) (each_of (R z) zs y two.0 bt)))
two-same R (z ∷ zs) x y two (inr at) (inl d) f g = absurd (g (subst (λ w. R w x) (sym d) (each_of (R z) zs x two.0 at)))
two-same R (z ∷ zs) x y two (inr at) (inr bt) f g = two-same R zs x y two.1 at bt f g

-- what sets each two apart as they are shown does so as they are
two-unmapped : {X Y : Type 0} (R : Y → Y → Type 0) (f : X → Y) (xs : List X) → EachTwo R (map f xs) → EachTwo (λ a b. R (f a) (f b)) xs
two-unmapped R f [] two = tt
two-unmapped R f (x ∷ xs) two = (each-unmapped f (R (f x)) xs two.0, two-unmapped R f xs two.1)

-- a text is the same as itself
pub text-self : (text : List ℕ) → same_text text text ≡ true
text-self text = (same_text-tells text text).1 refl

-- what may be so isn't known to be so or not
maybe-then : (known : Known) → is_maybe known ≡ true → known ≡ Maybe
maybe-then Maybe e = refl
maybe-then known e = absurd (false≢true e)

-- nor known not to be so
maybe-no : (known : Known) → known ≡ Maybe → known ≡ No → ⊥
maybe-no known e f = cc

-- an entry is of the node of its holding, with its capability and flag, and the volume is attached there
pub record IsEntryOf (holding : Holding) (entry : NodeEntryShown) : Type 0 where
  pub node : entry.node ≡ holding.node
  pub capability : entry.capability ≡ holding.capability
  pub readonly : entry.readonly ≡ holding.readonly
  pub attached : entry.attached ≡ Yes

-- by how it is staged and published
entry-by : (holding : Holding) (staged : Option Capability) (published : List PublishedVolume) → IsEntryOf holding (entry_by holding staged published)
entry-by holding staged published = grind arith

-- by what the node knows
entry-at : (holding : Holding) (o : Option NodeState) → IsEntryOf holding (entry_at holding o)
entry-at holding None = entry-by holding None []
entry-at holding (Some state) = entry-by holding (staged_of holding.volume state) (published_of holding.volume state)

module _ (controller : ControllerState) (gs : List GivenNode) (orderly : IsOrderly controller) (exclusive : EachTwo AreExclusive controller.holdings) where
  -- the live volumes
  abbrev pub live : List Volume
  live = filter (λ (v : Volume). v.is_live) controller.volumes

  -- a live volume is found by its name
  pub found-live : (v : Volume) → IsAmong v live → live_named v.name controller ≡ Some v
  found-live v there =
      let kept = among-kept (λ (u : Volume). u.is_live) controller.volumes v there in live-named controller v (orderly v kept.0).by_name kept.1

  -- a holding is found by its volume and node
  pub found-holding : (h : Holding) → IsAmong h controller.holdings → holding_at h.volume h.node controller ≡ Some h
  found-holding h among =
      find-one (is_held_at h.volume h.node) controller.holdings h among (and_from (h.volume == h.volume) (same_text h.node h.node) (eq-eqb h.volume h.volume refl) (text-self h.node))
      (λ g there passes. same g there (and_parts (g.volume == h.volume) (same_text g.node h.node) passes))
    where
      same : (g : Holding) → IsAmong g controller.holdings → ((g.volume == h.volume) ≡ true) × (same_text g.node h.node ≡ true) → g ≡ h
      same g there parts =
          let volume = eqb-true g.volume h.volume parts.0 in
          let node = (same_text-tells g.node h.node).0 parts.1 in
          two-same AreExclusive controller.holdings g h exclusive there among (λ apart. (apart volume).nodes node) (λ apart. (apart (sym volume)).nodes (sym node))

  -- the entry of a holding
  pub entry-is : (h : Holding) → IsEntryOf h (entry_of gs h)
  entry-is h = entry-at h (given_state gs h.node)

  module _ (start : Number) where
    -- what is kept of the history, and which calls fit
    abbrev P : History → Type 0
    P = IsTrail controller gs start

    abbrev Fits : List ℕ → Party → Call → Option ℕ → Type 0
    Fits = FitsSo controller gs

    module _ (v : Volume) (there : IsAmong v live) where
      -- it is a live volume of its name and id
      is-volume : IsVolume controller gs v.name v.id
      is-volume = record { volume = v; there = there; same_name = refl; same_id = refl }

      -- the calls of an entry fit
      fits-entry : (h : Holding) → IsAmong h (holdings_of v.id controller) → AreTargetsApart (entry_of gs h) → FitsEntry P Fits v.name v.id (entry_of gs h)
      fits-entry h among apart = by (given_state gs h.node) refl apart
        where
          parts : IsAmong h controller.holdings × ((h.volume == v.id) ≡ true)
          parts = among-kept (λ (g : Holding). g.volume == v.id) controller.holdings h among

          of_volume : h.volume ≡ v.id
          of_volume = eqb-true h.volume v.id parts.1

          attaches : Fits v.name Controller (calls.ControllerPublishVolume v.id h.node h.capability h.readonly) None
          attaches = (
            (
              is-volume,
              ap (λ n. holding_at n h.node controller) (sym of_volume) ∙ found-holding h parts.0
                  ∙ ap (λ n. let g : Holding = record { volume = n; node = h.node; capability = h.capability; readonly = h.readonly } in Some g) of_volume,
            ),
            refl,
          )

          inner : (state : NodeState) → given_state gs h.node ≡ Some state → (s : Option Capability) (ps : List PublishedVolume) → staged_of h.volume state ≡ s → published_of h.volume state ≡ ps → AreTargetsApart (entry_by h s ps)
              → FitsEntry P Fits v.name v.id (entry_by h s ps)
          inner state is None ps s p apart = record { attached = refl; attaches = attaches; stages = inl refl; targets = tt }
          inner state is (Some capability) [] s p apart =
              record {
                attached = refl;
                attaches = attaches;
                stages = inr (capability, ((is-volume, (state, is, ap (λ n. staged_of n state) (sym of_volume) ∙ s)), refl));
                targets = (inl refl, tt);
              }
          inner state is (Some capability) (q ∷ qs) s p apart =
              record {
                attached = refl;
                attaches = attaches;
                stages = inr (capability, ((is-volume, (state, is, ap (λ n. staged_of n state) (sym of_volume) ∙ s)), refl));
                targets =
                    all_of (FitsTarget P Fits v.name v.id h.node) (map target_of (q ∷ qs))
                    (λ t there. let from = among-map target_of (q ∷ qs) t there in subst (FitsTarget P Fits v.name v.id h.node) (sym from.2) (fits-published from.0 from.1));
              }
            where
              fits-published : (x : PublishedVolume) → IsAmong x (q ∷ qs) → FitsTarget P Fits v.name v.id h.node (target_of x)
              fits-published x among =
                  let own = among-kept (λ (y : PublishedVolume). y.volume == h.volume) state.published x (subst (IsAmong x) (sym p) among) in
                  let volume : x.volume ≡ v.id = eqb-true x.volume h.volume own.1 ∙ of_volume in
                  inr (
                    refl,
                    (
                      x.capability,
                      (
                        x.readonly,
                        (
                          (
                            is-volume,
                            (
                              state,
                              is,
                              find-one (is_published_at v.id x.target) state.published x own.0 (and_from (x.volume == v.id) (same_text x.target x.target) (eq-eqb x.volume v.id volume) (text-self x.target)) (one x among)
                                  ∙ ap (λ n. let y : PublishedVolume = record { volume = n; target = x.target; capability = x.capability; readonly = x.readonly } in Some y) volume,
                            ),
                          ),
                          refl,
                        ),
                      ),
                    ),
                  )
                where
                  one : (x : PublishedVolume) → IsAmong x (q ∷ qs) → (y : PublishedVolume) → IsAmong y state.published → is_published_at v.id x.target y ≡ true → y ≡ x
                  one x among y here passes =
                      let both = and_parts (y.volume == v.id) (same_text y.target x.target) passes in
                      let own = in_filter (λ (z : PublishedVolume). z.volume == h.volume) state.published y here (eq-eqb y.volume h.volume (eqb-true y.volume v.id both.0 ∙ sym of_volume)) in
                      let target = (same_text-tells y.target x.target).0 both.1 in
                      two-same (λ (a b : PublishedVolume). same_text a.target b.target ≡ false) (q ∷ qs) y x (two-unmapped (λ (a b : TargetEntry). same_text a.target b.target ≡ false) target_of (q ∷ qs) apart)
                      (subst (IsAmong y) p own) among (λ f. false≢true (sym f ∙ both.1)) (λ f. false≢true (sym f ∙ ap (same_text x.target) target ∙ text-self x.target))

          by : (o : Option NodeState) → given_state gs h.node ≡ o → AreTargetsApart (entry_at h o) → FitsEntry P Fits v.name v.id (entry_at h o)
          by None is apart = record { attached = refl; attaches = attaches; stages = inl refl; targets = tt }
          by (Some state) is apart = inner state is (staged_of h.volume state) (published_of h.volume state) refl refl apart

      -- the calls of the row fit
      fits-row : (nodes : List (List ℕ)) → IsRestorable nodes (recovered_row controller gs v) → FitsRow P Fits (recovered_row controller gs v)
      fits-row nodes kept =
          record {
            made = refl;
            id = v.id;
            has_id = refl;
            creates = ((refl, (v.id, is-volume)), sym (ap (λ o. option_map (λ (u : Volume). u.id) o) (found-live v there)));
            entries = all_of (FitsEntry P Fits v.name v.id) entries fits;
            goal = goal (find (λ (e : NodeEntryShown). is_maybe e.staged) entries) refl;
          }
        where
          entries : List NodeEntryShown
          entries = map (entry_of gs) (holdings_of v.id controller)

          row : RowShown
          row = recovered_row controller gs v

          fits : (e : NodeEntryShown) → IsAmong e (map (entry_of gs) (holdings_of v.id controller)) → FitsEntry P Fits v.name v.id e
          fits e among =
              let from = among-map (entry_of gs) (holdings_of v.id controller) e among in
              subst (FitsEntry P Fits v.name v.id) (sym from.2)
              (fits-entry from.0 from.1 (subst AreTargetsApart from.2 (each_of AreTargetsApart (map (entry_of gs) (holdings_of v.id controller)) e kept.sound.targets among)))

          goal : (o : Option NodeEntryShown) → find (λ (e : NodeEntryShown). is_maybe e.staged) (map (entry_of gs) (holdings_of v.id controller)) ≡ o
              → FitsGoal P Fits v.name v.id (recovered_row controller gs v) (undoing o) (tries_for (undoing o))
          goal None is = refl
          goal (Some e) is =
              let all : List NodeEntryShown = map (entry_of gs) (holdings_of v.id controller) in
              let among = among-find (λ (x : NodeEntryShown). is_maybe x.staged) all e is in
              let maybe = maybe-then e.staged (find-passes (λ (x : NodeEntryShown). is_maybe x.staged) all e is) in
              let found : find (λ (x : NodeEntryShown). same_text x.node e.node) all ≡ Some e
              = find-one (λ (x : NodeEntryShown). same_text x.node e.node) all e among (text-self e.node) (λ x here same.
              two-same (λ (a b : NodeEntryShown). same_text a.node b.node ≡ false) all x e kept.sound.nodes here among (λ f. false≢true (sym f ∙ same))
              (λ f. false≢true (sym f ∙ ap (same_text e.node) ((same_text-tells x.node e.node).0 same) ∙ text-self e.node))) in
              (refl, ap (mark_in (λ (x : NodeEntryShown). x.staged)) found ∙ maybe, ⊎_elim (λ gone. absurd (maybe-no e.staged maybe gone)) (λ stages. stages) (fits e among).stages)

    -- those of all rows do
    fits-rows : (nodes : List (List ℕ)) → AreRestorable nodes (recovered_rows controller gs) → AllByRecursion (FitsRow P Fits) (recovered_rows controller gs)
    fits-rows nodes kept =
        all_of (FitsRow P Fits) (recovered_rows controller gs)
        (λ row among.
        let from = among-map (recovered_row controller gs) live row among in
        subst (FitsRow P Fits) (sym from.2) (fits-row from.0 from.1 nodes (subst (IsRestorable nodes) from.2 (each_of (IsRestorable nodes) (recovered_rows controller gs) row kept.each among))))

    -- so a history of such calls tells the rows
    pub told-rows : (nodes : List (List ℕ)) → AreRestorable nodes (recovered_rows controller gs) → AreTold P nodes start (recovered_rows controller gs)
    told-rows nodes kept = all-fitted P Fits (trail-grows controller gs start) nodes start (recovered_rows controller gs) (first-trail controller gs start nodes) kept.names kept.each (fits-rows nodes kept)
