-- A controller that is made of what its orchestrator keeps: its volumes and holdings are those of the record's rows, and all is so of its state that is
-- kept of every controller's.
use Rattle.std.proofs.Common.{◌≡◌, ℕ, ◌<◌, List, [], ◌∷◌, filter_map, find, Bool, true, false, cond, Option, Some, None, option_map, is_some, ◌==◌, ◌&&◌, refl, sym, ◌∙◌, ap, subst, inl, inr, arith}
use Rattle.std.specs.List.{cons_option}
use Rattle.std.specs.Prelude.{option_and_then}
use Rattle.std.proofs.lemmas.Bool.{and_from, or_left, or_parts, or_right, eq-eqb, false≢true}
use Rattle.std.proofs.lemmas.Option.{none-some, same_Some}
use Rattle.csi_types.specs.Model.Members.{IsAmong, EachTwo}
use Rattle.csi_types.proofs.Members.{all_of, each_of, among-back, among-filter_map, among-find, among-flat, among-moved, in-filter_map, in-flat, some-found}
use Rattle.csi_types.proofs.Options.{some-from_map}
use Rattle.csi_types.proofs.Pairs.{two-flat}
use Rattle.csi_types.proofs.Searches.{find-of_map, find-one, find-passes}
use Rattle.csi_types.specs.declared.holding.Holding.{Holding}
use Rattle.csi_types.specs.Model.Same.{same_text}
use Rattle.csi_types.proofs.Equality.{same_text-tells}
use Rattle.csi_controller.specs.Model.Safe.{AreExclusive}
use Rattle.csi_controller.specs.Model.State.{Volume, ControllerState, live_volume}
use Rattle.csi_controller.proofs.OrderlyStates.{IsOrderly}
use Rattle.csi_controller.proofs.RememberedStates.{AreRecent}
use Rattle.csi_controller.proofs.Sound.{found-rising}
use Rattle.csi_orchestrator.specs.declared.thing.Known.{Known}
use Rattle.csi_orchestrator.specs.declared.thing.Known.TheVariants.{Yes, No, Maybe}
use Rattle.csi_orchestrator.specs.declared.thing.Thing.{Thing}
use Rattle.csi_orchestrator.specs.declared.thing.Thing.TheVariants as things
use Rattle.csi_orchestrator.specs.Model.Thing.{is_no, name_in}
use Rattle.csi_orchestrator.specs.Model.History.{History}
use Rattle.csi_orchestrator.specs.Model.Readings.{id_of, held, known}
use Rattle.csi_orchestrator.specs.Model.Shown.{NodeEntryShown, RowShown, OrchestratorParts, Shows, row_of, node_entry_of, mark_in, mark_of, held_on_node}
use Rattle.csi_orchestrator.specs.Public.Record.{RecordParts}
use Rattle.csi_orchestrator.specs.Public.Restored.{IsRestorable, AreRestorable}
use Rattle.csi_orchestrator.specs.Public.Shown.{closed}
use Rattle.csi_orchestrator.specs.Public.Steady.{CanBeBeside}
use Rattle.csi_world.specs.Model.World.{World}
use Rattle.csi_recovery.specs.Public.Rebuilt.{volume_with, volume_by, rebuilt_volume, rebuilt_volumes, rebuilt_holding, holdings_with}
use Rattle.csi_recovery.specs.Public.Laws.{MayReplace}
use Rattle.csi_world.proofs.GivenIds.{GivenId, HasNow}
use Rattle.csi_world.proofs.HeardReplies.{id-given}
use Rattle.csi_world.proofs.Forgotten.{told_by}
use Rattle.csi_world.proofs.KnownThings.{IsSoFar}
use Rattle.csi_world.proofs.PluginsReached.{IsRegular}
use Rattle.csi_world.proofs.Deliveries.{PluginLaws}
use Rattle.csi_world.proofs.RightWorlds.{IsRight}
use Rattle.csi_recovery.proofs.RecoveredRows.{two-same, text-self}

-- what a controller that takes a lost one's place starts from
pub record Rebuilding : Type 0 where
  pub laws : PluginLaws
  pub old : World
  pub right : IsRight old
  pub controller : ControllerState
  pub session : ℕ
  pub may : MayReplace controller session old

-- ---- lists

-- what sets each two of a list apart, by what does so of those among it
two-within : {X : Type 0} (R S : X → X → Type 0) (xs : List X) → ((x y : X) → IsAmong x xs → IsAmong y xs → R x y → S x y) → EachTwo R xs → EachTwo S xs
two-within R S [] then two = tt
two-within R S (x ∷ xs) then two = (
  all_of (S x) xs (λ y among. then x y (inl refl) (inr among) (each_of (R x) xs y two.0 among)),
  two-within R S xs (λ y z at bt. then y z (inr at) (inr bt)) two.1,
)

-- so do two relations together
two-and : {X : Type 0} (R S : X → X → Type 0) (xs : List X) → EachTwo R xs → EachTwo S xs → EachTwo (λ x y. R x y × S x y) xs
two-and R S [] two also = tt
two-and R S (x ∷ xs) two also = (all_of (λ y. R x y × S x y) xs (λ y among. (each_of (R x) xs y two.0 among, each_of (S x) xs y also.0 among)), two-and R S xs two.1 also.1)

-- and what is made of some of a list
two-filter_map : {X Y : Type 0} (R : X → X → Type 0) (S : Y → Y → Type 0) (f : X → Option Y) (xs : List X) → ((x y : X) (a b : Y) → R x y → f x ≡ Some a → f y ≡ Some b → S a b) → EachTwo R xs → EachTwo S (filter_map f xs)
two-filter_map R S f [] then two = tt
two-filter_map {X} {Y} R S f (x ∷ xs) then two = by (f x) refl (two-filter_map R S f xs then two.1)
  where
    by : (o : Option Y) → f x ≡ o → EachTwo S (filter_map f xs) → EachTwo S (cons_option o (filter_map f xs))
    by None e rest = rest
    by (Some a) e rest = (all_of (S a) (filter_map f xs) (λ b among. let from = among-filter_map f xs b among in then x from.0 a b (each_of (R x) xs from.0 two.0 from.1) e from.2), rest)

-- ---- one row

-- a volume is the one of a row
pub record IsVolumeOf (volume : Volume) (row : RowShown) : Type 0 where
  pub has_id : row.id ≡ Some volume.id
  pub maybe : is_no row.exists ≡ false
  pub is : volume ≡ volume_with volume.id row

-- so is what is made of the row
volume-of_row : (row : RowShown) (volume : Volume) → rebuilt_volume row ≡ Some volume → IsVolumeOf volume row
volume-of_row row volume = grind (arith, ℕ, Some, Bool, None, none-some, same_Some, Option)

-- the holding of an entry
abbrev pub holding_so : ℕ → NodeEntryShown → Holding
holding_so id entry = record { volume = id; node = entry.node; capability = entry.capability; readonly = entry.readonly }

-- a holding is the one of an entry of a row
pub record IsHoldingOf (holding : Holding) (row : RowShown) : Type 0 where
  pub entry : NodeEntryShown
  pub among : IsAmong entry row.node_entries
  pub has_id : row.id ≡ Some holding.volume
  pub maybe : is_no entry.attached ≡ false
  pub is : holding ≡ holding_so holding.volume entry

-- what is made of an entry
holding-of_entry : (id : ℕ) (entry : NodeEntryShown) (holding : Holding) → rebuilt_holding id entry ≡ Some holding → (is_no entry.attached ≡ false) × (holding_so id entry ≡ holding)
holding-of_entry id entry holding = grind (arith, Bool, None, Some, none-some, same_Some)

-- so is what is made of a row
holding-of_row : (row : RowShown) (holding : Holding) → IsAmong holding (holdings_with row.id row.node_entries) → IsHoldingOf holding row
holding-of_row row holding = grind (arith, Option, ℕ, None, Some, among-filter_map, holding-of_entry)

-- two entries that can be beside one another, of two nodes, are held apart
beside-exclusive : (id : ℕ) (a b : NodeEntryShown) → CanBeBeside a b × (same_text a.node b.node ≡ false) → AreExclusive (holding_so id a) (holding_so id b)
beside-exclusive id a b both same = grind (arith, or_parts, false≢true, same_text-tells, and_from, or_left, or_right)

module _ (r : Rebuilding) where
  -- the world before
  abbrev pub old : World
  old = r.old

  -- the controller that takes the lost one's place
  abbrev pub controller : ControllerState
  controller = r.controller

  -- the orchestrator's history
  abbrev pub history : History
  history = old.history

  -- the ids that were given
  abbrev pub given : List GivenId
  given = r.right.good.given

  -- what is told of the world before
  abbrev pub so_far : IsSoFar (r.old).history (r.old).frames (told_by r.right.good.given r.old) r.right.good.given
  so_far = r.right.good.well.so_far

  -- the rows of the orchestrator's record
  abbrev pub rows : List RowShown
  rows = r.may.kept.rows

  -- its parts
  abbrev pub parts : OrchestratorParts
  parts = r.may.of_orchestrator.parts

  -- which the history shows
  abbrev pub shows : Shows r.may.of_orchestrator.parts (r.old).history
  shows = r.may.of_orchestrator.shows

  -- the rules of the rows
  abbrev pub rules : AreRestorable r.may.kept.nodes r.may.kept.rows
  rules = r.may.of_orchestrator.rules

  -- ---- the rows

  -- the rows are its parts' without their open calls
  row-by : (name : List ℕ) → row_of rows name ≡ option_map closed (row_of parts.rows name)
  row-by name = ap (λ (k : RecordParts). row_of k.rows name) r.may.of_orchestrator.is ∙ find-of_map (λ (row : RowShown). same_text row.name name) closed parts.rows

  -- a row is the one of its name
  named-row : (row : RowShown) → IsAmong row rows → row_of rows row.name ≡ Some row
  named-row row among =
      find-one (λ (k : RowShown). same_text k.name row.name) rows row among (text-self row.name) (λ k there same.
      two-same (λ (a b : RowShown). same_text a.name b.name ≡ false) rows k row rules.names there among (λ f. false≢true (sym f ∙ same))
      (λ f. false≢true (sym f ∙ ap (same_text row.name) ((same_text-tells k.name row.name).0 same) ∙ text-self row.name)))

  -- so two of one name are one
  pub same-row : (a b : RowShown) → IsAmong a rows → IsAmong b rows → a.name ≡ b.name → a ≡ b
  same-row a b at bt e = same_Some a b (sym (named-row a at) ∙ ap (row_of rows) e ∙ named-row b bt)

  -- a row of the parts of which a row is
  record IsTold (row : RowShown) : Type 0 where
    part : RowShown
    found : row_of parts.rows row.name ≡ Some part
    is : closed part ≡ row

  told : (row : RowShown) → IsAmong row rows → IsTold row
  told row among = let from = some-from_map closed (row_of parts.rows row.name) row (sym (row-by row.name) ∙ named-row row among) in record { part = from.0; found = from.1; is = from.2 }

  -- its id is the one that its name has
  pub row-id : (row : RowShown) → IsAmong row rows → id_of history row.name ≡ row.id
  row-id row among = let t = told row among in sym (shows.same_ids row.name) ∙ ap (option_and_then (λ (k : RowShown). k.id)) t.found ∙ ap (λ (k : RowShown). k.id) t.is

  -- its marks are what is known
  pub row-exists : (row : RowShown) → IsAmong row rows → known history (things.Exists row.name) ≡ row.exists
  row-exists row among =
      let t = told row among in sym (shows.same_marks (things.Exists row.name)) ∙ ap (mark_in (mark_of (things.Exists row.name))) t.found ∙ ap (λ (k : RowShown). k.exists) t.is

  pub row-attached : (row : RowShown) (node : List ℕ) → IsAmong row rows → known history (things.Attached row.name node) ≡ mark_in (λ (e : NodeEntryShown). e.attached) (node_entry_of row node)
  row-attached row node among =
      let t = told row among in
      sym (shows.same_marks (things.Attached row.name node)) ∙ ap (mark_in (mark_of (things.Attached row.name node))) t.found
      ∙ ap (λ (k : RowShown). mark_in (λ (e : NodeEntryShown). e.attached) (node_entry_of k node)) t.is

  -- and its entries hold the volume so
  pub row-held : (row : RowShown) (node : List ℕ) → IsAmong row rows → (known history (things.Attached row.name node) ≡ No → ⊥) → held_on_node row node ≡ held history row.name node
  row-held row node among maybe =
      let t = told row among in
      sym (ap (λ (k : RowShown). held_on_node k node) t.is) ∙ sym (ap (option_and_then (λ (k : RowShown). held_on_node k node)) t.found) ∙ shows.same_holdings row.name node maybe

  -- what isn't known not to be so has its row
  pub row-there : (thing : Thing) → (known history thing ≡ No → ⊥) → (row : RowShown) × IsAmong row rows × (row.name ≡ name_in thing)
  row-there thing maybe = by (row_of parts.rows (name_in thing)) refl
    where
      by : (o : Option RowShown) → row_of parts.rows (name_in thing) ≡ o → (row : RowShown) × IsAmong row rows × (row.name ≡ name_in thing)
      by None e = absurd (maybe (sym (shows.same_marks thing) ∙ ap (mark_in (mark_of thing)) e))
      by (Some part) e =
          let found : row_of rows (name_in thing) ≡ Some (closed part) = row-by (name_in thing) ∙ ap (option_map closed) e in (
            closed part,
            among-find (λ (row : RowShown). same_text row.name (name_in thing)) rows (closed part) found,
            (same_text-tells part.name (name_in thing)).0 (find-passes (λ (row : RowShown). same_text row.name (name_in thing)) rows (closed part) found),
          )

  -- the rules of a row
  pub row-rules : (row : RowShown) → IsAmong row rows → IsRestorable r.may.kept.nodes row
  row-rules row among = each_of (IsRestorable r.may.kept.nodes) rows row rules.each among

  -- an entry is the one of its node
  pub named-entry : (row : RowShown) (entry : NodeEntryShown) → IsAmong row rows → IsAmong entry row.node_entries → node_entry_of row entry.node ≡ Some entry
  named-entry row entry there among =
      find-one (λ (e : NodeEntryShown). same_text e.node entry.node) row.node_entries entry among (text-self entry.node) (λ e here same.
      two-same (λ (a b : NodeEntryShown). same_text a.node b.node ≡ false) row.node_entries e entry (row-rules row there).sound.nodes here among (λ f. false≢true (sym f ∙ same))
      (λ f. false≢true (sym f ∙ ap (same_text entry.node) ((same_text-tells e.node entry.node).0 same) ∙ text-self entry.node)))

  -- ---- ids

  -- an id of a row is its name's
  pub row-now : (row : RowShown) (id : ℕ) → IsAmong row rows → row.id ≡ Some id → HasNow given row.name id
  row-now row id among has = id-given history old.frames given row.name id so_far.heard so_far.truth.numbers so_far.named (row-id row among ∙ has)

  -- so two rows of one id are one
  pub same-row_id : (a b : RowShown) (id : ℕ) → IsAmong a rows → IsAmong b rows → a.id ≡ Some id → b.id ≡ Some id → a ≡ b
  same-row_id a b id at bt has also = same-row a b at bt (so_far.are_given.one_name a.name b.name id (inl (row-now a id at has)) (inl (row-now b id bt also)))

  -- ---- volumes

  -- a volume has its row
  pub volume-row : (volume : Volume) → IsAmong volume controller.volumes → (row : RowShown) × IsAmong row rows × IsVolumeOf volume row
  volume-row volume among =
      let from = among-filter_map rebuilt_volume rows volume (among-moved (rebuilt_volumes rows) controller.volumes volume r.may.made.volumes among) in
      (from.0, from.1, volume-of_row from.0 volume from.2)

  -- and a row its volume
  pub row-volume : (row : RowShown) (id : ℕ) → IsAmong row rows → row.id ≡ Some id → is_no row.exists ≡ false → IsAmong (volume_with id row) controller.volumes
  row-volume row id among has maybe =
      among-back (rebuilt_volumes rows) controller.volumes (volume_with id row) r.may.made.volumes
      (in-filter_map rebuilt_volume rows row (volume_with id row) among (ap (λ o. volume_by o row) has ∙ ap (λ b. cond b None (Some (volume_with id row))) maybe))

  -- each is found by its id
  by-id : (volume : Volume) → IsAmong volume controller.volumes → find (λ (v : Volume). v.id == volume.id) controller.volumes ≡ Some volume
  by-id volume among = found-rising (λ (v : Volume). v.id) controller.volumes volume r.may.made.rising among

  -- two of one name are one
  same-volume : (a b : Volume) → IsAmong a controller.volumes → IsAmong b controller.volumes → a.name ≡ b.name → a ≡ b
  same-volume a b at bt e =
      let first = volume-row a at in
      let second = volume-row b bt in
      let one : first.0 ≡ second.0 = same-row first.0 second.0 first.1 second.1 (sym (ap (λ (v : Volume). v.name) first.2.is) ∙ e ∙ ap (λ (v : Volume). v.name) second.2.is) in
      let same : a.id ≡ b.id = same_Some a.id b.id (sym first.2.has_id ∙ ap (λ (k : RowShown). k.id) one ∙ second.2.has_id) in
      same_Some a b (sym (by-id a at) ∙ ap (λ n. find (λ (v : Volume). v.id == n) controller.volumes) same ∙ by-id b bt)

  -- each has its name and its id alone
  pub orderly : IsOrderly controller
  orderly volume among =
      record {
        by_name = find-one (λ (v : Volume). same_text v.name volume.name) controller.volumes volume among (text-self volume.name) (λ v there same. same-volume v volume there among ((same_text-tells v.name volume.name).0 same));
        by_id = by-id volume among;
        given =
            let of = volume-row volume among in
            below volume.id (r.right.good.well.of_controller.below (of.0).name volume.id (inl (row-now of.0 volume.id of.1 of.2.has_id)));
      }
    where
      below : (id : ℕ) → id < (r.old).controller.next_id → id < r.controller.next_id
      below id less = let word = r.may.word in omega (arith, less, word)

  -- each is live, and nothing is kept of it of any session
  recent : AreRecent controller
  recent volume among =
      let of = volume-row volume among in
      let none : volume.kept.number.session ≡ 0 = ap (λ (v : Volume). v.kept.number.session) of.2.is in
      record { each = inl (ap (λ (v : Volume). v.is_live) of.2.is); before = omega (arith, none) }

  -- ---- holdings

  -- a holding has its row
  pub holding-row : (holding : Holding) → IsAmong holding controller.holdings → (row : RowShown) × IsAmong row rows × IsHoldingOf holding row
  holding-row holding among =
      let from = among-flat (λ (row : RowShown). holdings_with row.id row.node_entries) rows holding (subst (IsAmong holding) r.may.made.holdings among) in
      (from.0, from.1, holding-of_row from.0 holding from.2)

  -- and an entry its holding
  pub row-holding : (row : RowShown) (entry : NodeEntryShown) (id : ℕ) → IsAmong row rows → IsAmong entry row.node_entries → row.id ≡ Some id → is_no entry.attached ≡ false → IsAmong (holding_so id entry) controller.holdings
  row-holding row entry id there among has maybe =
      subst (IsAmong (holding_so id entry)) (sym r.may.made.holdings)
      (in-flat (λ (k : RowShown). holdings_with k.id k.node_entries) rows row (holding_so id entry) there
      (subst (λ o. IsAmong (holding_so id entry) (holdings_with o row.node_entries)) (sym has)
      (in-filter_map (rebuilt_holding id) row.node_entries entry (holding_so id entry) among (ap (λ b. cond b None (Some (holding_so id entry))) maybe))))

  -- those of one row are apart
  own : (row : RowShown) → IsAmong row rows → EachTwo AreExclusive (holdings_with row.id row.node_entries)
  own row among = by row.id
    where
      by : (o : Option ℕ) → EachTwo AreExclusive (holdings_with o row.node_entries)
      by None = tt
      by (Some id) =
          two-filter_map (λ (a b : NodeEntryShown). CanBeBeside a b × (same_text a.node b.node ≡ false)) AreExclusive (rebuilt_holding id) row.node_entries
          (λ a b g h apart first second.
          subst (λ (x : Holding). AreExclusive x h) (holding-of_entry id a g first).1
          (subst (λ (x : Holding). AreExclusive (holding_so id a) x) (holding-of_entry id b h second).1 (beside-exclusive id a b apart)))
          (two-and CanBeBeside (λ (a b : NodeEntryShown). same_text a.node b.node ≡ false) row.node_entries (row-rules row among).steady.beside (row-rules row among).sound.nodes)

  -- any two of one volume are apart
  all-apart : EachTwo AreExclusive controller.holdings
  all-apart =
      subst (EachTwo AreExclusive) (sym r.may.made.holdings)
      (two-flat AreExclusive (λ (row : RowShown). holdings_with row.id row.node_entries) rows
      (all_of (λ (row : RowShown). EachTwo AreExclusive (holdings_with row.id row.node_entries)) rows own)
      (two-within (λ (a b : RowShown). same_text a.name b.name ≡ false)
      (λ (a b : RowShown). (x y : Holding) → IsAmong x (holdings_with a.id a.node_entries) → IsAmong y (holdings_with b.id b.node_entries) → AreExclusive x y) rows
      (λ a b at bt apart x y first second same.
      let one : a ≡ b = same-row_id a b y.volume at bt ((holding-of_row a x first).has_id ∙ ap Some same) (holding-of_row b y second).has_id in
      absurd (false≢true (sym apart ∙ (same_text-tells a.name b.name).1 (ap (λ (k : RowShown). k.name) one)))) rules.names))

  -- an entry is of a volume that is there
  entry-made : (row : RowShown) (entry : NodeEntryShown) → IsAmong row rows → IsAmong entry row.node_entries → is_no row.exists ≡ false
  entry-made row entry there among = by row.exists refl
    where
      clash : No ≡ Yes → ⊥
      clash e = cc

      by : (k : Known) → row.exists ≡ k → is_no k ≡ false
      by Yes e = refl
      by Maybe e = refl
      by No e = absurd (subst (IsAmong entry) ((row-rules row there).steady.empty (λ yes. clash (sym e ∙ yes))) among)

  -- what is attached is live
  live : (holding : Holding) → IsAmong holding controller.holdings → is_some (live_volume holding.volume controller) ≡ true
  live holding among =
      let of = holding-row holding among in
      let maybe = entry-made of.0 of.2.entry of.1 of.2.among in
      ap is_some (some-found (λ (v : Volume). (v.id == holding.volume) && v.is_live) controller.volumes (volume_with holding.volume of.0) (row-volume of.0 holding.volume of.1 of.2.has_id maybe)
      (and_from (holding.volume == holding.volume) true (eq-eqb holding.volume holding.volume refl) refl)).1

  -- all is so of the state that is kept of every controller's
  pub regular : IsRegular controller
  regular = record { orderly = orderly; exclusive = record { exclusive = all-apart; attached_while_live = live }; recent = recent }
