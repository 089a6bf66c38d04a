-- What is listed of the plugins is what holds in the world of which it is the list.
use Rattle.csi_world.proofs.Words.{◌≡◌, ◌⊎◌, ℕ, List, [], ◌∷◌, map, Bool, true, false, cond, Option, Some, None}
use Rattle.csi_world.proofs.Words.{option_map, find, filter, is_some, ◌==◌, ◌&&◌, refl, sym, ◌∙◌, ap, subst, inl, inr}
use Rattle.csi_world.proofs.Words.{⊎_elim, list_any, flat_map, Holding, IsAmong, same_text, ControllerRow, NodeHolding}
use Rattle.csi_world.proofs.Words.{AtMostOne, volume_of_row, holdings_in_row, holdings_in, Volume, volume_named}
use Rattle.csi_world.proofs.Words.{is_held_at, StagedVolume, PublishedVolume, NodeState, is_published_at, staged_shown}
use Rattle.csi_world.proofs.Words.{published_shown, Thing, NodeLists, NodeAt, World, node_state, is_true_in, is_attached_there}
use Rattle.csi_world.proofs.Words.{is_staged_there, is_published_there, AreRowsApart, Lists, node_listed, IsNodeAlike}
use Rattle.csi_world.proofs.Words.{IsListed, controller_row_with_id, exists_thing, attached_thing, things_of}
use Rattle.csi_world.proofs.Words.{staged_things, staged_thing, published_things, published_thing, things_at}
use Rattle.csi_world.proofs.Words.{things_listed, arith}
use Rattle.csi_world.proofs.Lemmas.{and_parts, and_from, eqb-true, eq-eqb, false≢true, none-some, among-append}
use Rattle.csi_world.proofs.Lemmas.{among-filter, among-find, in_filter, among-joined, among-one, among-flat, in-flat}
use Rattle.csi_world.proofs.Lemmas.{among-right, among-map, in-map, among-by_key, find-passes, find-of_map}
use Rattle.csi_world.proofs.Lemmas.{same_text-tells, any-then, then-any, any-of_map, any-find, is_some-map, rising-one}
use Rattle.csi_node.specs.declared.entries.Staged.{Staged as StagedEntry}
use Rattle.csi_node.specs.declared.entries.Published.{Published as PublishedEntry}
use Rattle.csi_orchestrator.specs.declared.thing.Thing.TheVariants.{Exists, Attached, Staged, Published}
use Rattle.csi_world.proofs.PartsSafe.{held_of}
use Rattle.csi_world.proofs.ListedNodes.{listed-of, node-of, node-found-by-id}

-- ---- rows, of which at most one has a name, and one an id

-- where at most one passes, it is what a search finds
only-found : {X : Type 0} (p : X → Bool) (xs : List X) (x : X) → AtMostOne p xs → IsAmong x xs → p x ≡ true → find p xs ≡ Some x
only-found p [] x one among passes = absurd among
only-found p (y ∷ ys) x one (inl e) passes = let own : p y ≡ true = ap p (sym e) ∙ passes in rw own (ap Some (sym e))
only-found p (y ∷ ys) x one (inr there) passes = grind (arith, none-some, (only-found p ys x one.1 there passes))

-- the lists of a world's plugins
module _ (lists : Lists) (world : World) (is : IsListed lists world) (kept : AreRowsApart lists.rows) where
  -- the controller's rows
  abbrev rows : List ControllerRow
  rows = lists.rows

  -- a row of this id is the one that is found by it
  row-by-id : (row : ControllerRow) → IsAmong row rows → (id : ℕ) → row.id ≡ id → controller_row_with_id id rows ≡ Some row
  row-by-id row among id same = only-found (λ (r : ControllerRow). r.id == id) rows row (rising-one rows kept.rising id) among (eq-eqb row.id id same)

  -- the volume of a name is that of the row of the name
  volume-by-name : (name : List ℕ) → volume_named name world.controller ≡ option_map volume_of_row (find (λ (r : ControllerRow). same_text r.name name) rows)
  volume-by-name name = ap (find (λ (v : Volume). same_text v.name name)) (sym is.volumes) ∙ find-of_map (λ (v : Volume). same_text v.name name) volume_of_row rows

  -- the volume of a listed row's name is the row's
  volume-of : (row : ControllerRow) → IsAmong row rows → volume_named row.name world.controller ≡ Some (volume_of_row row)
  volume-of row among =
      let found = only-found (λ (r : ControllerRow). same_text r.name row.name) rows row (kept.names row.name) among ((same_text-tells row.name row.name).1 refl) in
      volume-by-name row.name ∙ ap (option_map volume_of_row) found

  -- what is so only where a name has a volume is so of a row's name and volume
  of-row : (f : Option Volume → Bool) (P : List ℕ → Type 0) (name : List ℕ) → f None ≡ false
      → ((row : ControllerRow) → IsAmong row rows → f (Some (volume_of_row row)) ≡ true → P row.name) → f (volume_named name world.controller) ≡ true → P name
  of-row f P name none some h = by (find p rows) refl (ap f (sym (volume-by-name name)) ∙ h)
    where
      p : ControllerRow → Bool
      p row = same_text row.name name

      by : (o : Option ControllerRow) → find p rows ≡ o → f (option_map volume_of_row o) ≡ true → P name
      by None e h = absurd (false≢true (sym none ∙ h))
      by (Some row) e h = subst P ((same_text-tells row.name name).0 (find-passes p rows row e)) (some row (among-find p rows row e) h)

  -- what is so only where a node is there is so of a listed node's id, and of the node that is like it
  of-node : (f : Option NodeState → Bool) (P : List ℕ → Type 0) (id : List ℕ) → f None ≡ false
      → ((n : NodeLists) → IsAmong n lists.nodes → (m : NodeAt) → IsNodeAlike (node_listed n) m → f (Some m.state) ≡ true → P n.id) → f (node_state id world) ≡ true → P id
  of-node f P id none some h = by (find p world.nodes) refl h
    where
      p : NodeAt → Bool
      p node = same_text node.id id

      by : (o : Option NodeAt) → find p world.nodes ≡ o → f (option_map (λ (n : NodeAt). n.state) o) ≡ true → P id
      by None e h = absurd (false≢true (sym none ∙ h))
      by (Some m) e h =
          let found = listed-of lists.nodes world.nodes is.nodes m (among-find p world.nodes m e) in
          subst P ((found.2).id ∙ (same_text-tells m.id id).0 (find-passes p world.nodes m e)) (some found.0 found.1 m found.2 h)

  -- the holdings of a listed row are those of its volume in the world
  holdings-of-row : (row : ControllerRow) → IsAmong row rows → holdings_in_row row ≡ filter (λ (h : Holding). h.volume == row.id) world.controller.holdings
  holdings-of-row row among = ap holdings_in (sym (row-by-id row among row.id refl)) ∙ is.holdings row.id

  -- ---- each that is listed holds

  -- a volume exists where a row of its name is live
  exists-told : (name : List ℕ) → is_true_in world (Exists name) ≡ list_any (λ (r : ControllerRow). same_text r.name name && r.live) rows
  exists-told name =
      let p : Volume → Bool = λ volume. same_text volume.name name && volume.is_live in
      ap (λ (vs : List Volume). is_some (find p vs)) (sym is.volumes) ∙ sym (any-find p (map volume_of_row rows)) ∙ any-of_map p volume_of_row rows

  -- the volume of a row is attached where the row is held
  attached-holds : (row : ControllerRow) → IsAmong row rows → (held : NodeHolding) → IsAmong held row.holdings.items → is_true_in world (Attached row.name held.node) ≡ true
  attached-holds row among held here =
      let own : IsAmong (held_of row held) (holdings_in_row row) = in-map (held_of row) row.holdings.items held here in
      let of_volume = subst (IsAmong (held_of row held)) (holdings-of-row row among) own in
      ap (is_attached_there world.controller held.node) (volume-of row among) ∙ sym (any-find (is_held_at row.id held.node) world.controller.holdings)
      ∙ then-any (is_held_at row.id held.node) world.controller.holdings (held_of row held) (among-filter (λ (h : Holding). h.volume == row.id) world.controller.holdings (held_of row held) of_volume)
      (and_from _ _ (eq-eqb row.id row.id refl) ((same_text-tells held.node held.node).1 refl))

  -- each listed node is one of the world
  node-of-list : (n : NodeLists) → IsAmong n lists.nodes → (m : NodeAt) × IsNodeAlike (node_listed n) m × (node_state n.id world ≡ Some m.state)
  node-of-list n at =
      let found = node-of lists.nodes world.nodes is.nodes n at in
      let by_id = ap (λ (id : List ℕ). find (λ (k : NodeAt). same_text k.id id) world.nodes) (found.2).id ∙ node-found-by-id world.nodes found.0 is.apart found.1 in
      (found.0, found.2, ap (option_map (λ (k : NodeAt). k.state)) by_id)

  -- the row that is found by an id is among the rows, and has the id
  id-of-row : (id : ℕ) (row : ControllerRow) → controller_row_with_id id rows ≡ Some row → IsAmong row rows × (id ≡ row.id)
  id-of-row id row e = (among-find (λ (r : ControllerRow). r.id == id) rows row e, sym (eqb-true row.id id (find-passes (λ (r : ControllerRow). r.id == id) rows row e)))

  -- what is listed as staged is staged, where a row has its id
  staged-holds : (n : NodeLists) → IsAmong n lists.nodes → (s : StagedEntry) → IsAmong s n.staged.items → (row : ControllerRow) → controller_row_with_id s.id rows ≡ Some row
      → is_true_in world (Staged row.name n.id) ≡ true
  staged-holds n at s here row e =
      let own = id-of-row s.id row e in
      let node = node-of-list n at in
      let list : List StagedVolume = (node.0).state.staged in
      let p : StagedVolume → Bool = λ x. x.volume == row.id in
      let there = among-by_key (λ (x : StagedVolume). x.volume) (map staged_shown n.staged.items) list (node.1).staged (staged_shown s) (in-map staged_shown n.staged.items s here) in
      let volume = volume-of row own.0 in
      let place = node.2 in
      (λ i. is_staged_there (volume i) (place i)) ∙ is_some-map (λ (x : StagedVolume). x.capability) (find p list) ∙ sym (any-find p list)
      ∙ then-any p list (staged_shown s) there (eq-eqb s.id row.id own.1)

  -- and what is listed as published is published
  published-holds : (n : NodeLists) → IsAmong n lists.nodes → (s : PublishedEntry) → IsAmong s n.published.items → (row : ControllerRow) → controller_row_with_id s.id rows ≡ Some row
      → is_true_in world (Published row.name n.id s.target) ≡ true
  published-holds n at s here row e =
      let own = id-of-row s.id row e in
      let node = node-of-list n at in
      let list : List PublishedVolume = (node.0).state.published in
      let p : PublishedVolume → Bool = is_published_at row.id s.target in
      let shown = in-map published_shown n.published.items s here in
      let there = among-by_key (λ (x : PublishedVolume). x.volume) (map published_shown n.published.items) list (node.1).published (published_shown s) shown in
      let volume = volume-of row own.0 in
      let place = node.2 in
      (λ i. is_published_there s.target (volume i) (place i)) ∙ sym (any-find p list)
      ∙ then-any p list (published_shown s) there (and_from _ _ (eq-eqb s.id row.id own.1) ((same_text-tells s.target s.target).1 refl))

  -- each thing that is listed holds
  pub listed-then-holds : (thing : Thing) → IsAmong thing (things_listed rows lists.nodes) → is_true_in world thing ≡ true
  listed-then-holds thing among =
      ⊎_elim (λ here. let found = among-flat things_of rows thing here in of_row found.0 found.1 (among-joined (exists_thing found.0) _ thing found.2))
      (λ here. let found = among-flat (things_at rows) lists.nodes thing here in
      of_list found.0 found.1 (among-joined (flat_map (staged_thing rows (found.0).id) (found.0).staged.items) _ thing found.2))
      (among-joined (flat_map things_of rows) _ thing among)
    where
      Holds : Thing → Type 0
      Holds t = is_true_in world t ≡ true

      live : (row : ControllerRow) → IsAmong row rows → (b : Bool) → row.live ≡ b → IsAmong thing (cond b (Exists row.name ∷ []) []) → Holds thing
      live row own true e here =
          among-one Holds thing (Exists row.name) here
          (exists-told row.name ∙ then-any (λ (r : ControllerRow). same_text r.name row.name && r.live) rows row own (and_from _ _ ((same_text-tells row.name row.name).1 refl) e))
      live row own false e here = absurd here

      of_row : (row : ControllerRow) → IsAmong row rows → IsAmong thing (exists_thing row) ⊎ IsAmong thing (map (attached_thing row.name) row.holdings.items) → Holds thing
      of_row row own (inl here) = live row own row.live refl here
      of_row row own (inr here) =
          let found = among-map (attached_thing row.name) row.holdings.items thing here in
          subst Holds (sym found.2) (attached-holds row own found.0 found.1)

      staged_at : (n : NodeLists) → IsAmong n lists.nodes → (s : StagedEntry) → IsAmong s n.staged.items → (o : Option ControllerRow) → controller_row_with_id s.id rows ≡ o → IsAmong thing (staged_things n.id o) → Holds thing
      staged_at n at s own None e here = absurd here
      staged_at n at s own (Some row) e here = among-one Holds thing _ here (staged-holds n at s own row e)

      published_at : (n : NodeLists) → IsAmong n lists.nodes → (s : PublishedEntry) → IsAmong s n.published.items → (o : Option ControllerRow) → controller_row_with_id s.id rows ≡ o
          → IsAmong thing (published_things n.id s.target o)
          → Holds thing
      published_at n at s own None e here = absurd here
      published_at n at s own (Some row) e here = among-one Holds thing _ here (published-holds n at s own row e)

      of_list : (n : NodeLists) → IsAmong n lists.nodes
          → IsAmong thing (flat_map (staged_thing rows n.id) n.staged.items) ⊎ IsAmong thing (flat_map (published_thing rows n.id) n.published.items) → Holds thing
      of_list n at (inl here) = let found = among-flat (staged_thing rows n.id) n.staged.items thing here in staged_at n at found.0 found.1 (controller_row_with_id (found.0).id rows) refl found.2
      of_list n at (inr here) = let found = among-flat (published_thing rows n.id) n.published.items thing here in published_at n at found.0 found.1 (controller_row_with_id (found.0).id rows) refl found.2

  -- ---- what holds is listed

  -- the things that are listed
  abbrev things : List Thing
  things = things_listed rows lists.nodes

  -- what holds of a row's volume at the controller is listed
  at-controller : (row : ControllerRow) (thing : Thing) → IsAmong row rows → IsAmong thing (things_of row) → IsAmong thing things
  at-controller row thing among here = among-append (flat_map things_of rows) (flat_map (things_at rows) lists.nodes) thing (in-flat things_of rows row thing among here)

  -- and what holds at a listed node
  at-node : (n : NodeLists) (thing : Thing) → IsAmong n lists.nodes → IsAmong thing (things_at rows n) → IsAmong thing things
  at-node n thing at here = among-right (flat_map things_of rows) (flat_map (things_at rows) lists.nodes) thing (in-flat (things_at rows) lists.nodes n thing at here)

  -- each thing that holds is listed
  pub holds-then-listed : (thing : Thing) → is_true_in world thing ≡ true → IsAmong thing things
  holds-then-listed (Exists name) h =
      let found = any-then (λ (r : ControllerRow). same_text r.name name && r.live) rows (sym (exists-told name) ∙ h) in
      let row : ControllerRow = found.0 in
      let parts = and_parts (same_text row.name name) row.live found.2 in
      let here : IsAmong (Exists row.name) (exists_thing row) = subst (λ b. IsAmong (Exists row.name) (cond b (Exists row.name ∷ []) [])) (sym parts.1) (inl refl) in
      subst (λ n. IsAmong (Exists n) things) ((same_text-tells row.name name).0 parts.0) (at-controller row (Exists row.name) found.1 (among-append (exists_thing row) _ _ here))
  holds-then-listed (Attached name node) h =
      of-row (is_attached_there world.controller node) (λ n. IsAmong (Attached n node) things) name refl (λ row own h.
      let held = any-then (is_held_at row.id node) world.controller.holdings (any-find (is_held_at row.id node) world.controller.holdings ∙ h) in
      let parts = and_parts ((held.0).volume == row.id) (same_text (held.0).node node) held.2 in
      let there = subst (IsAmong held.0) (sym (holdings-of-row row own)) (in_filter (λ (x : Holding). x.volume == row.id) world.controller.holdings held.0 held.1 parts.0) in
      let entry = among-map (held_of row) row.holdings.items held.0 there in
      let place : (entry.0).node ≡ node = ap (λ (x : Holding). x.node) (sym entry.2) ∙ (same_text-tells (held.0).node node).0 parts.1 in
      subst (λ n. IsAmong (Attached row.name n) things) place
      (at-controller row (Attached row.name (entry.0).node) own (among-right (exists_thing row) _ _ (in-map (attached_thing row.name) row.holdings.items entry.0 entry.1)))) h
  holds-then-listed (Staged name node) h =
      of-row (λ o. is_staged_there o (node_state node world)) (λ n. IsAmong (Staged n node) things) name refl (λ row own.
      of-node (is_staged_there (Some (volume_of_row row))) (λ id. IsAmong (Staged row.name id) things) node refl (λ n at m alike h.
      let p : StagedVolume → Bool = λ x. x.volume == row.id in
      let one = any-then p m.state.staged (any-find p m.state.staged ∙ sym (is_some-map (λ (x : StagedVolume). x.capability) (find p m.state.staged)) ∙ h) in
      let there = among-by_key (λ (x : StagedVolume). x.volume) m.state.staged (map staged_shown n.staged.items) (λ id. sym (alike.staged id)) one.0 one.1 in
      let entry = among-map staged_shown n.staged.items one.0 there in
      let has = row-by-id row own (entry.0).id (sym (ap (λ (x : StagedVolume). x.volume) (sym entry.2) ∙ eqb-true (one.0).volume row.id one.2)) in
      let here = subst (λ (o : Option ControllerRow). IsAmong (Staged row.name n.id) (staged_things n.id o)) (sym has) (inl refl) in
      at-node n (Staged row.name n.id) at
      (among-append (flat_map (staged_thing rows n.id) n.staged.items) _ _ (in-flat (staged_thing rows n.id) n.staged.items entry.0 (Staged row.name n.id) entry.1 here)))) h
  holds-then-listed (Published name node target) h =
      of-row (λ o. is_published_there target o (node_state node world)) (λ n. IsAmong (Published n node target) things) name refl (λ row own.
      of-node (is_published_there target (Some (volume_of_row row))) (λ id. IsAmong (Published row.name id target) things) node refl (λ n at m alike h.
      let one = any-then (is_published_at row.id target) m.state.published (any-find (is_published_at row.id target) m.state.published ∙ h) in
      let parts = and_parts ((one.0).volume == row.id) (same_text (one.0).target target) one.2 in
      let there = among-by_key (λ (x : PublishedVolume). x.volume) m.state.published (map published_shown n.published.items) (λ id. sym (alike.published id)) one.0 one.1 in
      let entry = among-map published_shown n.published.items one.0 there in
      let has = row-by-id row own (entry.0).id (sym (ap (λ (x : PublishedVolume). x.volume) (sym entry.2) ∙ eqb-true (one.0).volume row.id parts.0)) in
      let here = subst (λ (o : Option ControllerRow). IsAmong (Published row.name n.id (entry.0).target) (published_things n.id (entry.0).target o)) (sym has) (inl refl) in
      subst (λ t. IsAmong (Published row.name n.id t) things) (ap (λ (x : PublishedVolume). x.target) (sym entry.2) ∙ (same_text-tells (one.0).target target).0 parts.1)
      (at-node n (Published row.name n.id (entry.0).target) at
      (among-right (flat_map (staged_thing rows n.id) n.staged.items) _ _ (in-flat (published_thing rows n.id) n.published.items entry.0 _ entry.1 here))))) h
