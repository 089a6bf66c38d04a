-- A node has room for the row of a call that was just sent: its rows are of volumes that the orchestrator has rows of.
use Rattle.csi_world.proofs.Words.{◌≡◌, ◌⊎◌, ℕ, ◌+◌, ◌<◌, ◌≤◌, List, [], ◌∷◌, ◌++◌, length, map, find, Bool, true}
use Rattle.csi_world.proofs.Words.{false, cond, Option, Some, None, option_map, is_some, ◌&&◌, ◌==◌, refl, sym, ◌∙◌}
use Rattle.csi_world.proofs.Words.{ap, subst, inl, inr, ⊎_elim, length-append, arith, is_none, nat_le, nat_lt, IsSome}
use Rattle.csi_world.proofs.Words.{AllByRecursion, MAX_ROWS, Number, Call, Party, Controller, Node, PluginThing}
use Rattle.csi_world.proofs.Words.{Exists, same_text, IsAmong, EachTwo, begins, Volume, live_volume, NodeState}
use Rattle.csi_world.proofs.Words.{AnsweredVolume, StagedVolume, staged_of, row_with_id, row_of_volume, volume_of}
use Rattle.csi_world.proofs.Words.{Issued, Item, Sent, History, with_items, issued_in, last_in, last_number, names_of}
use Rattle.csi_world.proofs.Words.{has_row, AreWellFormed, World, node_state, Safe}
use Rattle.csi_world.proofs.Lemmas.{and_parts, eqb-true, eq-eqb, false≢true, nat_tests, length-map, same_Some}
use Rattle.csi_world.proofs.Lemmas.{same_text-tells, all_of, each_of, among-append, among-find, among-joined}
use Rattle.csi_world.proofs.Lemmas.{among-kept, among-map, among-right, none_passes, two-filter, two-map, two-more}
use Rattle.csi_world.proofs.Lemmas.{find-passes, any-then, AreCurrent, all_current}
use Rattle.csi_controller.specs.Public.View as controllers
use Rattle.csi_node.specs.Model.Fenced as nodes
use Rattle.csi_orchestrator.specs.declared.thing.Thing.TheVariants as things
use Rattle.csi_world.proofs.CallThings.{IsFor, IsOwnNow}
use Rattle.csi_world.proofs.Forgotten.{told_by}
use Rattle.csi_world.proofs.KnownThings.{IsSoFar}
use Rattle.csi_world.proofs.FreshCalls.{node_now, node-now-rows}
use Rattle.csi_world.proofs.GivenIds.{GivenId, HasNow, live-named, live-now}
use Rattle.csi_world.proofs.Lifetimes.{ends, calls_since, over_in, is_past, since-or-before}
use Rattle.csi_world.proofs.NodeRows.{HaveDistinctVolumes, distinct-rows, IsCalled, AreCalled}
use Rattle.csi_world.proofs.PluginsReached.{found-at, node-of-frames}
use Rattle.csi_world.proofs.RunWorlds.{IsRun, RunLaws}
use Rattle.csi_world.proofs.UndoneCalls.{HasRoom, own-now}
use Rattle.csi_world.proofs.WorldSafety.{right-safe}

-- ---- as many names as ids

-- what is among a list parts it
among-parts : {X : Type 0} (xs : List X) (x : X) → IsAmong x xs → (front : List X) × (rear : List X) × (xs ≡ front ++ x ∷ rear)
among-parts [] x among = absurd among
among-parts (y ∷ ys) x (inl e) = ([], ys, ap (λ z. z ∷ ys) (sym e))
among-parts (y ∷ ys) x (inr there) = let parts = among-parts ys x there in (y ∷ parts.0, parts.1, ap (λ zs. y ∷ zs) parts.2)

-- the list without it
length-without : {X : Type 0} (front rear : List X) (x : X) → length (front ++ x ∷ rear) ≡ 1 + length (front ++ rear)
length-without front rear x = let a = length-append front (x ∷ rear) in let b = length-append front rear in omega (arith, a, b)

-- where each of different ids has a name of a list, and no two have the same one, there are at least as many names
few-ids : (has : List ℕ → ℕ → Type 0) → ((name : List ℕ) (i j : ℕ) → has name i → has name j → i ≡ j) → (ids : List ℕ) (names : List (List ℕ)) → EachTwo (λ (a b : ℕ). a ≡ b → ⊥) ids
    → ((id : ℕ) → IsAmong id ids → (name : List ℕ) × IsAmong name names × has name id) → length ids ≤ length names
few-ids has one [] names apart named = omega arith
few-ids has one (id ∷ ids) names apart named =
    let own = named id (inl refl) in
    let parts = among-parts names own.0 own.1 in
    let rest : List (List ℕ) = parts.0 ++ parts.1 in
    let fewer = few-ids has one ids rest apart.1 (λ other among. others own parts.0 parts.1 other (all-differ id ids other apart.0 among) (kept own.0 names parts.0 parts.1 parts.2 (named other (inr among)))) in
    let long = ap length parts.2 ∙ length-without parts.0 parts.1 own.0 in
    omega (arith, fewer, long)
  where
    all-differ : (id : ℕ) (ids : List ℕ) (other : ℕ) → AllByRecursion (λ (b : ℕ). id ≡ b → ⊥) ids → IsAmong other ids → id ≡ other → ⊥
    all-differ id ids other all among = each_of (λ (b : ℕ). id ≡ b → ⊥) ids other all among

    kept : {P : List ℕ → Type 0} (name : List ℕ) (names front rear : List (List ℕ)) → names ≡ front ++ name ∷ rear → (other : List ℕ) × IsAmong other names × P other → (other : List ℕ) × (IsAmong other (front ++ rear) ⊎ (other ≡ name)) × P other
    kept name names front rear is found = (
      found.0,
      ⊎_elim (λ here. inl (among-append front rear found.0 here)) (λ there. ⊎_elim (λ e. inr e) (λ behind. inl (among-right front rear found.0 behind)) there)
          (among-joined front (name ∷ rear) found.0 (subst (IsAmong found.0) is found.1)),
      found.2,
    )

    others : (own : (name : List ℕ) × IsAmong name names × has name id) (front rear : List (List ℕ)) (other : ℕ) → (id ≡ other → ⊥) → (name : List ℕ) × (IsAmong name (front ++ rear) ⊎ (name ≡ own.0)) × has name other
        → (name : List ℕ) × IsAmong name (front ++ rear) × has name other
    others own front rear other differ found =
        (found.0, ⊎_elim (λ there. there) (λ e. absurd (differ (one own.0 id other own.2 (subst (λ n. has n other) e found.2)))) found.1, found.2)

-- ---- the session in which things ended

-- sessions rise
session-grows : (began : Number) (item : Item) (older : List Item) → AreWellFormed began (item ∷ older) → (last_in began older).session ≤ (last_in began (item ∷ older)).session
session-grows began item older form = grind arith

-- what ended did so by the last session
over-last : (began : Number) (items : List Item) (thing : PluginThing) → AreWellFormed began items → over_in began items thing ≤ (last_in began items).session
over-last began [] thing form = omega arith
over-last began (item ∷ older) thing form = grind (arith, ends, session-grows, over_in, (over-last began older thing form.1))

-- ---- what the rows of a node are of

-- a call to a node is about a volume
own-volume : (has : List ℕ → ℕ → Type 0) (name node : List ℕ) (call : Call) → IsFor has name (Node node) call → (id : ℕ) × (volume_of call ≡ Some id) × has name id
own-volume has name node call own = grind arith

module _ (laws : RunLaws) (world : World) (run : IsRun world) where
  abbrev given : List GivenId
  given = run.right.good.given

  -- a name that has a row, and this id now
  abbrev IsNamed : ℕ → Type 0
  IsNamed id = (name : List ℕ) × IsAmong name (names_of world.history) × HasNow given name id

  -- a name that has a row is among those that have
  row-among : (name : List ℕ) → has_row world.history name ≡ true → IsAmong name (names_of world.history)
  row-among name row =
      let found = any-then (same_text name) (names_of world.history) row in
      subst (λ n. IsAmong n (names_of world.history)) (sym ((same_text-tells name found.0).0 found.2)) found.1

  -- a live volume's id is one of these
  live-is_named : (id : ℕ) (volume : Volume) → live_volume id world.controller ≡ Some volume → IsNamed id
  live-is_named id volume is =
      let of = run.right.good.well.of_controller in
      let there = of.names.live_id id volume is in
      let passes = and_parts (volume.id == id) volume.is_live (find-passes (λ (v : Volume). (v.id == id) && v.is_live) world.controller.volumes volume is) in
      let named = live-named world.controller volume (of.names.by_name id volume there) passes.1 in
      (volume.name, row-among volume.name (by named (has_row world.history volume.name) refl), subst (HasNow given volume.name) (eqb-true volume.id id passes.0) (live-now world.controller given volume.name volume of named))
    where
      by : controllers.live_named volume.name world.controller ≡ Some volume → (b : Bool) → has_row world.history volume.name ≡ b → b ≡ true
      by named true e = refl
      by named false e =
          let gone = (right-safe laws.plugins world run.right).recorded_right (things.Exists volume.name) in
          absurd (false≢true (sym (gone.no ((run.rowed).gone volume.name e)) ∙ ap is_some named))

  -- a call of the last session is for the volume that its name has now
  called-is_named : (node : List ℕ) (call : Issued) (id : ℕ) → IsAmong call (issued_in world.history.items) → call.party ≡ Node node → volume_of call.call ≡ Some id → call.number.session ≡ (last_number world.history).session → IsNamed id
  called-is_named node call id among to for now =
      let own = own-volume (HasNow given) call.name node call.call (subst (λ p. IsOwnNow given call.name p call.call) to (so_far.named.own_now call here)) in
      (call.name, row-among call.name ((run.rowed).called call here), subst (HasNow given call.name) (same_Some own.0 id (sym own.1 ∙ for)) own.2)
    where
      so_far : IsSoFar world.history world.frames (told_by given world) given
      so_far = run.right.good.well.so_far

      new : is_past world.history (Exists call.name) call.number ≡ false
      new = let over = over-last world.history.began world.history.items (Exists call.name) run.form in at call.number.session (over_in world.history.began world.history.items (Exists call.name)) over
        where
          at : (s over : ℕ) → over ≤ (last_number world.history).session → nat_lt call.number.session over ≡ false
          at s over few = grind (arith, nat_tests, few, now)

      here : IsAmong call (calls_since (Exists call.name) world.history.items)
      here =
          ⊎_elim (λ since. since) (λ earlier. absurd (false≢true (sym new ∙ so_far.timed.before (Exists call.name) call earlier)))
          (since-or-before (Exists call.name) world.history.items call among)

  -- what is staged at a node is of a live volume
  staged-is_named : (node : List ℕ) (state : NodeState) (id : ℕ) → node_state node world ≡ Some state → IsSome (staged_of id state) → IsNamed id
  staged-is_named node state id there staged = by (find p state.staged) refl staged
    where
      p : StagedVolume → Bool
      p s = s.volume == id

      safe : Safe world
      safe = right-safe laws.plugins world run.right

      live : (o : Option Volume) → live_volume id world.controller ≡ o → IsSome o → IsNamed id
      live None e some = absurd (false≢true some)
      live (Some volume) e some = live-is_named id volume e

      by : (o : Option StagedVolume) → find p state.staged ≡ o → IsSome (option_map (λ (s : StagedVolume). s.capability) o) → IsNamed id
      by None e some = absurd (false≢true some)
      by (Some s) e some =
          let found = found-at node world state there in
          let attached = safe.staged_where_attached found.0 s found.1 (subst (λ (n : NodeState). IsAmong s n.staged) (sym found.3) (among-find p state.staged s e)) in
          let same = attached.of_volume ∙ eqb-true s.volume id (find-passes p state.staged s e) in
          live (live_volume id world.controller) refl (subst (λ n. IsSome (live_volume n world.controller)) same (safe.attached_while_live attached.holding attached.is_held))

  -- ---- in the session of a call that was just sent

  module _ (base : History) (issued : Issued) (is_sent : world.history ≡ with_items base (Sent issued ∷ [])) (node : List ℕ) (state : NodeState) (there : node_state node world ≡ Some state) where
    abbrev now : NodeState
    now = node_now node issued.number state

    -- it is the last one
    last-is : (last_number world.history).session ≡ issued.number.session
    last-is = ap (λ h. (last_number h).session) is_sent

    -- the node heard of no later session
    heard-session : state.session ≤ issued.number.session
    heard-session =
        let found = found-at node world state there in
        let heard = (run.heard.nodes found.0 found.1).session in
        let here = subst (λ (n : NodeState). n.session ≤ (last_number world.history).session) found.3 heard in
        omega (arith, here, last-is)

    -- each row that is left is of a staged volume, or of a call of this session
    row-current : (row : AnsweredVolume) → IsAmong row now.rows → IsSome (staged_of row.id state) ⊎ (row.kept.number.session ≡ issued.number.session)
    row-current row = by (begins state.session issued.number) refl
      where
        current : AreCurrent state
        current = let of = node-of-frames world node state run.right.good.reached there in subst AreCurrent (sym of.2) (all_current node of.0 of.1)

        same : begins state.session issued.number ≡ false → state.session ≡ issued.number.session
        same e = let heard = heard-session in at state.session issued.number.session heard e
          where
            at : (s n : ℕ) → s ≤ n → nat_lt s n ≡ false → s ≡ n
            at s n few e = grind (arith, nat_tests)

        by : (b : Bool) → begins state.session issued.number ≡ b → IsAmong row (cond b (nodes.begun issued.number.session state) state).rows → IsSome (staged_of row.id state) ⊎ (row.kept.number.session ≡ issued.number.session)
        by true e among = inl (among-kept (λ (r : AnsweredVolume). is_some (staged_of r.id state)) state.rows row among).1
        by false e among = ⊎_elim (λ staged. inl staged) (λ session. inr (session ∙ same e)) (current.each row among)

    -- so it is of a volume of a name that has a row
    row-is_named : (row : AnsweredVolume) → IsAmong row now.rows → IsNamed row.id
    row-is_named row among =
        ⊎_elim (λ staged. staged-is_named node state row.id there staged) (λ session. by session (row-current-call row among)) (row-current row among)
      where
        by : row.kept.number.session ≡ issued.number.session → IsCalled (issued_in world.history.items) node row → IsNamed row.id
        by session called =
            called-is_named node called.call row.id called.among called.to_node called.for_volume (ap (λ (n : Number). n.session) called.has_number ∙ session ∙ sym last-is)

        row-current-call : (r : AnsweredVolume) → IsAmong r now.rows → IsCalled (issued_in world.history.items) node r
        row-current-call r here =
            let found = found-at node world state there in
            subst (λ (n : List ℕ × NodeState). AreCalled (issued_in world.history.items) n.0 n.1) (λ i. (found.2 i, found.3 i)) (run.called found.0 found.1) r (node-now-rows node issued.number state r here)

    -- the rows are of different volumes
    rows-apart : HaveDistinctVolumes now.rows
    rows-apart = by (begins state.session issued.number)
      where
        apart : HaveDistinctVolumes state.rows
        apart = let of = node-of-frames world node state run.right.good.reached there in subst (λ (s : NodeState). HaveDistinctVolumes s.rows) (sym of.2) (distinct-rows node of.0 of.1)

        by : (b : Bool) → HaveDistinctVolumes (cond b (nodes.begun issued.number.session state) state).rows
        by true = two-filter (λ (a b : AnsweredVolume). (a.id == b.id) ≡ false) (λ (r : AnsweredVolume). is_some (staged_of r.id state)) state.rows apart
        by false = apart

    -- with that of the call's volume, which has none, there are no more than the orchestrator has
    few-rows : (id : ℕ) → HasNow given issued.name id → row_with_id id now ≡ None → length now.rows < MAX_ROWS
    few-rows id has none =
        let enough = few-ids (HasNow given) (λ name i j. run.right.good.well.so_far.are_given.one_id name i j) (id ∷ map (λ (r : AnsweredVolume). r.id) now.rows) (names_of world.history) (first, rest) named in
        let long = length-map now.rows (λ (r : AnsweredVolume). r.id) in
        let few = (run.rowed).few in
        omega (arith, enough, long, few)
      where
        first : AllByRecursion (λ (b : ℕ). id ≡ b → ⊥) (map (λ (r : AnsweredVolume). r.id) now.rows)
        first = all_of (λ (b : ℕ). id ≡ b → ⊥) (map (λ (r : AnsweredVolume). r.id) now.rows) (λ other among e.
            let from = among-map (λ (r : AnsweredVolume). r.id) now.rows other among in
            false≢true (sym (none_passes (λ (r : AnsweredVolume). r.id == id) now.rows from.0 none from.1) ∙ eq-eqb (from.0).id id (sym (e ∙ from.2))))

        rest : EachTwo (λ (a b : ℕ). a ≡ b → ⊥) (map (λ (r : AnsweredVolume). r.id) now.rows)
        rest =
            two-map (λ (a b : ℕ). a ≡ b → ⊥) (λ (r : AnsweredVolume). r.id) now.rows
            (two-more (λ (a b : AnsweredVolume). (a.id == b.id) ≡ false) (λ (a b : AnsweredVolume). a.id ≡ b.id → ⊥) now.rows (λ a b differ e. false≢true (sym differ ∙ eq-eqb a.id b.id e)) rows-apart)

        own-row : IsAmong issued.name (names_of world.history)
        own-row = row-among issued.name ((run.rowed).called issued (subst (λ (h : History). IsAmong issued (calls_since (Exists issued.name) h.items)) (sym is_sent) (inl refl)))

        named : (other : ℕ) → IsAmong other (id ∷ map (λ (r : AnsweredVolume). r.id) now.rows) → IsNamed other
        named other (inl e) = (issued.name, own-row, subst (HasNow given issued.name) (sym e) has)
        named other (inr among) = let from = among-map (λ (r : AnsweredVolume). r.id) now.rows other among in subst IsNamed (sym from.2) (row-is_named from.0 from.1)

-- a plugin has room for the row of a call that was just sent
pub has-room : RunLaws → (world : World) (base : History) (issued : Issued) → IsRun world → world.history ≡ with_items base (Sent issued ∷ []) → HasRoom world issued.number issued.party issued.call
has-room laws world base issued run is_sent = by issued.party refl
  where
    below : (n : ℕ) → n < MAX_ROWS → nat_le MAX_ROWS n ≡ false
    below n less = grind (arith, nat_tests)

    by : (party : Party) → issued.party ≡ party → HasRoom world issued.number party issued.call
    by Controller to = tt
    by (Node node) to = λ state there.
        let own = own-volume (HasNow run.right.good.given) issued.name node issued.call (subst (λ p. IsOwnNow run.right.good.given issued.name p issued.call) to (own-now world base issued run is_sent)) in
        ap (λ o. is_none (row_of_volume o (node_now node issued.number state)) && nat_le MAX_ROWS (length (node_now node issued.number state).rows)) own.1
        ∙ at node state there own.0 own.2 (row_with_id own.0 (node_now node issued.number state)) refl
      where
        at : (node : List ℕ) (state : NodeState) (there : node_state node world ≡ Some state) (id : ℕ) → HasNow run.right.good.given issued.name id → (o : Option AnsweredVolume) → row_with_id id (node_now node issued.number state) ≡ o
            → (is_none o && nat_le MAX_ROWS (length (node_now node issued.number state).rows)) ≡ false
        at node state there id has (Some row) e = refl
        at node state there id has None e = below (length (node_now node issued.number state).rows) (few-rows laws world run base issued is_sent node state there id has e)
