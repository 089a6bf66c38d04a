-- The rows of an orchestrator in a world to which events led, and what they tell: each volume that is there has an id, and what may be
-- staged or published is so at a listed node.
use Rattle.csi_world.proofs.Words.{◌≡◌, ◌≢◌, ℕ, List, [], ◌∷◌, find, true, false, cond, Option, Some, None, refl, sym}
use Rattle.csi_world.proofs.Words.{◌∙◌, ap, subst, inl, inr, arith, Result, Ok, Err, IsTrue, filter_map}
use Rattle.csi_world.proofs.Words.{option_and_then, AllByRecursion, list_any, Number, Call, Party, Controller, Node}
use Rattle.csi_world.proofs.Words.{Capability, Reply, kind_of, same_text, PluginThing, Exists, has_id_by_rule, IsAmong}
use Rattle.csi_world.proofs.Words.{EachTwo, OrchFault, Thing, Known, Yes, No, Maybe, Issued, is_doing, Item, Accepted}
use Rattle.csi_world.proofs.Words.{History, newest, known, id_of, nodes_of, id_in, id_by, is_success_of, issued_in}
use Rattle.csi_world.proofs.Words.{issued_since, lifetime, Input, Moved, moves, NodeEntryShown, RowShown}
use Rattle.csi_world.proofs.Words.{OrchestratorParts, row_of, node_entry_of, mark_in, mark_of, publication_known}
use Rattle.csi_world.proofs.Words.{Shows, IsWellFormed, moved_to, MovedRows, IsStanding, IsStandingIf, IsSteadyRow}
use Rattle.csi_world.proofs.Words.{IsSteadyRowIf, AreSteadyRows, AreSteadyRowsIf, HasOne, HasMarks, IsAtWork, IsAtRest}
use Rattle.csi_world.proofs.Words.{AreMarked, World}
use Rattle.csi_world.proofs.Lemmas.{false≢true, none-some, same_text-tells, all_of, each_of, among-find, in-filter_map}
use Rattle.csi_world.proofs.Lemmas.{in_filter, find-one, find-passes, any-then, one-each}
use Rattle.csi_types.specs.declared.call.Call.TheVariants as calls
use Rattle.csi_types.specs.declared.call.Kind.TheVariants as kinds
use Rattle.csi_types.specs.declared.status.Status.TheVariants as statuses
use Rattle.csi_orchestrator.specs.declared.row.Goal.{Goal as KeptGoal}
use Rattle.csi_orchestrator.specs.declared.row.Goal.TheVariants as kept
use Rattle.csi_orchestrator.specs.declared.row.TargetEntry.{TargetEntry}
use Rattle.csi_orchestrator.specs.declared.thing.Thing.TheVariants as things
use Rattle.csi_orchestrator.specs.Public.Bounds.{IsWithin, AreWithin, IsEntryWithin}
use Rattle.csi_orchestrator.specs.Public.Sound.{AreSoundRows}
use Rattle.csi_orchestrator.proofs.BoundsStay.{rows-stay-within}
use Rattle.csi_orchestrator.proofs.KeptRows.{any-fit, rows-stay-steady-if}
use Rattle.csi_orchestrator.proofs.RepliesAgree.{all-tell}
use Rattle.csi_orchestrator.proofs.RulesStay.{rows-stay-sound}
use Rattle.csi_orchestrator.proofs.SendingAgrees.{Tells}
use Rattle.csi_world.proofs.CallThings.{IsThingBy, is_of, is_plugin_thing, plugin_thing_at}
use Rattle.csi_world.proofs.Forgotten.{told_by}
use Rattle.csi_world.proofs.GivenIds.{GivenId}
use Rattle.csi_world.proofs.HeardReplies.{heard-ok}
use Rattle.csi_world.proofs.KnownThings.{IsSoFar, IsDone, is_exists, yes-done}
use Rattle.csi_world.proofs.Lifetimes.{calls_since, latest, lifetime-is, since-sent}
use Rattle.csi_world.proofs.RightWorlds.{IsRight}

-- ---- each volume that is known to be there has an id

abbrev pub HaveIds : History → Type 0
HaveIds history = (name : List ℕ) → known history (things.Exists name) ≡ Yes → (id : ℕ) × (id_of history name ≡ Some id)

-- the newest of a list that has one
newest-is : {X : Type 0} (xs : List X) (x : X) → IsAmong x xs → (y : X) × (newest xs ≡ Some y) × IsAmong y xs
newest-is [] x among = absurd among
newest-is (y ∷ ys) x among = (y, refl, inl refl)

-- a success of CreateVolume has an id
made-id : (reply : Reply) → reply.status ≡ statuses.Ok → IsTrue (has_id_by_rule kinds.CreateVolume reply) → (id : ℕ) × (reply.id ≡ Some id)
made-id reply ok rule = grind (arith, false≢true)

-- whether a volume is there is one thing by the name and by an id
existence-is : {has : List ℕ → ℕ → Type 0} (thing : Thing) (plugin_thing : PluginThing) → IsThingBy has thing plugin_thing → (name : List ℕ) → thing ≡ things.Exists name → plugin_thing ≡ Exists name
existence-is thing plugin_thing h name e = grind (arith, false≢true, is_exists)

-- so it is in every world
pub have-ids : (world : World) → IsRight world → HaveIds world.history
have-ids world right name is_yes = at done.plugin_thing (existence-is (things.Exists name) done.plugin_thing done.one name refl) done.by_id
  where
    items : List Item
    items = world.history.items

    given : List GivenId
    given = right.good.given

    so_far : IsSoFar world.history world.frames (told_by given world) given
    so_far = right.good.well.so_far

    done : IsDone world.history given (things.Exists name)
    done = yes-done world.history world.frames (told_by given world) given so_far (things.Exists name) is_yes

    call : Issued
    call = done.call

    -- by the item that tells of it
    told : (create : List ℕ) (required limit : ℕ) (capabilities : List Capability) → call.call ≡ calls.CreateVolume create required limit capabilities → call.name ≡ name → IsAmong call (calls_since (Exists name) items)
        → (item : Item) → IsAmong item items → is_success_of call.number item ≡ true → (id : ℕ) × (id_of world.history name ≡ Some id)
    told create required limit capabilities makes named here (Accepted other status id) among passes =
        let ok = heard-ok items (issued_in items) world.frames call other status id so_far.heard so_far.truth.numbers (since-sent (Exists name) items call here) among passes in
        let rule = so_far.truth.ids call.number call.party (kind_of call.call) ok.0 ok.1.0 ok.1.1 in
        let has = made-id ok.0 ok.1.1 (subst (λ c. IsTrue (has_id_by_rule (kind_of c) ok.0)) makes rule) in
        let in_item : id_in call.number (Accepted other status id) ≡ Some has.0 = ap (λ b. cond b id None) passes ∙ sym ok.2 ∙ has.1 in
        let first = newest-is (filter_map (id_in call.number) items) has.0 (in-filter_map (id_in call.number) items (Accepted other status id) has.0 among in_item) in
        let by_call : id_by items call call.call ≡ Some first.0 = ap (id_by items call) makes ∙ first.1 in
        let there : IsAmong call (issued_since world.history name)
        = in_filter (λ (i : Issued). same_text i.name name) (issued_in (lifetime name items)) call (subst (λ (xs : List Item). IsAmong call (issued_in xs)) (sym (lifetime-is name items)) here) ((same_text-tells call.name name).1 named) in
        let last = newest-is (filter_map (λ (i : Issued). id_by items i i.call) (issued_since world.history name)) first.0 (in-filter_map (λ (i : Issued). id_by items i i.call) (issued_since world.history name) call first.0 there by_call) in
        (last.0, last.1)
    told create required limit capabilities makes named here item among passes = absurd (false≢true passes)

    -- a call that makes the volume of the name
    makes-it : (party : Party) (c : Call) → call.call ≡ c → is_doing c ≡ true → is_plugin_thing (Exists name) (plugin_thing_at call.name party c) ≡ true → IsAmong call (calls_since (Exists name) items)
        → (id : ℕ) × (id_of world.history name ≡ Some id)
    makes-it party (calls.CreateVolume create required limit capabilities) is doing of here =
        let there = any-then (is_success_of call.number) items done.success in
        told create required limit capabilities is (sym ((same_text-tells name call.name).0 of)) here there.0 there.1 there.2
    makes-it party (calls.DeleteVolume id) is doing of here = absurd (false≢true doing)
    makes-it party (calls.ControllerUnpublishVolume id node) is doing of here = absurd (false≢true doing)
    makes-it party (calls.NodeUnstageVolume id) is doing of here = absurd (false≢true doing)
    makes-it party (calls.NodeUnpublishVolume id target) is doing of here = absurd (false≢true doing)
    makes-it party (calls.ControllerPublishVolume id node capability readonly) is doing of here = absurd (false≢true of)
    makes-it Controller (calls.NodeStageVolume id capability) is doing of here = absurd (false≢true of)
    makes-it (Node node) (calls.NodeStageVolume id capability) is doing of here = absurd (false≢true of)
    makes-it Controller (calls.NodePublishVolume id target capability readonly) is doing of here = absurd (false≢true of)
    makes-it (Node node) (calls.NodePublishVolume id target capability readonly) is doing of here = absurd (false≢true of)

    at : (plugin_thing : PluginThing) → plugin_thing ≡ Exists name → latest items plugin_thing ≡ Some call → (id : ℕ) × (id_of world.history name ≡ Some id)
    at plugin_thing is by_id =
        let found : find (is_of (Exists name)) (calls_since (Exists name) items) ≡ Some call = subst (λ k. latest items k ≡ Some call) is by_id in
        makes-it call.party call.call refl done.is_so (find-passes (is_of (Exists name)) (calls_since (Exists name) items) call found) (among-find (is_of (Exists name)) (calls_since (Exists name) items) call found)

-- ---- rows

-- the rows of an orchestrator that came to the history
pub record HasRows (history : History) : Type 0 where
  pub parts : OrchestratorParts
  pub sound : AreSoundRows parts.rows
  pub steady : AreSteadyRowsIf (Unit {0}) parts.rows
  pub within : IsWithin parts
  pub agrees : Shows parts history

-- two rows of one name are one
one-row : (rows : List RowShown) (x y : RowShown) → EachTwo (λ (a b : RowShown). same_text a.name b.name ≡ false) rows → IsAmong x rows → IsAmong y rows → same_text y.name x.name ≡ true → y ≡ x
one-row [] x y apart hx hy same = absurd hx
one-row (r ∷ rs) x y apart (inl e) (inl f) same = f ∙ sym e
one-row (r ∷ rs) x y apart (inl e) (inr there) same =
    let differ = each_of (λ (b : RowShown). same_text r.name b.name ≡ false) rs y apart.0 there in
    absurd (false≢true (sym differ ∙ (same_text-tells r.name y.name).1 (ap (λ (z : RowShown). z.name) (sym e) ∙ sym ((same_text-tells y.name x.name).0 same))))
one-row (r ∷ rs) x y apart (inr there) (inl f) same =
    let differ = each_of (λ (b : RowShown). same_text r.name b.name ≡ false) rs x apart.0 there in
    absurd (false≢true (sym differ ∙ (same_text-tells r.name x.name).1 (ap (λ (z : RowShown). z.name) (sym f) ∙ (same_text-tells y.name x.name).0 same)))
one-row (r ∷ rs) x y apart (inr hx) (inr hy) same = one-row rs x y apart.1 hx hy same

-- a row is the one that is found by its name
row-found : (history : History) (rows : HasRows history) (row : RowShown) → IsAmong row rows.parts.rows → row_of rows.parts.rows row.name ≡ Some row
row-found history rows row among =
    find-one (λ (r : RowShown). same_text r.name row.name) rows.parts.rows row among ((same_text-tells row.name row.name).1 refl)
    (λ other there same. one-row rows.parts.rows row other rows.sound.names among there same)

-- where each volume has an id, rows are as they are with the frames that there are
strict : (history : History) (rows : HasRows history) → HaveIds history → AreSteadyRows rows.parts.rows
strict history rows ids = all_of IsSteadyRow rows.parts.rows (λ row among.
    let own = each_of (IsSteadyRowIf (Unit {0})) rows.parts.rows row rows.steady among in
    record {
      tries = own.tries;
      untried = own.untried;
      standing = by row (row-found history rows row among) row.goal row.id row.exists refl refl own.standing;
      bare = own.bare;
      empty = own.empty;
      marked = own.marked;
      last = own.last;
      allowed = own.allowed;
      beside = own.beside;
    })
  where
    none : (row : RowShown) → row_of rows.parts.rows row.name ≡ Some row → row.id ≡ None → row.exists ≡ Yes → ⊥
    none row found no_id made =
        let known_yes : known history (things.Exists row.name) ≡ Yes = sym ((rows.agrees).same_marks (things.Exists row.name)) ∙ ap (mark_in (mark_of (things.Exists row.name))) found ∙ made in
        let has = ids row.name known_yes in
        none-some has.0 (sym no_id ∙ ap (option_and_then (λ (r : RowShown). r.id)) (sym found) ∙ (rows.agrees).same_ids row.name ∙ has.1)

    by : (row : RowShown) → row_of rows.parts.rows row.name ≡ Some row → (goal : Option KeptGoal) (id : Option ℕ) (exists : Known) → row.id ≡ id → row.exists ≡ exists → IsStandingIf (Unit {0}) goal id exists → IsStanding goal id exists
    by row found None None Maybe i x own = tt
    by row found None None Yes i x own = none row found i x
    by row found None (Some id) Yes i x own = tt
    by row found None (Some id) No i x own = tt
    by row found (Some kept.Create) None Maybe i x own = tt
    by row found (Some (kept.Use usage)) (Some id) Yes i x own = tt
    by row found (Some (kept.Stop node target)) (Some id) Yes i x own = tt
    by row found (Some kept.Delete) (Some id) Maybe i x own = tt
    by row found goal id exists i x own = own

-- there are such rows after each input
pub rows-next : (history : History) (input : Input) → IsWellFormed history → HaveIds history → HasRows history → HasRows (moved_to history (moves history input))
rows-next history input form ids rows =
    by _
    (λ moved_rows moved e tells. record {
      parts = moved_rows.parts;
      sound = rows-stay-sound rows.parts input moved_rows rows.sound e;
      steady = rows-stay-steady-if (Unit {0}) rows.parts input moved_rows rows.sound rows.steady (any-fit input) e;
      within = rows-stay-within rows.parts input moved_rows rows.sound (strict history rows ids) rows.within e;
      agrees = tells.0.1;
    })
    (moves history input) (all-tell rows.parts history input form rows.sound rows.steady rows.agrees)
  where
    by : (told : Result MovedRows OrchFault) → ((moved_rows : MovedRows) (moved : Moved) → told ≡ Ok moved_rows → Tells history (Ok moved_rows) (Ok moved) → HasRows (moved_to history (Ok moved)))
        → (result : Result Moved OrchFault) → Tells history told result → HasRows (moved_to history result)
    by (Ok moved_rows) make (Ok moved) tells = make moved_rows moved refl tells
    by (Ok moved_rows) make (Err fault) tells = absurd tells.0
    by (Err fault) make (Ok moved) tells = absurd tells.0
    by (Err fault) make (Err other) tells = rows

-- at first there are none
pub first-rows : (nodes : List (List ℕ)) (last : Number) → HasRows (let h : History = record { began = last; nodes = nodes; items = [] } in h)
first-rows nodes last =
    record {
      parts = record { nodes = nodes; last = last; rows = [] };
      sound = record { names = tt; each = tt };
      steady = tt;
      within = record { rows = omega arith; entries = tt };
      agrees =
          record { same_nodes = refl; same_last = refl; same_rows = λ name. refl; same_marks = λ thing. refl; same_ids = λ name. refl; same_goals = λ name. refl; same_arguments = λ name. refl; same_holdings = λ name node there. refl; same_open_calls = λ name. refl; same_counts = λ name. refl };
    }

-- ---- what may be staged or published is so at a listed node

-- an entry that has targets
abbrev HasTargets : NodeEntryShown → Type 0
HasTargets entry = entry.target_entries ≢ []

-- where it may be staged, it has some
abbrev IsTargeted : NodeEntryShown → Type 0
IsTargeted entry = entry.staged ≢ No → HasTargets entry

marks-targeted : (target : List ℕ) (entry : NodeEntryShown) → HasMarks IsAtWork target entry → HasTargets entry
marks-targeted target entry marks none = subst (λ ts. HasOne (λ (t : TargetEntry). t.target) target (λ (t : TargetEntry). t.published ≡ marks.published) (λ (t : TargetEntry). t.published ≡ Yes) ts) none marks.targets

resting-targeted : (entry : NodeEntryShown) → IsAtRest entry → IsTargeted entry
resting-targeted entry (inl used) staged = used.some
resting-targeted entry (inr left) staged = absurd (staged left.staged)

-- so it is of each entry of a row
all-targeted : (goal : Option KeptGoal) (entries : List NodeEntryShown) → AreMarked IsAtWork (λ mark. mark ≢ No) goal entries → AllByRecursion IsTargeted entries
all-targeted goal entries marked = grind (arith, one-each, marks-targeted, resting-targeted, all_of, each_of)

-- the entry of a node of the name's row, where something is known of it
record HasEntryAt (history : History) (rows : HasRows history) (name node : List ℕ) (mark : NodeEntryShown → Known) : Type 0 where
  row : RowShown
  row_among : IsAmong row rows.parts.rows
  entry : NodeEntryShown
  entry_among : IsAmong entry row.node_entries
  of_node : entry.node ≡ node
  marked : mark entry ≢ No

-- there is one, where the mark isn't No
entry-at : (history : History) (rows : HasRows history) (name node : List ℕ) (mark : NodeEntryShown → Known) → mark_in (λ (row : RowShown). mark_in mark (node_entry_of row node)) (row_of rows.parts.rows name) ≢ No → HasEntryAt history rows name node mark
entry-at history rows name node mark some = by (row_of rows.parts.rows name) refl some
  where
    at : (row : RowShown) → row_of rows.parts.rows name ≡ Some row → (o : Option NodeEntryShown) → node_entry_of row node ≡ o → mark_in mark o ≢ No → HasEntryAt history rows name node mark
    at row e None f some = absurd (some refl)
    at row e (Some entry) f some =
        record {
          row = row;
          row_among = among-find (λ (r : RowShown). same_text r.name name) rows.parts.rows row e;
          entry = entry;
          entry_among = among-find (λ (x : NodeEntryShown). same_text x.node node) row.node_entries entry f;
          of_node = (same_text-tells entry.node node).0 (find-passes (λ (x : NodeEntryShown). same_text x.node node) row.node_entries entry f);
          marked = some;
        }

    by : (o : Option RowShown) → row_of rows.parts.rows name ≡ o → mark_in (λ (row : RowShown). mark_in mark (node_entry_of row node)) o ≢ No → HasEntryAt history rows name node mark
    by None e some = absurd (some refl)
    by (Some row) e some = at row e (node_entry_of row node) refl some

-- the node is in the orchestrator's list
abbrev pub IsListed : History → List ℕ → Type 0
IsListed history node = list_any (same_text node) (nodes_of history) ≡ true

-- an entry with targets is of a listed node
targets-listed : (history : History) (rows : HasRows history) (name node : List ℕ) (mark : NodeEntryShown → Known) (at : HasEntryAt history rows name node mark) → HasTargets at.entry → IsListed history node
targets-listed history rows name node mark at some =
    let within = each_of (AreWithin rows.parts.nodes) rows.parts.rows at.row (rows.within).entries at.row_among in
    let own = each_of (IsEntryWithin rows.parts.nodes) (at.row).node_entries at.entry within.each at.entry_among in
    ap (list_any (same_text node)) (sym (rows.agrees).same_nodes) ∙ ap (λ n. list_any (same_text n) rows.parts.nodes) (sym at.of_node) ∙ own.among some

-- what may be published
pub published-listed : (history : History) → HasRows history → (name node target : List ℕ) → known history (things.Published name node target) ≢ No → IsListed history node
published-listed history rows name node target some =
    let at = entry-at history rows name node (publication_known target) (λ none. some (sym ((rows.agrees).same_marks (things.Published name node target)) ∙ none)) in
    targets-listed history rows name node (publication_known target) at (λ none. at.marked (ap (λ ts. mark_in (λ (t : TargetEntry). t.published) (find (λ (t : TargetEntry). same_text t.target target) ts)) none))

-- what may be staged
pub staged-listed : (history : History) → HasRows history → (name node : List ℕ) → known history (things.Staged name node) ≢ No → IsListed history node
staged-listed history rows name node some =
    let at = entry-at history rows name node (λ (e : NodeEntryShown). e.staged) (λ none. some (sym ((rows.agrees).same_marks (things.Staged name node)) ∙ none)) in
    let steady = each_of (IsSteadyRowIf (Unit {0})) rows.parts.rows at.row rows.steady at.row_among in
    targets-listed history rows name node (λ (e : NodeEntryShown). e.staged) at
    (each_of IsTargeted (at.row).node_entries at.entry (all-targeted (at.row).goal (at.row).node_entries steady.marked) at.entry_among at.marked)
