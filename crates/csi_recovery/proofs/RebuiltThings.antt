-- What a controller has that is made of what its orchestrator keeps, and what the orchestrator's history tells of it: what was done and heard is so, and
-- of what is there a call was sent.
use Rattle.std.proofs.Common.{◌≡◌, ◌⊎◌, ℕ, ◌<◌, ◌≤◌, List, [], filter, find, Bool, true, false, not, Option, Some, None, option_map, is_some, ◌==◌, ◌&&◌, ◌||◌, refl, sym, ◌∙◌, ap, subst, inl, inr, ⊎_elim, arith}
use Rattle.std.specs.List.{list_any}
use Rattle.std.proofs.lemmas.Bool.{and_from, and_parts, eq-eqb, eqb-true, false≢true, or_cases, true≢false}
use Rattle.std.proofs.lemmas.Option.{none-some, same_Some}
use Rattle.csi_types.specs.Model.Members.{IsAmong}
use Rattle.csi_types.proofs.Members.{among-find, among-kept, in_filter, none_passes}
use Rattle.csi_types.proofs.Options.{none-where}
use Rattle.csi_types.proofs.Searches.{find-passes}
use Rattle.csi_types.proofs.Tests.{any-then, then-any}
use Rattle.csi_types.specs.declared.call.Call.{Call}
use Rattle.csi_types.specs.declared.call.Call.TheVariants as calls
use Rattle.csi_types.specs.declared.call.Kind.{Kind}
use Rattle.csi_types.specs.declared.call.Party.{Party}
use Rattle.csi_types.specs.declared.call.Party.TheVariants.{Controller, Node}
use Rattle.csi_types.specs.declared.capability.Capability.{Capability}
use Rattle.csi_types.specs.declared.frame.Body.{Body}
use Rattle.csi_types.specs.declared.frame.Body.TheVariants as bodies
use Rattle.csi_types.specs.declared.holding.Holding.{Holding}
use Rattle.csi_types.specs.declared.number.Number.{Number}
use Rattle.csi_types.specs.declared.reply.Reply.{Reply}
use Rattle.csi_types.specs.declared.status.Status.{Status}
use Rattle.csi_types.specs.Model.Call.{kind_of}
use Rattle.csi_types.specs.Model.Frame.{Frame}
use Rattle.csi_types.specs.Model.Replies.{reply_frame}
use Rattle.csi_types.specs.Model.Reply.{is_ok_status}
use Rattle.csi_types.specs.Model.Same.{same_number, same_text}
use Rattle.csi_types.specs.Public.PluginThing.{PluginThing, Exists, Attached, Staged, Published, HasId, AttachedAs, asked}
use Rattle.csi_types.proofs.Equality.{same_number-tells, same_text-tells}
use Rattle.csi_controller.specs.Model.State.{Volume, live_volume, is_held_at, holding_at}
use Rattle.csi_controller.specs.Public.View.{live_named, held_in}
use Rattle.csi_orchestrator.specs.declared.thing.Known.{Known}
use Rattle.csi_orchestrator.specs.declared.thing.Known.TheVariants.{Yes, No, Maybe}
use Rattle.csi_orchestrator.specs.declared.thing.Thing.TheVariants as things
use Rattle.csi_orchestrator.specs.Model.Thing.{Issued, is_no, is_doing, touches}
use Rattle.csi_orchestrator.specs.Model.History.{Held, Item, Accepted}
use Rattle.csi_orchestrator.specs.Model.Readings as readings
use Rattle.csi_orchestrator.specs.Model.Readings.{id_in, id_of, issued_in, has_success, known, last_number, lifetime}
use Rattle.csi_orchestrator.specs.Model.Shown.{NodeEntryShown, RowShown, held_at, mark_in, node_entry_of}
use Rattle.csi_orchestrator.specs.Public.Record.{RecordParts}
use Rattle.csi_world.specs.Model.World.{World}
use Rattle.csi_recovery.specs.Public.Rebuilt.{volume_with, WasAsked}
use Rattle.csi_world.proofs.WorldView.{party_of, view_of}
use Rattle.csi_world.proofs.GivenIds.{GivenId, HasNow, HasOld, HasName, live-named}
use Rattle.csi_world.proofs.CallThings.{IsFor, IsAnsweredOk, Attachment, plugin_thing_at, is_plugin_thing, is_of, is_making, of-thing-at, of_thing}
use Rattle.csi_world.proofs.Lifetimes.{latest, calls_for, calls_since, calls_before, calls-attached, calls-same, find-in_first, lifetime-is, since-or-before, since-sent}
use Rattle.csi_world.proofs.NamedCalls.{own, touches-then-of}
use Rattle.csi_world.proofs.HeardReplies.{id-given, latest-gone, latest-known}
use Rattle.csi_world.proofs.RepliesTold.{asked-doing}
use Rattle.csi_world.proofs.CreatesFirst.{IsKnown, heard-known, known-heard}
use Rattle.csi_world.proofs.NotLive.{exists-named}
use Rattle.csi_world.proofs.Forgotten.{told_by, ended-detached}
use Rattle.csi_world.proofs.KnownThings.{asked-undoing, exists-found, latest-by_name, yes-done}
use Rattle.csi_world.proofs.GuardedCalls.{attached-call, attached-now, held-latest}
use Rattle.csi_world.proofs.HeardNumbers.{up-session}
use Rattle.csi_recovery.proofs.MoreFrames.{IsDead}
use Rattle.csi_recovery.proofs.RecoveredRows.{found-holding, text-self}
use Rattle.csi_recovery.proofs.RebuiltRows.{Rebuilding, holding_so, old, controller, history, given, so_far, rows, parts, shows, orderly, regular, row-id, row-exists, row-attached, row-held, row-there, row-now, named-entry, volume-row, row-volume, holding-row, row-holding}

-- ---- which replies are left out

-- it is the same id, or neither is one
abbrev same_id : Option ℕ → Option ℕ → Bool
same_id None None = true
same_id None (Some b) = false
same_id (Some a) None = false
same_id (Some a) (Some b) = a == b

same_id-tells : (a b : Option ℕ) → same_id a b ≡ true → a ≡ b
same_id-tells a b e = grind (arith, false≢true, Some, eqb-true)

same_id-self : (a b : Option ℕ) → a ≡ b → same_id a b ≡ true
same_id-self a b e = grind (arith, Option, ℕ, None, Some, eq-eqb)

-- the item tells of an OK with this id to the call of this number
abbrev is_told_so : Number → Option ℕ → Item → Bool
is_told_so number id (Accepted other status heard) = same_number other number && is_ok_status status && same_id heard id
is_told_so number id item = false

-- a frame stays, unless it is an OK of the controller that wasn't heard
abbrev stays : List Item → Number → Party → Body → Bool
stays items number Controller (bodies.Call call) = true
stays items number Controller (bodies.Reply kind reply) = not (is_ok_status reply.status) || list_any (is_told_so number reply.id) items
stays items number (Node id) body = true

-- the id that a name has is this
abbrev is_of_id : ℕ → Option ℕ → Bool
is_of_id id None = false
is_of_id id (Some other) = other == id

-- what an OK tells that was heard
pub record WasHeard (items : List Item) (call : Issued) (reply : Reply) : Type 0 where
  pub item : Item
  pub among : IsAmong item items
  pub has_id : id_in call.number item ≡ reply.id
  pub success : has_success items call.number ≡ true

-- by an item
heard-by : (items : List Item) (call : Issued) (reply : Reply) (item : Item) → IsAmong item items → is_told_so call.number reply.id item ≡ true → WasHeard items call reply
heard-by items call reply item among told = grind (arith, parts, and_parts, None, same_id-tells, then-any, false≢true)

-- ---- calls of attachments

-- whose call is for a volume that has the name so
pub attached-has : (has : List ℕ → ℕ → Type 0) (name : List ℕ) (party : Party) (c : Call) (id : ℕ) (node : List ℕ) → IsFor has name party c → is_plugin_thing (Attached id node) (plugin_thing_at name party c) ≡ true → has name id
attached-has has name party c id node own of = grind (arith, false≢true, eqb-true, and_parts, own)

-- it makes no volume
attached-making : (name : List ℕ) (party : Party) (c : Call) (id : ℕ) (node : List ℕ) → is_plugin_thing (Attached id node) (plugin_thing_at name party c) ≡ true → is_making c ≡ false
attached-making name party (calls.CreateVolume create required limit capabilities) id node of = absurd (false≢true of)
attached-making name party c id node of = refl

-- a call that makes a volume is of whether it is there
making-exists : (name : List ℕ) (party : Party) (c : Call) → is_making c ≡ true → is_plugin_thing (Exists name) (plugin_thing_at name party c) ≡ true
making-exists name party (calls.CreateVolume create required limit capabilities) making = text-self name
making-exists name party c making = absurd (false≢true making)

-- ---- what is known

-- what is known to be so isn't known not to be so
yes-no : (known : Known) → known ≡ Yes → known ≡ No → ⊥
yes-no known so gone = clash (sym so ∙ gone)
  where
    clash : Yes ≡ No → ⊥
    clash e = cc

-- what may be so isn't known not to be so
maybe-not : (known : Known) → is_no known ≡ false → known ≡ No → ⊥
maybe-not known maybe gone = false≢true (sym maybe ∙ ap is_no gone)

module _ (r : Rebuilding) where
  -- what the orchestrator did
  abbrev pub items : List Item
  items = (history r).items

  -- the frames that stay
  abbrev pub frames : List Frame
  frames = filter (λ frame. stays items frame.number frame.party frame.body) (old r).frames

  -- the world with the new controller, and these frames
  abbrev pub next : World
  next = record (old r) { controller = controller r; frames = frames }

  -- a frame that stays was there
  pub was-there : (frame : Frame) → IsAmong frame frames → IsAmong frame (old r).frames
  was-there frame among = (among-kept (λ (f : Frame). stays items f.number f.party f.body) (old r).frames frame among).0

  -- each of a node's stays
  pub node-stays : (frame : Frame) (node : List ℕ) → frame.party ≡ Node node → IsAmong frame (old r).frames → IsAmong frame frames
  node-stays frame node is there = in_filter (λ (f : Frame). stays items f.number f.party f.body) (old r).frames frame there (ap (λ p. stays items frame.number p frame.body) is)

  -- the session of the last number is earlier than the controller's
  pub last-earlier : (last_number (history r)).session < (controller r).session
  last-earlier =
      let kept : r.may.kept.session ≡ (parts r).last.session = ap (λ (k : RecordParts). k.session) r.may.of_orchestrator.is in
      let last : (parts r).last.session ≡ (last_number (history r)).session = ap (λ (n : Number). n.session) (shows r).same_last in
      let later = r.may.later in
      omega (arith, kept, last, later)

  -- and than the one that begins
  pub begins-later : (last_number (history r)).session < r.session
  begins-later = let earlier = last-earlier in let begins = r.may.begins in omega (arith, earlier, begins)

  -- each call is of no later session
  pub issued-low : (call : Issued) → IsAmong call (issued_in items) → call.number.session ≤ (last_number (history r)).session
  issued-low call among = up-session (last_number (history r)) call.number (r.right.last call among)

  -- so is each reply
  reply-low : (number : Number) (party : Party) (kind : Kind) (reply : Reply) → IsAmong (reply_frame number party kind reply) (old r).frames → number.session ≤ (last_number (history r)).session
  reply-low number party kind reply among =
      ⊎_elim (λ sent. subst (λ (n : Number). n.session ≤ (last_number (history r)).session) sent.has_number (issued-low sent.call sent.among))
      (λ low. up number.session (so_far r).floor (last_number (history r)).session low r.right.good.floor.last) ((so_far r).truth.replies number party kind reply among)
    where
      up : (a b c : ℕ) → a < b → b ≤ c → a ≤ c
      up a b c less more = omega (arith, less, more)

  -- a frame that was there stays, or nobody takes it any more
  pub fewer : (frame : Frame) → IsAmong frame (old r).frames → IsAmong frame frames ⊎ IsDead r.session frame
  fewer frame among = by frame.party frame.body refl refl (stays items frame.number frame.party frame.body) refl
    where
      dead : (kind : Kind) (reply : Reply) → frame.party ≡ Controller → frame.body ≡ bodies.Reply kind reply → IsDead r.session frame
      dead kind reply party body =
          let same : frame ≡ reply_frame frame.number Controller kind reply = λ i. record { number = frame.number; party = party i; body = body i } in
          let low = reply-low frame.number Controller kind reply (subst (λ (f : Frame). IsAmong f (old r).frames) same among) in
          let later = begins-later in
          record { kind = kind; reply = reply; is = body; earlier = omega (arith, low, later) }

      kept : stays items frame.number frame.party frame.body ≡ true → IsAmong frame frames
      kept passes = in_filter (λ (f : Frame). stays items f.number f.party f.body) (old r).frames frame among passes

      by : (party : Party) (body : Body) → frame.party ≡ party → frame.body ≡ body → (b : Bool) → stays items frame.number frame.party frame.body ≡ b → IsAmong frame frames ⊎ IsDead r.session frame
      by party body its is true passes = inl (kept passes)
      by Controller (bodies.Reply kind reply) its is false fails = inr (dead kind reply its is)
      by Controller (bodies.Call call) its is false fails = absurd (true≢false (sym (λ i. stays items frame.number (its i) (is i)) ∙ fails))
      by (Node id) body its is false fails = absurd (true≢false (sym (λ i. stays items frame.number (its i) (is i)) ∙ fails))

  -- an OK of the controller that stays was heard
  pub was-heard : (call : Issued) (reply : Reply) → call.party ≡ Controller → IsAnsweredOk frames call reply → WasHeard items call reply
  was-heard call reply party ok =
      let passes = (among-kept (λ (f : Frame). stays items f.number f.party f.body) (old r).frames _ ok.0).1 in
      let either : (not (is_ok_status reply.status) || list_any (is_told_so call.number reply.id) items) ≡ true = ap (λ p. stays items call.number p (bodies.Reply (kind_of call.call) reply)) (sym party) ∙ passes in
      let told = ⊎_elim (λ refused. absurd (false≢true (sym (ap not (ap is_ok_status ok.1)) ∙ refused))) (λ any. any) (or_cases (not (is_ok_status reply.status)) (list_any (is_told_so call.number reply.id) items) either) in
      let found = any-then (is_told_so call.number reply.id) items told in
      heard-by items call reply found.0 found.1 found.2

  -- a reply that was heard stays
  pub heard-stays : (number : Number) (status : Status) (id : Option ℕ) → IsAmong (Accepted number status id) items → (call : Issued) (reply : Reply) → call.number ≡ number → reply.status ≡ status → reply.id ≡ id
      → IsAmong (reply_frame call.number call.party (kind_of call.call) reply) (old r).frames → IsAmong (reply_frame call.number call.party (kind_of call.call) reply) frames
  heard-stays number status id among call reply its_number its_status its_id there =
      in_filter (λ (f : Frame). stays items f.number f.party f.body) (old r).frames _ there (by call.party)
    where
      told : is_ok_status reply.status ≡ true → list_any (is_told_so call.number reply.id) items ≡ true
      told ok =
          then-any (is_told_so call.number reply.id) items (Accepted number status id) among
          (and_from (same_number number call.number && is_ok_status status) (same_id id reply.id)
          (and_from (same_number number call.number) (is_ok_status status) ((same_number-tells number call.number).1 (sym its_number)) (ap is_ok_status (sym its_status) ∙ ok)) (same_id-self id reply.id (sym its_id)))

      at : (b : Bool) → is_ok_status reply.status ≡ b → (not b || list_any (is_told_so call.number reply.id) items) ≡ true
      at false e = refl
      at true e = told e

      by : (party : Party) → stays items call.number party (bodies.Reply (kind_of call.call) reply) ≡ true
      by Controller = at (is_ok_status reply.status) refl
      by (Node id) = refl

  -- ---- ids

  -- the id was heard, where it is its name's now
  abbrev is_heard : GivenId → Bool
  is_heard one = not one.now || is_of_id one.id (id_of (history r) one.name)

  -- the ids that were given, without those of which nobody heard
  abbrev pub ids : List GivenId
  ids = filter is_heard (given r)

  -- an id that a name has now was given, and was heard
  pub now-heard : (name : List ℕ) (id : ℕ) → HasNow ids name id → HasNow (given r) name id × (id_of (history r) name ≡ Some id)
  now-heard name id has = let kept = among-kept is_heard (given r) _ has in (kept.0, by (id_of (history r) name) kept.1)
    where
      by : (o : Option ℕ) → is_of_id id o ≡ true → o ≡ Some id
      by None e = absurd (false≢true e)
      by (Some other) e = ap Some (eqb-true other id e)

  -- and the other way round
  pub heard-now : (name : List ℕ) (id : ℕ) → HasNow (given r) name id → id_of (history r) name ≡ Some id → HasNow ids name id
  heard-now name id has is = in_filter is_heard (given r) _ has (ap (is_of_id id) is ∙ eq-eqb id id refl)

  -- those of forgotten names are the same
  pub old-had : (name : List ℕ) (id : ℕ) → HasOld ids name id → HasOld (given r) name id
  old-had name id had = (among-kept is_heard (given r) _ had).0

  pub had-old : (name : List ℕ) (id : ℕ) → HasOld (given r) name id → HasOld ids name id
  had-old name id had = in_filter is_heard (given r) _ had refl

  -- so each was given
  pub name-had : (name : List ℕ) (id : ℕ) → HasName ids name id → HasName (given r) name id
  name-had name id has = ⊎_elim (λ now. inl (now-heard name id now).0) (λ had. inr (old-had name id had)) has

  -- the id that a name has now is the one that was heard, if one was
  pub known-now : (name : List ℕ) (id : ℕ) → HasNow (given r) name id → IsKnown items name → HasNow ids name id
  known-now name id has known = by (id_of (history r) name) refl
    where
      by : (o : Option ℕ) → id_of (history r) name ≡ o → HasNow ids name id
      by None e = absurd (known-heard (history r) name known e)
      by (Some other) e =
          let also = id-given (history r) (old r).frames (given r) name other (so_far r).heard (so_far r).truth.numbers (so_far r).named e in
          heard-now name id has (e ∙ ap Some ((so_far r).are_given.one_id name other id also has))

  -- a row's id is one that its name has now
  pub row-heard : (row : RowShown) (id : ℕ) → IsAmong row (rows r) → row.id ≡ Some id → HasNow ids row.name id
  row-heard row id among has = heard-now row.name id (row-now r row id among has) (row-id r row among ∙ has)

  -- ---- volumes

  -- a volume that is there is known not not to be
  pub volume-known : (volume : Volume) → IsAmong volume (controller r).volumes → known (history r) (things.Exists volume.name) ≡ No → ⊥
  volume-known volume among gone =
      let of = volume-row r volume among in
      let named : volume.name ≡ (of.0).name = ap (λ (v : Volume). v.name) of.2.is in
      maybe-not (of.0).exists of.2.maybe (sym (row-exists r of.0 of.1) ∙ ap (λ n. known (history r) (things.Exists n)) (sym named) ∙ gone)

  -- and has an id that was heard
  pub volume-heard : (volume : Volume) → IsAmong volume (controller r).volumes → HasNow ids volume.name volume.id
  volume-heard volume among =
      let of = volume-row r volume among in
      subst (λ n. HasNow ids n volume.id) (sym (ap (λ (v : Volume). v.name) of.2.is)) (row-heard of.0 volume.id of.1 of.2.has_id)

  -- what is found by a name is among them, and has it
  pub live-found : (name : List ℕ) (volume : Volume) → live_named name (controller r) ≡ Some volume → IsAmong volume (controller r).volumes × (volume.name ≡ name)
  live-found name volume found =
      let test : Volume → Bool = λ v. same_text v.name name && v.is_live in
      (among-find test (controller r).volumes volume found, (same_text-tells volume.name name).0 (and_parts (same_text volume.name name) volume.is_live (find-passes test (controller r).volumes volume found)).0)

  -- a volume that is known to be there is there
  made-found : (name : List ℕ) (id : ℕ) → known (history r) (things.Exists name) ≡ Yes → id_of (history r) name ≡ Some id → held_in (controller r) (Exists name) ≡ Some (HasId id)
  made-found name id so has =
      let of = row-there r (things.Exists name) (yes-no (known (history r) (things.Exists name)) so) in
      let row : RowShown = of.0 in
      let its_id : row.id ≡ Some id = sym (row-id r row of.1) ∙ ap (id_of (history r)) of.2 ∙ has in
      let exists : row.exists ≡ Yes = sym (row-exists r row of.1) ∙ ap (λ n. known (history r) (things.Exists n)) of.2 ∙ so in
      let there = row-volume r row id of.1 its_id (ap is_no exists) in
      let found : live_named row.name (controller r) ≡ Some (volume_with id row) = live-named (controller r) (volume_with id row) (orderly r (volume_with id row) there).by_name refl in
      ap (option_map (λ (v : Volume). HasId v.id)) (ap (λ n. live_named n (controller r)) (sym of.2) ∙ found)

  -- one that is known not to be isn't
  gone-missed : (name : List ℕ) → known (history r) (things.Exists name) ≡ No → held_in (controller r) (Exists name) ≡ None
  gone-missed name gone =
      ap (option_map (λ (v : Volume). HasId v.id)) (none-where (live_named name (controller r)) (λ volume found.
      let of = live-found name volume found in volume-known volume of.0 (ap (λ n. known (history r) (things.Exists n)) of.1 ∙ gone)))

  -- ---- attachments

  -- a holding that is there has its row and its entry, and isn't known not to be
  pub record IsHeldBy (id : ℕ) (node : List ℕ) : Type 0 where
    pub row : RowShown
    pub there : IsAmong row (rows r)
    pub has_id : row.id ≡ Some id
    pub entry : NodeEntryShown
    pub among : IsAmong entry row.node_entries
    pub at_node : entry.node ≡ node
    pub mark : known (history r) (things.Attached row.name node) ≡ entry.attached
    pub maybe : known (history r) (things.Attached row.name node) ≡ No → ⊥

  pub held-by : (id : ℕ) (node : List ℕ) (holding : Holding) → holding_at id node (controller r) ≡ Some holding → IsHeldBy id node
  held-by id node holding found =
      let passes = and_parts (holding.volume == id) (same_text holding.node node) (find-passes (is_held_at id node) (controller r).holdings holding found) in
      let of = holding-row r holding (among-find (is_held_at id node) (controller r).holdings holding found) in
      let at : (of.2.entry).node ≡ node = sym (ap (λ (h : Holding). h.node) of.2.is) ∙ (same_text-tells holding.node node).0 passes.1 in
      let mark : known (history r) (things.Attached (of.0).name node) ≡ (of.2.entry).attached
      = ap (λ n. known (history r) (things.Attached (of.0).name n)) (sym at) ∙ row-attached r of.0 (of.2.entry).node of.1
      ∙ ap (mark_in (λ (e : NodeEntryShown). e.attached)) (named-entry r of.0 of.2.entry of.1 of.2.among) in
      record {
        row = of.0;
        there = of.1;
        has_id = of.2.has_id ∙ ap Some (eqb-true holding.volume id passes.0);
        entry = of.2.entry;
        among = of.2.among;
        at_node = at;
        mark = mark;
        maybe = λ gone. maybe-not (of.2.entry).attached of.2.maybe (sym mark ∙ gone);
      }

  -- what is known to be attached so is held so
  attached-found : (name node : List ℕ) (id : ℕ) (here : Held) → known (history r) (things.Attached name node) ≡ Yes → id_of (history r) name ≡ Some id
      → ((row : RowShown) → IsAmong row (rows r) → row.name ≡ name → (entry : NodeEntryShown) → node_entry_of row node ≡ Some entry → here ≡ held_at entry)
      → held_in (controller r) (Attached id node) ≡ Some (AttachedAs here.capability here.readonly)
  attached-found name node id here so has held =
      let of = row-there r (things.Attached name node) (yes-no (known (history r) (things.Attached name node)) so) in
      by of.0 of.1 of.2 (node_entry_of of.0 node) refl
    where
      by : (row : RowShown) → IsAmong row (rows r) → row.name ≡ name → (o : Option NodeEntryShown) → node_entry_of row node ≡ o → held_in (controller r) (Attached id node) ≡ Some (AttachedAs here.capability here.readonly)
      by row there same None e =
          absurd (yes-no (known (history r) (things.Attached name node)) so
          (ap (λ n. known (history r) (things.Attached n node)) (sym same) ∙ row-attached r row node there ∙ ap (mark_in (λ (x : NodeEntryShown). x.attached)) e))
      by row there same (Some entry) e =
          let among = among-find (λ (x : NodeEntryShown). same_text x.node node) row.node_entries entry e in
          let at : entry.node ≡ node = (same_text-tells entry.node node).0 (find-passes (λ (x : NodeEntryShown). same_text x.node node) row.node_entries entry e) in
          let attached : entry.attached ≡ Yes = sym (ap (mark_in (λ (x : NodeEntryShown). x.attached)) e) ∙ sym (row-attached r row node there) ∙ ap (λ n. known (history r) (things.Attached n node)) same ∙ so in
          let its_id : row.id ≡ Some id = sym (row-id r row there) ∙ ap (id_of (history r)) same ∙ has in
          let held_there = row-holding r row entry id there among its_id (ap is_no attached) in
          let found : holding_at id entry.node (controller r) ≡ Some (holding_so id entry) = found-holding (controller r) [] (orderly r) (regular r).exclusive.exclusive (holding_so id entry) held_there in
          let one : here ≡ held_at entry = held row there same entry e in
          ap (option_map (λ (h : Holding). AttachedAs h.capability h.readonly)) (ap (λ n. holding_at id n (controller r)) (sym at) ∙ found) ∙ ap (λ (h : Held). Some (AttachedAs h.capability h.readonly)) (sym one)

  -- ---- what was done and heard is so

  -- each call is for a volume of its name
  its-own : (call : Issued) → IsAmong call (issued_in items) → IsFor (HasName (given r)) call.name call.party call.call
  its-own call among = own items (old r).frames (given r) (so_far r).named call among

  -- the plugin of a call's thing is its own
  its-party : (call : Issued) (k : PluginThing) → IsAmong call (issued_in items) → is_of k call ≡ true → call.party ≡ party_of k
  its-party call k among of =
      let its = of_thing (HasName (given r)) call.name call.party call.call (its-own call among) in
      sym its.of_party ∙ ap party_of (same_Some its.plugin_thing k (sym its.by_name ∙ of-thing-at k call of))

  -- a CreateVolume that was answered OK and heard gave its name the id that it has
  pub made-now : (call : Issued) (reply : Reply) (id : ℕ) (create : List ℕ) (required limit : ℕ) (capabilities : List Capability) → IsAmong call (calls_since (Exists call.name) items)
      → call.call ≡ calls.CreateVolume create required limit capabilities → IsAnsweredOk frames call reply → reply.id ≡ Some id → HasNow ids call.name id
  made-now call reply id create required limit capabilities here is ok some =
      let of : is_of (Exists call.name) call ≡ true = making-exists call.name call.party call.call (ap is_making is) in
      let heard = was-heard call reply (its-party call (Exists call.name) (since-sent (Exists call.name) items call here) of) ok in
      let known : IsKnown items call.name = record { call = call; item = heard.item; id = id; among = here; of_name = refl; makes = ap is_making is; told = heard.among; has_id = heard.has_id ∙ some } in
      known-now call.name id ((so_far r).named.made call reply id create required limit capabilities here is (was-there _ ok.0, ok.1) some) known

  -- of whether a volume is there
  exists-told : (name : List ℕ) (call : Issued) (reply : Reply) → latest items (Exists name) ≡ Some call → IsAnsweredOk frames call reply → held_in (controller r) (Exists name) ≡ asked call.call reply
  exists-told name call reply is ok = by call.party call.call refl of
    where
      sent : IsAmong call (issued_in items)
      sent = ((so_far r).truth.found (Exists name) call is).0

      of : is_of (Exists name) call ≡ true
      of = ((so_far r).truth.found (Exists name) call is).1

      named : call.name ≡ name
      named = exists-named name call.name call.party call.call of

      heard : WasHeard items call reply
      heard = was-heard call reply (its-party call (Exists name) sent of) ok

      here : IsAmong call (calls_since (Exists name) items)
      here = among-find (is_of (Exists name)) (calls_since (Exists name) items) call is

      by_name : find (touches (things.Exists name)) (calls_for (things.Exists name) items) ≡ Some call
      by_name = exists-found (history r) (old r).frames (told_by (given r) (old r)) (given r) (so_far r) name ∙ find-in_first (is_of (Exists name)) (calls_since (Exists name) items) (calls_before (Exists name) items) call is

      made : (create : List ℕ) (required limit : ℕ) (capabilities : List Capability) → call.call ≡ calls.CreateVolume create required limit capabilities → (o : Option ℕ) → reply.id ≡ o
          → held_in (controller r) (Exists name) ≡ option_map HasId reply.id
      made create required limit capabilities e None none =
          let rule = (so_far r).truth.ids call.number call.party (kind_of call.call) reply (was-there _ ok.0) ok.1 in
          absurd (false≢true (sym (ap (λ c. is_some (asked c reply)) e ∙ ap (λ o. is_some (option_map HasId o)) none) ∙ asked-doing call.call reply (ap is_doing e) ok.1 rule))
      made create required limit capabilities e (Some id) some =
          let has : HasNow ids name id
          = subst (λ n. HasNow ids n id) named (made-now call reply id create required limit capabilities (subst (λ n. IsAmong call (calls_since (Exists n) items)) (sym named) here) e ok some) in
          let so = latest-known (history r) (things.Exists name) call (record { found = by_name; success = heard.success; is_so = ap is_doing e }) in
          made-found name id so (now-heard name id has).1 ∙ ap (option_map HasId) (sym some)

      by : (party : Party) (c : Call) → call.call ≡ c → is_plugin_thing (Exists name) (plugin_thing_at call.name party c) ≡ true → held_in (controller r) (Exists name) ≡ asked c reply
      by party (calls.CreateVolume create required limit capabilities) e its = made create required limit capabilities e reply.id refl
      by party (calls.DeleteVolume id) e its = gone-missed name (latest-gone (history r) (things.Exists name) call (record { found = by_name; success = heard.success; is_so = ap is_doing e }))
      by party (calls.ControllerPublishVolume id node capability readonly) e its = absurd (false≢true its)
      by party (calls.ControllerUnpublishVolume id node) e its = absurd (false≢true its)
      by (Node at) (calls.NodeStageVolume id capability) e its = absurd (false≢true its)
      by (Node at) (calls.NodeUnstageVolume id) e its = absurd (false≢true its)
      by (Node at) (calls.NodePublishVolume id target capability readonly) e its = absurd (false≢true its)
      by (Node at) (calls.NodeUnpublishVolume id target) e its = absurd (false≢true its)
      by Controller c e its = absurd (false≢true its)

  -- of an attachment
  attached-told : ((name : List ℕ) (id : ℕ) → HasOld ids name id → live_volume id (controller r) ≡ None) → (id : ℕ) (node : List ℕ) (call : Issued) (reply : Reply) → latest items (Attached id node) ≡ Some call → IsAnsweredOk frames call reply
      → held_in (controller r) (Attached id node) ≡ asked call.call reply
  attached-told ended id node call reply is ok = ⊎_elim now before (attached-has (HasName (given r)) call.name call.party call.call id node (its-own call sent) of)
    where
      sent : IsAmong call (issued_in items)
      sent = ((so_far r).truth.found (Attached id node) call is).0

      of : is_of (Attached id node) call ≡ true
      of = ((so_far r).truth.found (Attached id node) call is).1

      heard : WasHeard items call reply
      heard = was-heard call reply (its-party call (Attached id node) sent of) ok

      before : HasOld (given r) call.name id → held_in (controller r) (Attached id node) ≡ asked call.call reply
      before had =
          ended-detached next id node (regular r).exclusive.attached_while_live (ended call.name id (had-old call.name id had))
          ∙ sym (ended-detached (old r) id node r.right.good.reached.controller.exclusive.attached_while_live (r.right.good.well.of_controller.ended call.name id had))
          ∙ (so_far r).truth.told call (Attached id node) reply is (was-there _ ok.0, ok.1)

      now : HasNow (given r) call.name id → held_in (controller r) (Attached id node) ≡ asked call.call reply
      now has = by (is_doing call.call) refl
        where
          since : IsAmong call (calls_since (Exists call.name) items)
          since =
              ⊎_elim (λ here. here)
              (λ earlier. absurd ((so_far r).are_given.apart call.name id has (attached-has (HasOld (given r)) call.name call.party call.call id node ((so_far r).named.own_old call earlier) of)))
              (since-or-before (Exists call.name) items call sent)

          its_id : id_of (history r) call.name ≡ Some id
          its_id = (now-heard call.name id (known-now call.name id has (r.right.good.well.creates.known call since (attached-making call.name call.party call.call id node of)))).1

          by_name : find (touches (things.Attached call.name node)) (calls_for (things.Attached call.name node) items) ≡ Some call
          by_name =
              latest-by_name (history r) (old r).frames (told_by (given r) (old r)) (given r) (so_far r) (things.Attached call.name node) (Attached id node) (Attachment call.name node id has) refl call is

          by : (b : Bool) → is_doing call.call ≡ b → held_in (controller r) (Attached id node) ≡ asked call.call reply
          by true doing =
              let publishes = attached-call call.name call.party call.call id node of doing in
              let so = latest-known (history r) (things.Attached call.name node) call (record { found = by_name; success = heard.success; is_so = doing }) in
              let all : find (touches (things.Attached call.name node)) (issued_in items) ≡ Some call = ap (find (touches (things.Attached call.name node))) (sym (calls-attached call.name node items)) ∙ by_name in
              let held_so = held-latest call.name node id call publishes.0 (issued_in items) publishes.1 all in
              attached-found call.name node id publishes.0 so its_id
              (λ row there same entry e.
              same_Some publishes.0 (held_at entry)
              (sym held_so ∙ ap (λ n. readings.held (history r) n node) (sym same)
              ∙ sym (row-held r row node there (λ gone. yes-no (known (history r) (things.Attached call.name node)) so (ap (λ n. known (history r) (things.Attached n node)) (sym same) ∙ gone))) ∙ ap (option_map held_at) e))
              ∙ ap (λ c. asked c reply) (sym publishes.1)
          by false undoing =
              let gone = latest-gone (history r) (things.Attached call.name node) call (record { found = by_name; success = heard.success; is_so = undoing }) in
              ap (option_map (λ (h : Holding). AttachedAs h.capability h.readonly)) (none-where (holding_at id node (controller r)) (λ holding found.
              let by = held-by id node holding found in
              let same : (by.row).name ≡ call.name = (so_far r).are_given.one_name (by.row).name call.name id (inl (row-now r by.row id by.there by.has_id)) (inl has) in
              by.maybe (ap (λ n. known (history r) (things.Attached n node)) same ∙ gone)))
              ∙ sym (asked-undoing call.call reply undoing)

  -- so it is of both
  pub told-so : ((name : List ℕ) (id : ℕ) → HasOld ids name id → live_volume id (controller r) ≡ None) → (k : PluginThing) (call : Issued) (reply : Reply) → party_of k ≡ Controller → latest items k ≡ Some call → IsAnsweredOk frames call reply
      → (view_of next).held k ≡ asked call.call reply
  told-so ended (Exists name) call reply its is ok = exists-told name call reply is ok
  told-so ended (Attached id node) call reply its is ok = attached-told ended id node call reply is ok
  told-so ended (Staged id node) call reply its is ok = absurd (no-node its)
    where
      no-node : Node node ≡ Controller → ⊥
      no-node e = cc
  told-so ended (Published id node target) call reply its is ok = absurd (no-node its)
    where
      no-node : Node node ≡ Controller → ⊥
      no-node e = cc

  -- ---- of what is there a call was sent

  -- whether a volume is there
  exists-sent : (name : List ℕ) → latest items (Exists name) ≡ None → held_in (controller r) (Exists name) ≡ None
  exists-sent name none =
      ap (option_map (λ (v : Volume). HasId v.id)) (none-where (live_named name (controller r)) (λ volume found.
      let of = live-found name volume found in
      let known = heard-known (history r) name volume.id (ap (id_of (history r)) (sym of.1) ∙ (now-heard volume.name volume.id (volume-heard volume of.0)).1) in
      let fails = none_passes (is_of (Exists name)) (calls_since (Exists name) items) known.call none known.among in
      false≢true (sym fails ∙ ap (λ n. is_plugin_thing (Exists n) (plugin_thing_at (known.call).name (known.call).party (known.call).call)) (sym known.of_name)
      ∙ making-exists (known.call).name (known.call).party (known.call).call known.makes)))

  -- an attachment
  attached-sent : (id : ℕ) (node : List ℕ) → latest items (Attached id node) ≡ None → held_in (controller r) (Attached id node) ≡ None
  attached-sent id node none =
      ap (option_map (λ (h : Holding). AttachedAs h.capability h.readonly)) (none-where (holding_at id node (controller r)) (λ holding found.
      let held = held-by id node holding found in by held (known (history r) (things.Attached (held.row).name node)) refl))
    where
      -- a call of it was sent since the volume's name was last forgotten
      asked-for : (held : IsHeldBy id node) → WasAsked (history r) (held.row).name (held.entry).node → ⊥
      asked-for held asked =
          let name : List ℕ = (held.row).name in
          let has : HasNow (given r) name id = row-now r held.row id held.there held.has_id in
          let kept = among-kept (λ (issued : Issued). same_text issued.name name) (issued_in (lifetime name items)) asked.call asked.among in
          let same : (asked.call).name ≡ name = (same_text-tells (asked.call).name name).0 kept.1 in
          let since : IsAmong asked.call (calls_since (Exists name) items) = subst (λ (xs : List Item). IsAmong asked.call (issued_in xs)) (lifetime-is name items) kept.0 in
          let own_now = (so_far r).named.own_now asked.call (subst (λ n. IsAmong asked.call (calls_since (Exists n) items)) (sym same) since) in
          let touches_it : touches (things.Attached name node) asked.call ≡ true = ap (λ n. touches (things.Attached name n) asked.call) (sym held.at_node) ∙ asked.of_attachment in
          let of = touches-then-of (given r) (things.Attached name node) (Attached id node) asked.call (so_far r).are_given (Attachment name node id has) own_now touches_it in
          let all : calls_since (Attached id node) items ≡ issued_in items
          = sym (calls-same {has = HasNow (given r)} (things.Attached name node) (Attached id node) items (Attachment name node id has) (λ other e. clash other e)) ∙ calls-attached name node items in
          let there : IsAmong asked.call (calls_since (Attached id node) items) = subst (IsAmong asked.call) (sym all) (since-sent (Exists name) items asked.call since) in
          false≢true (sym (none_passes (is_of (Attached id node)) (calls_since (Attached id node) items) asked.call none there) ∙ of)
        where
          clash : {name : List ℕ} (other : List ℕ) → things.Attached name node ≡ things.Exists other → ⊥
          clash other e = cc

      -- no volume is attached that was deleted before its name was forgotten
      detached : (name : List ℕ) (i : ℕ) (at : List ℕ) → HasOld (given r) name i → (told_by (given r) (old r)).held (Attached i at) ≡ None
      detached name i at had = ended-detached (old r) i at r.right.good.reached.controller.exclusive.attached_while_live (r.right.good.well.of_controller.ended name i had)

      by : (held : IsHeldBy id node) (mark : Known) → known (history r) (things.Attached (held.row).name node) ≡ mark → ⊥
      by held No e = held.maybe e
      by held Yes e =
          let done = yes-done (history r) (old r).frames (told_by (given r) (old r)) (given r) (so_far r) (things.Attached (held.row).name node) e in
          none-some done.call
          (sym none
          ∙ attached-now (history r) (old r).frames (told_by (given r) (old r)) (given r) (so_far r) detached (held.row).name node id (row-now r held.row id held.there held.has_id) done)
      by held Maybe e = asked-for held (r.may.of_orchestrator.asked held.row held.entry held.there held.among (sym held.mark ∙ e))

  -- so it is of both
  pub sent-so : (k : PluginThing) → party_of k ≡ Controller → latest items k ≡ None → (view_of next).held k ≡ None
  sent-so (Exists name) its none = exists-sent name none
  sent-so (Attached id node) its none = attached-sent id node none
  sent-so (Staged id node) its none = absurd (no-node its)
    where
      no-node : Node node ≡ Controller → ⊥
      no-node e = cc
  sent-so (Published id node target) its none = absurd (no-node its)
    where
      no-node : Node node ≡ Controller → ⊥
      no-node e = cc
