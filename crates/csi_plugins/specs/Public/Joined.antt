-- Two runs of a plugin over one store, one after another, each by a process of its own, however each ended, as one run; and three. This
-- profile's own.
use Rattle.std.specs.Prelude.{◌≡◌, ◌⊎◌, ℕ, ◌+◌, List, [], ◌∷◌, ◌++◌, length, take, Option, Some}
use Rattle.csi_types.specs.Model.Frame.{Frame}
use Rattle.csi_types.specs.Model.Config.{Config}
use Rattle.csi_controller.specs.Public.Views.{RecordParts}
use Rattle.csi_node.specs.Model.Record.{NodeParts}
use Rattle.csi_stores.specs.Public.Counting.{HasRisen}
use Rattle.csi_stores.specs.declared.counted.Counted.{Counted}
use Rattle.csi_stores.specs.declared.keep.KeepFault.{KeepFault}
use Rattle.csi_stores.specs.declared.keep.KeepFault.TheVariants as faults
use Rattle.csi_stores.specs.Public.Part.{StoredPart}
use Rattle.csi_stores.specs.Public.Stores.{Store, Found, IsOnly}
use Rattle.csi_records.specs.Public.Spelling.{present, controller_head}
use Rattle.csi_service.specs.Public.Serving.{frames_counted}
use Rattle.csi_service.specs.Public.Opening.{Records, controller_records, node_records, OpensTo}
use Rattle.csi_service.specs.Public.NodeOpening.{joined_head}
use Rattle.csi_service.specs.Public.Services.{ControllerService, controller_service_parts, NodeService, node_service_parts}
use Rattle.csi_streams.specs.declared.ending.Ending.{Ending}
use Rattle.csi_plugins.specs.declared.kind.AskedPlugin.{AskedPlugin}
use Rattle.csi_plugins.specs.declared.kind.AskedPlugin.TheVariants.{Controller, Node}
use Rattle.csi_plugins.specs.Public.Ending.{ending_of_store}
use Rattle.csi_plugins.specs.Public.Service.{Streams, streams}
use Rattle.csi_plugins.specs.Public.Serving.{IsControllerUnder, ControllerServes, IsNodeJoined, NodeServes}
use Rattle.csi_plugins.specs.Public.Running.{IsOpened, PluginRuns}

-- ---- a run

-- a process over a store: the store, the reader and the writer before and after, and how it ended
pub record Process (K R W : Type 0) : Type 0 where
  pub before : K
  pub after : K
  pub reader : Counted R
  pub read : Counted R
  pub writer : Counted W
  pub written : Counted W
  pub ending : Ending

-- how its store, its reader and its writer are seen
pub record Sight (K R W : Type 0) : Type 1 where
  pub seen : K → Store
  pub remaining : R → Option (List ℕ)
  pub contents : W → Option (List ℕ)

-- what is told of its reader and its writer
abbrev pub io_of : {K R W : Type 0} → Sight K R W → Process K R W → Streams
io_of sight run = streams sight.remaining sight.contents run.reader run.read run.writer run.written

-- How a plugin is served: what its records are, which cores are as it was asked for, how they answer and which parts they have, and the head
-- that an empty store gets.
pub record Way (X C : Type 0) : Type 1 where
  pub records : Records X
  pub is_asked : C → Type 0
  pub answers : C → Frame → Option Frame → C → Type 0
  pub parts_of : C → List StoredPart
  pub head : StoredPart

-- the controller, under this configuration
abbrev pub controller_way : Config → Way RecordParts ControllerService
controller_way config = record {
  records = controller_records;
  is_asked = IsControllerUnder config;
  answers = ControllerServes;
  parts_of = controller_service_parts;
  head = controller_head present 1 (Some 0);
}

-- the node of this id, which joined with this session
abbrev pub node_way : List ℕ → ℕ → Way NodeParts NodeService
node_way id session = record {
  records = node_records id;
  is_asked = IsNodeJoined id session;
  answers = NodeServes;
  parts_of = node_service_parts;
  head = joined_head id session;
}

-- it was opened from the store, and served
abbrev pub Opened : {X C K R W : Type 0} → Way X C → Sight K R W → Process K R W → Type 0
Opened way sight run = IsOpened sight.seen way.records way.is_asked way.answers way.parts_of run.before run.after way.head (io_of sight run) run.ending

-- so it was with the plugin that was asked for
abbrev pub PluginOpened : {K R W : Type 0} → Sight K R W → AskedPlugin → Process K R W → Type 0
PluginOpened sight (Controller config) run = Opened (controller_way config) sight run
PluginOpened sight (Node id session) run = Opened (node_way id session) sight run

-- it ran: it was opened, or not, as its contract says
abbrev pub PluginRan : {K R W : Type 0} → Sight K R W → AskedPlugin → Process K R W → Type 0
PluginRan sight asked run = PluginRuns sight.seen asked run.before run.after (io_of sight run) run.ending

-- ---- the second run begins with what the first left

-- What the file system does between two processes: the second one opens one of the contents that the first may have left, and its store has
-- that alone.
abbrev pub Reopens : Store → Store → Type 0
Reopens left now = (found : Found) × left.leaves found × IsOnly now found

-- How many frames left their mark in the store: those that are counted; or also those that were answered behind them, all of them, where
-- their commit was refused.
abbrev pub AreMade : ℕ → List Frame → ℕ → Type 0
AreMade counted group made = (made ≡ counted) ⊎ (made ≡ counted + length group)

-- From one core to another, frame after frame, where before each frame the plugin may have been opened again: the core that answers
-- is one as it was asked for, with the parts of the core before.
abbrev pub RunsAgain : {C : Type 0} → (C → Type 0) → (C → Frame → Option Frame → C → Type 0) → (C → List StoredPart) → C → List Frame → List (Option Frame) → C → Type 0
RunsAgain IsAsked answers parts_of core [] [] now = parts_of now ≡ parts_of core
RunsAgain IsAsked answers parts_of core [] (reply ∷ replies) now = ⊥
RunsAgain IsAsked answers parts_of core (frame ∷ frames) [] now = ⊥
RunsAgain {C} IsAsked answers parts_of core (frame ∷ frames) (reply ∷ replies) now =
    (same : C) × IsAsked same × (parts_of same ≡ parts_of core) × (next : C) × answers same frame reply next × RunsAgain IsAsked answers parts_of next frames replies now

-- Both are one run, from a store with this content, in which a head is put first where it has no part, and a record in an earlier
-- version is put in the present one. The first frames of the first input, as many as left their mark, led to a core, whose parts the second
-- run found: so the second and a third are one run likewise, from these parts. And the run is that of these frames, and then of those that are
-- counted of the second input. The replies are those of both runs, and of frames whose commit was refused.
pub record AreOneRun {X C K L R W : Type 0} (way : Way X C) (sight : Sight K R W) (sight_too : Sight L R W) (content : List StoredPart) (first : Process K R W) (second : Process L R W)
    (one : Opened way sight first) (two : Opened way sight_too second) : Type 0 where
  pub opened : OpensTo way.records way.head content (way.parts_of one.core)
  pub is_record : way.records.are present (way.parts_of one.core)
  pub made : ℕ
  pub are_made : AreMade (frames_counted one.served.result) one.served.serves.group made
  pub unwritten : List (Option Frame)
  pub left : C
  pub led : RunsAgain way.is_asked way.answers way.parts_of one.core (take made one.served.serves.frames) (one.served.serves.replies ++ unwritten) left
  pub found : (sight_too.seen second.before).holds (way.parts_of left)
  pub same : way.parts_of two.core ≡ way.parts_of left
  pub runs : RunsAgain way.is_asked way.answers way.parts_of one.core (take made one.served.serves.frames ++ take (frames_counted two.served.result) two.served.serves.frames)
      ((one.served.serves.replies ++ unwritten) ++ two.served.serves.replies) two.served.serves.now

-- ---- where a run began not at all

-- what keeps a plugin from being opened again from its own record: out of memory, or the device, which failed
abbrev pub IsHindrance : Store → Store → KeepFault → Type 0
IsHindrance before after faults.Device = HasRisen before.faults after.faults
IsHindrance before after faults.NoMemory = Unit {0}
IsHindrance before after (faults.BadRecord place) = ⊥
IsHindrance before after faults.Full = ⊥

-- it wasn't opened, for such a cause: nothing was read nor written, and opening again finds what it would have found before
pub record IsHindered (before after : Store) (io : Streams) (ending : Ending) : Type 0 where
  pub fault : KeepFault
  pub cause : IsHindrance before after fault
  pub left : (found : Found) → after.leaves found → before.leaves found
  pub untouched : io.untouched
  pub ends : ending ≡ ending_of_store fault

-- the same of a process
abbrev pub Hindered : {K R W : Type 0} → Sight K R W → Process K R W → Type 0
Hindered sight run = IsHindered (sight.seen run.before) (sight.seen run.after) (io_of sight run) run.ending

-- ---- two runs

-- the second was hindered, or both are one run
abbrev pub Joins : {X C K L R W : Type 0} (way : Way X C) (sight : Sight K R W) (sight_too : Sight L R W) (content : List StoredPart) (first : Process K R W) (second : Process L R W) → Opened way sight first → Type 0
Joins way sight sight_too content first second one = Hindered sight_too second ⊎ ((two : Opened way sight_too second) × AreOneRun way sight sight_too content first second one two)

-- of either plugin, under the same configuration, or of the same id and with the same session of its joining
abbrev pub PluginJoins : {K L R W : Type 0} (sight : Sight K R W) (sight_too : Sight L R W) (asked : AskedPlugin) (content : List StoredPart) (first : Process K R W) (second : Process L R W) → PluginOpened sight asked first → Type 0
PluginJoins sight sight_too (Controller config) content first second one = Joins (controller_way config) sight sight_too content first second one
PluginJoins sight sight_too (Node id session) content first second one = Joins (node_way id session) sight sight_too content first second one

-- Two runs of a plugin, each by a process of its own, whose store is seen in its own way; the second over what opening the store again found
-- after the first: where the first was opened, the store had a content before, and was honest after both.
abbrev pub RunsLaw : {K L R W : Type 0} → Sight K R W → Sight L R W → Type 0
RunsLaw {K} {L} {R} {W} sight sight_too =
    (asked : AskedPlugin) (first : Process K R W) (second : Process L R W) (content : List StoredPart)
    → (sight.seen first.after).honest → (sight_too.seen second.after).honest → (sight.seen first.before).holds content
    → (one : PluginOpened sight asked first) → Reopens (sight.seen first.after) (sight_too.seen second.before) → PluginRan sight_too asked second
    → PluginJoins sight sight_too asked content first second one

-- ---- three runs

-- the second and a third are one run from what the first left; so all are
pub record AreThreeRuns {X C K L M R W : Type 0} (way : Way X C) (sight : Sight K R W) (sight_too : Sight L R W) (sight_last : Sight M R W) (content : List StoredPart) (first : Process K R W) (second : Process L R W) (third : Process M R W)
    (one : Opened way sight first) (two : Opened way sight_too second) (run : AreOneRun way sight sight_too content first second one two) (three : Opened way sight_last third) : Type 0 where
  pub later : AreOneRun way sight_too sight_last (way.parts_of run.left) second third two three
  pub runs : RunsAgain way.is_asked way.answers way.parts_of one.core
      (take run.made one.served.serves.frames ++ (take later.made two.served.serves.frames ++ take (frames_counted three.served.result) three.served.serves.frames))
      ((one.served.serves.replies ++ run.unwritten) ++ ((two.served.serves.replies ++ later.unwritten) ++ three.served.serves.replies)) three.served.serves.now

-- the second was hindered, and the third is joined to the first; or the first two are one run, and the third was hindered, or all are one
abbrev pub JoinsThree : {X C K L M R W : Type 0} (way : Way X C) (sight : Sight K R W) (sight_too : Sight L R W) (sight_last : Sight M R W) (content : List StoredPart) (first : Process K R W) (second : Process L R W) (third : Process M R W)
    → Opened way sight first → Type 0
JoinsThree way sight sight_too sight_last content first second third one =
    (Hindered sight_too second × Joins way sight sight_last content first third one)
    ⊎ ((two : Opened way sight_too second) × (run : AreOneRun way sight sight_too content first second one two)
    × (Hindered sight_last third ⊎ ((three : Opened way sight_last third) × AreThreeRuns way sight sight_too sight_last content first second third one two run three)))

-- of either plugin
abbrev pub PluginJoinsThree : {K L M R W : Type 0} (sight : Sight K R W) (sight_too : Sight L R W) (sight_last : Sight M R W) (asked : AskedPlugin) (content : List StoredPart) (first : Process K R W) (second : Process L R W) (third : Process M R W)
    → PluginOpened sight asked first → Type 0
PluginJoinsThree sight sight_too sight_last (Controller config) content first second third one = JoinsThree (controller_way config) sight sight_too sight_last content first second third one
PluginJoinsThree sight sight_too sight_last (Node id session) content first second third one = JoinsThree (node_way id session) sight sight_too sight_last content first second third one

-- Three runs of a plugin likewise, one after another; and by the same step any number.
abbrev pub ThreeRunsLaw : {K L M R W : Type 0} → Sight K R W → Sight L R W → Sight M R W → Type 0
ThreeRunsLaw {K} {L} {M} {R} {W} sight sight_too sight_last =
    (asked : AskedPlugin) (first : Process K R W) (second : Process L R W) (third : Process M R W) (content : List StoredPart)
    → (sight.seen first.after).honest → (sight_too.seen second.after).honest → (sight_last.seen third.after).honest → (sight.seen first.before).holds content
    → (one : PluginOpened sight asked first) → Reopens (sight.seen first.after) (sight_too.seen second.before) → PluginRan sight_too asked second
    → Reopens (sight_too.seen second.after) (sight_last.seen third.before) → PluginRan sight_last asked third
    → PluginJoinsThree sight sight_too sight_last asked content first second third one
