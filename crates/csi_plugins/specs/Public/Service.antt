-- What a plugin's process does: it opens the plugin from its store, and serves. This profile's own.
use Rattle.std.specs.Prelude.{◌≡◌, ◌≤◌, ◌^◌, ℕ, List, length, Option, Result}
use Rattle.std.specs.Io.KnownBytes.{Consumes, IsAtEnd}
use Rattle.csi_types.specs.Model.Frame.{Frame}
use Rattle.csi_stores.specs.Public.Part.{StoredPart}
use Rattle.csi_stores.specs.declared.counted.Counted.{Counted}
use Rattle.csi_service.specs.declared.serving.fault.Served.{Served}
use Rattle.csi_service.specs.declared.serving.fault.ServeFault.{ServeFault}
use Rattle.csi_stores.specs.Public.Counting.{HasRisen}
use Rattle.csi_stores.specs.Public.Stores.{Store}
use Rattle.csi_service.specs.Public.Serving.{Setting, Serves}
use Rattle.csi_streams.specs.declared.ending.Ending.{Ending}
use Rattle.csi_plugins.specs.Public.Ending.{ending_of_serving}

-- a reader and a writer, before and after: what is unread, what is written, and whether they failed meanwhile
pub record Streams : Type 1 where
  pub unread_before : Option (List ℕ)
  pub unread_after : Option (List ℕ)
  pub written_before : Option (List ℕ)
  pub written_after : Option (List ℕ)
  pub reader_failed : Type 0
  pub writer_failed : Type 0
  pub untouched : Type 0

-- by what readers and writers tell of themselves
abbrev pub streams : {R W : Type 0} → (R → Option (List ℕ)) → (W → Option (List ℕ)) → Counted R → Counted R → Counted W → Counted W → Streams
streams remaining contents reader read writer written = record {
  unread_before = remaining reader.inner;
  unread_after = remaining read.inner;
  written_before = contents writer.inner;
  written_after = contents written.inner;
  reader_failed = HasRisen reader.faults read.faults;
  writer_failed = HasRisen writer.faults written.faults;
  untouched = (read ≡ reader) × (written ≡ writer);
}

-- what serving is judged by, where these bytes were read
abbrev pub setting_of : {C : Type 0} → (C → Frame → Option Frame → C → Type 0) → (C → List StoredPart) → C → Store → Store → Streams → List ℕ → Setting C
setting_of answers parts_of core before after io bytes = record {
  answers = answers;
  parts_of = parts_of;
  core = core;
  before = before;
  after = after;
  written_before = io.written_before;
  written_after = io.written_after;
  at_end = IsAtEnd io.unread_after;
  reader_failed = io.reader_failed;
  writer_failed = io.writer_failed;
  endless = 2 ^ 63 ≤ length bytes;
}

-- the core was served over its store, which was honest before if it is afterwards, and it ended by what serving answered
pub record IsServed {C : Type 0} (answers : C → Frame → Option Frame → C → Type 0) (parts_of : C → List StoredPart) (core : C) (before after : Store) (io : Streams) (ending : Ending) : Type 0 where
  pub honest : after.honest → before.honest
  pub bytes : List ℕ
  pub consumed : Consumes io.unread_before io.unread_after bytes
  pub result : Result Served ServeFault
  pub serves : Serves (setting_of answers parts_of core before after io bytes) bytes result
  pub ends : ending ≡ ending_of_serving result
