-- Two runs over one store, one after another, each by a process of its own, however each ended, as one run. This profile's own.
use Rattle.std.specs.Prelude.{◌≡◌, ◌⊎◌, ℕ, ◌+◌, ◌≤◌, ◌^◌, List, ◌++◌, length, take, Option, Result}
use Rattle.std.specs.Io.KnownBytes.{Consumes, IsAtEnd}
use Rattle.csi_stores.specs.Public.Counting.{HasRisen}
use Rattle.csi_stores.specs.declared.counted.Counted.{Counted}
use Rattle.csi_stores.specs.Public.Part.{StoredPart}
use Rattle.csi_stores.specs.Public.Stores.{Store, Found, Parts, IsOnly}
use Rattle.csi_orchestration.specs.declared.lines_serving.fault.ServedLines.{ServedLines}
use Rattle.csi_orchestration.specs.declared.lines_serving.fault.LinesServeFault.{LinesServeFault}
use Rattle.csi_orchestration.specs.Public.LinesServing.{Setting, AnswersEach, lines_counted, ServesLines}

-- What runs are judged by: what opening makes of a store's content, how that answers, which parts it has, and which lines tell it that its store is an
-- older one; and how a store, a reader and a writer are seen.
pub record RunSetting (C K R W : Type 0) : Type 1 where
  pub opens : List StoredPart → C → Type 0
  pub answers : C → List ℕ → List ℕ → C → Type 0
  pub parts_of : C → List StoredPart
  pub is_older : C → List ℕ → Type 0
  pub seen : K → Store
  pub remaining : R → Option (List ℕ)
  pub contents : W → Option (List ℕ)

-- ---- a run

-- what serving is judged by, where these bytes were read
abbrev pub served_in : {C K R W : Type 0} → RunSetting C K R W → C → K → K → Counted R → Counted R → Counted W → Counted W → List ℕ → Setting C
served_in setting responder before after reader read writer written bytes = record {
  answers = setting.answers;
  parts_of = setting.parts_of;
  is_older = setting.is_older;
  responder = responder;
  before = setting.seen before;
  after = setting.seen after;
  written_before = setting.contents writer.inner;
  written_after = setting.contents written.inner;
  at_end = IsAtEnd (setting.remaining read.inner);
  reader_failed = HasRisen reader.faults read.faults;
  writer_failed = HasRisen writer.faults written.faults;
  endless = 2 ^ 63 ≤ length bytes;
}

-- it was served over its store, which was honest before if it is afterwards, and ended so
pub record IsServed {C K R W : Type 0} (setting : RunSetting C K R W) (responder : C) (before after : K) (reader read : Counted R) (writer written : Counted W) (result : Result ServedLines LinesServeFault) : Type 0 where
  pub honest : (setting.seen after).honest → (setting.seen before).honest
  pub bytes : List ℕ
  pub consumed : Consumes (setting.remaining reader.inner) (setting.remaining read.inner) bytes
  pub serves : ServesLines (served_in setting responder before after reader read writer written bytes) bytes result

-- It was opened from a store, whose content opening made it of and which had its parts alone then, and served over that store, and ended so.
pub record Ran {C K R W : Type 0} (setting : RunSetting C K R W) (before after : K) (reader read : Counted R) (writer written : Counted W) (result : Result ServedLines LinesServeFault) : Type 0 where
  pub responder : C
  pub opened : K
  pub is_opened : (setting.seen opened).honest → (content : List StoredPart) → (setting.seen before).holds content → setting.opens content responder × IsOnly (setting.seen opened) (Parts (setting.parts_of responder))
  pub served : IsServed setting responder opened after reader read writer written result

-- ---- two runs

-- the same, where stores are seen so
abbrev pub over : {C K L R W : Type 0} → RunSetting C K R W → (L → Store) → RunSetting C L R W
over setting seen = record {
  opens = setting.opens;
  answers = setting.answers;
  parts_of = setting.parts_of;
  is_older = setting.is_older;
  seen = seen;
  remaining = setting.remaining;
  contents = setting.contents;
}

-- What the file system does between two processes: the second one opens one of the contents that the first may have left, and its store has
-- that alone.
abbrev pub Reopens : Store → Store → Type 0
Reopens left now = (found : Found) × left.leaves found × IsOnly now found

-- How many lines left their mark in the store: those that are counted; or also those that were answered behind them, all of them, where
-- their commit was refused.
abbrev pub AreMade : ℕ → List (List ℕ) → ℕ → Type 0
AreMade counted group made = (made ≡ counted) ⊎ (made ≡ counted + length group)

-- Two runs are one, from a store with this content: the first lines of the first input, as many as left their mark, led to some responder;
-- the second run found its parts, so that the second and a third are one likewise, from these; and of them opening made the second run's
-- responder, which went on with the lines that are counted of the second input. The answers are those of both runs, and of lines whose commit
-- was refused.
pub record AreOneRun {C K L R W : Type 0} (setting : RunSetting C K R W) (seen_too : L → Store) (content : List StoredPart) (before between : K) (again after : L) (r r_read s s_read : Counted R) (w w_written v v_written : Counted W) (result result_too : Result ServedLines LinesServeFault)
    (one : Ran setting before between r r_read w w_written result) (two : Ran (over setting seen_too) again after s s_read v v_written result_too) : Type 0 where
  pub opened : setting.opens content one.responder
  pub made : ℕ
  pub are_made : AreMade (lines_counted result) one.served.serves.group made
  pub unwritten : List (List ℕ)
  pub left : C
  pub runs : AnswersEach setting.answers one.responder (take made one.served.serves.there) (one.served.serves.given ++ unwritten) left
  pub found : (seen_too again).holds (setting.parts_of left)
  pub reopened : setting.opens (setting.parts_of left) two.responder
  pub goes_on : AnswersEach setting.answers two.responder (take (lines_counted result_too) two.served.serves.there) two.served.serves.given two.served.serves.now

-- Two runs, each by a process of its own, which sees its store in its own way, the second over what opening the store again found after the
-- first, are one: where the store had a content before, and was honest after both.
abbrev pub LinesRunsLaw : {C K L R W : Type 0} → RunSetting C K R W → (L → Store) → Type 0
LinesRunsLaw {C} {K} {L} {R} {W} setting seen_too =
    (before between : K) (again after : L) (content : List StoredPart) (r r_read s s_read : Counted R) (w w_written v v_written : Counted W) (result result_too : Result ServedLines LinesServeFault)
    → (setting.seen between).honest → (seen_too after).honest → (setting.seen before).holds content
    → (one : Ran setting before between r r_read w w_written result) → Reopens (setting.seen between) (seen_too again) → (two : Ran (over setting seen_too) again after s s_read v v_written result_too)
    → AreOneRun setting seen_too content before between again after r r_read s s_read w w_written v v_written result result_too one two
