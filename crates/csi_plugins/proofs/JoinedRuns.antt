-- Two runs over one store are one run, and so are three.
use Rattle.std.proofs.Common.{◌≡◌, ◌∙◌, ◌⊎◌, sym, ap, refl, subst, inl, inr, ℕ, ◌+◌, ◌≤◌, List, [], ◌∷◌, ◌++◌, length, take, Result, Ok, Err, arith, length-append}
use Rattle.std.specs.Prelude.{Option}
use Rattle.std.proofs.lemmas.List.{append-nil, length-take}
use Rattle.csi_types.specs.Model.Frame.{Frame}
use Rattle.csi_stores.specs.declared.keep.KeepFault.{KeepFault}
use Rattle.csi_stores.specs.declared.keep.KeepFault.TheVariants as faults
use Rattle.csi_stores.specs.Public.Part.{StoredPart}
use Rattle.csi_stores.specs.Public.Stores.{Store, Found, Parts, Has, IsOnly}
use Rattle.csi_records.specs.declared.version.RecordVersion.{RecordVersion}
use Rattle.csi_records.specs.Public.Records.{IsRefusedAt, IsInSome}
use Rattle.csi_records.specs.Public.Spelling.{present}
use Rattle.csi_service.specs.declared.serving.fault.Served.{Served}
use Rattle.csi_service.specs.declared.serving.fault.ServeFault.{ServeFault}
use Rattle.csi_service.specs.declared.serving.fault.ServeFaultKind.{ServeFaultKind}
use Rattle.csi_service.specs.declared.serving.fault.ServeFaultKind.TheVariants as kinds
use Rattle.csi_service.specs.Public.Serving.{AnswersEach, Serves, StopsBy, frames_counted}
use Rattle.csi_service.proofs.GrowingAnswers.{answers-append}
use Rattle.csi_service.specs.Public.Opening.{IsOpeningCommit, OpensTo, IsOpenFault}
use Rattle.csi_streams.specs.declared.ending.Ending.{Ending}
use Rattle.csi_plugins.specs.Public.Service.{Streams, setting_of}
use Rattle.csi_plugins.specs.Public.Running.{IsOpeningRefused, Runs}
use Rattle.csi_plugins.specs.Public.Joined.{Process, Sight, io_of, Way, Opened, Reopens, AreMade, RunsAgain, IsHindrance, IsHindered, Hindered, AreOneRun, Joins, AreThreeRuns, JoinsThree}

-- ---- runs in which the plugin is opened again

module _ {C : Type 0} (IsAsked : C → Type 0) (answers : C → Frame → Option Frame → C → Type 0) (parts_of : C → List StoredPart) where
  -- a run by one core is such a run
  again-of : ((old new : C) (frame : Frame) (reply : Option Frame) → answers old frame reply new → IsAsked old → IsAsked new)
      → (core : C) (frames : List Frame) (replies : List (Option Frame)) (now : C) → IsAsked core → AnswersEach answers core frames replies now → RunsAgain IsAsked answers parts_of core frames replies now
  again-of keeps core [] [] now asked is = ap parts_of is
  again-of keeps core [] (r ∷ rs) now asked is = absurd is
  again-of keeps core (f ∷ fs) [] now asked is = absurd is
  again-of keeps core (f ∷ fs) (r ∷ rs) now asked is = (core, asked, refl, is.0, is.1, again-of keeps is.0 fs rs now (keeps core is.0 f r is.1 asked) is.2)

  -- a core with the same parts may stand in front
  same-front : (one other : C) (frames : List Frame) (replies : List (Option Frame)) (now : C) → parts_of other ≡ parts_of one
      → RunsAgain IsAsked answers parts_of other frames replies now → RunsAgain IsAsked answers parts_of one frames replies now
  same-front one other [] [] now same is = is ∙ same
  same-front one other [] (r ∷ rs) now same is = absurd is
  same-front one other (f ∷ fs) [] now same is = absurd is
  same-front one other (f ∷ fs) (r ∷ rs) now same is = (is.0, is.1, is.2 ∙ same, is.3, is.4, is.5)

  -- a run, and one from a core with the parts that it led to
  joined : (one mid other last : C) (fs gs : List Frame) (rs ss : List (Option Frame)) → RunsAgain IsAsked answers parts_of one fs rs mid → parts_of other ≡ parts_of mid
      → RunsAgain IsAsked answers parts_of other gs ss last → RunsAgain IsAsked answers parts_of one (fs ++ gs) (rs ++ ss) last
  joined one mid other last [] gs [] ss first same second = same-front one other gs ss last (same ∙ first) second
  joined one mid other last [] gs (r ∷ rs) ss first same second = absurd first
  joined one mid other last (f ∷ fs) gs [] ss first same second = absurd first
  joined one mid other last (f ∷ fs) gs (r ∷ rs) ss first same second = (first.0, first.1, first.2, first.3, first.4, joined first.3 mid other last fs gs rs ss first.5 same second)

-- ---- the frames that left their mark

-- the first ones, and those behind them
take-more : {X : Type 0} (xs front ys behind : List X) (k : ℕ) → xs ≡ front ++ ys ++ behind → k ≡ length front → take (k + length ys) xs ≡ front ++ ys
take-more {X} xs front ys behind k is counts =
    ap (λ (n : ℕ). take n xs) (omega (arith, counts, length-append front ys)) ∙ ap (take (length (front ++ ys))) is ∙ take-all (front ++ ys)
  where
    take-all : (zs : List X) → take (length zs) (zs ++ behind) ≡ zs
    take-all [] = refl
    take-all (z ∷ zs) = ap (λ (others : List X). z ∷ others) (take-all zs)

-- what is found is what some of the frames led to
record Marked {C : Type 0} (answers : C → Frame → Option Frame → C → Type 0) (parts_of : C → List StoredPart) (core : C) (frames : List Frame) (replies : List (Option Frame)) (IsCount : ℕ → Type 0) (found : Found) : Type 0 where
  made : ℕ
  are_made : IsCount made
  unwritten : List (Option Frame)
  mid : C
  runs : AnswersEach answers core (take made frames) (replies ++ unwritten) mid
  is : found ≡ Parts (parts_of mid)

module _ {C : Type 0} (answers : C → Frame → Option Frame → C → Type 0) (parts_of : C → List StoredPart) (core : C) (before after : Store) (io : Streams) (bytes : List ℕ) (honest : after.honest) (only : IsOnly before (Parts (parts_of core))) (found : Found) (left : after.leaves found) where
  -- those that were counted
  counted-mark : (frames : List Frame) (replies : List (Option Frame)) (now : C) (counted : ℕ) (group : List Frame) → AnswersEach answers core (take counted frames) replies now
      → found ≡ Parts (parts_of now) → Marked answers parts_of core frames replies (AreMade counted group) found
  counted-mark frames replies now counted group runs is = record {
    made = counted;
    are_made = inl refl;
    unwritten = [];
    mid = now;
    runs = subst (λ (rs : List (Option Frame)). AnswersEach answers core (take counted frames) rs now) (sym (append-nil replies)) runs;
    is = is;
  }

  -- by why serving stopped
  kind-mark : (kind : ServeFaultKind) (frames : List Frame) (rest : List ℕ) (counted : ℕ) (replies : List (Option Frame)) (now : C) (group : List Frame) → counted ≤ length frames → AnswersEach answers core (take counted frames) replies now
      → StopsBy (setting_of answers parts_of core before after io bytes) frames rest counted replies now group kind → Marked answers parts_of core frames replies (AreMade counted group) found
  kind-mark kinds.Input frames rest counted replies now group within runs stop = counted-mark frames replies now counted group runs ((stop.4.kept honest only).alone found left)
  kind-mark kinds.Output frames rest counted replies now group within runs stop = counted-mark frames replies now counted group runs ((stop.2.kept honest only).alone found left)
  kind-mark (kinds.Frame kind place) frames rest counted replies now group within runs stop = counted-mark frames replies now counted group runs ((stop.4.kept honest only).alone found left)
  kind-mark kinds.NoMemory frames rest counted replies now group within runs stop = counted-mark frames replies now counted group runs ((stop.1.kept honest only).alone found left)
  kind-mark kinds.Endless frames rest counted replies now group within runs stop = counted-mark frames replies now counted group runs ((stop.4.kept honest only).alone found left)
  kind-mark (kinds.Keep fault) frames rest counted replies now group within runs stop =
      let refused = stop.1 in
      elim ((refused.left honest only).each found left) [
        | inl old ↦ counted-mark frames replies now counted group runs old
        | inr new ↦
            record {
              made = counted + length group;
              are_made = inr refl;
              unwritten = refused.given;
              mid = refused.next;
              runs =
                  subst (λ (fs : List Frame). AnswersEach answers core fs (replies ++ refused.given) refused.next)
                  (sym (take-more frames (take counted frames) group stop.0.behind counted stop.0.here (omega (arith, within, length-take counted frames))))
                  (answers-append answers core (take counted frames) replies now group refused.given refused.next runs refused.answered);
              is = new;
            }
      ]

  -- by what it answered
  mark : (result : Result Served ServeFault) (s : Serves (setting_of answers parts_of core before after io bytes) bytes result) → Marked answers parts_of core s.frames s.replies (AreMade (frames_counted result) s.group) found
  mark (Ok served) s = counted-mark s.frames s.replies s.now served.frames s.group s.runs ((s.ends.5.kept honest only).alone found left)
  mark (Err fault) s = kind-mark fault.kind s.frames s.rest fault.frames s.replies s.now s.group s.within s.runs s.ends

-- ---- two runs

-- What a plugin's records keep: a core as it was asked for answers as such a one, to a record in the present version; and such a record is in
-- no other version, isn't empty and has no part that is refused.
pub record IsSteady {X C : Type 0} (way : Way X C) : Type 0 where
  pub keeps : (old new : C) (frame : Frame) (reply : Option Frame) → way.answers old frame reply new → way.is_asked old → way.is_asked new × way.records.are present (way.parts_of new)
  pub told : (parts : List StoredPart) (version : RecordVersion) → way.records.are present parts → way.records.are version parts → version ≡ present
  pub some : (parts : List StoredPart) → way.records.are present parts → parts ≡ [] → ⊥
  pub whole : (parts : List StoredPart) (place : ℕ) → way.records.are present parts → IsRefusedAt (IsInSome way.records.are) parts place → ⊥

module _ {X C : Type 0} (way : Way X C) (steady : IsSteady way) where
  -- each core on the way is as it was asked for, and has a record in the present version
  along : (core : C) (frames : List Frame) (replies : List (Option Frame)) (now : C) → AnswersEach way.answers core frames replies now → way.is_asked core → way.records.are present (way.parts_of core)
      → way.is_asked now × way.records.are present (way.parts_of now)
  along core [] [] now is asked here = subst (λ (c : C). way.is_asked c × way.records.are present (way.parts_of c)) (sym is) (asked, here)
  along core [] (r ∷ rs) now is asked here = absurd is
  along core (f ∷ fs) [] now is asked here = absurd is
  along core (f ∷ fs) (r ∷ rs) now is asked here = let next = steady.keeps core is.0 f r is.1 asked in along is.0 fs rs now is.2 next.0 next.1

  -- opening commits nothing over such a record
  no-becomes : (parts new : List StoredPart) → way.records.are present parts → IsOpeningCommit way.records way.head parts new → ⊥
  no-becomes parts new is (inl none) = steady.some parts is none.0
  no-becomes parts new is (inr renewed) = renewed.earlier (steady.told parts renewed.version is renewed.stored)

  -- and leaves it
  opens-same : (parts new : List StoredPart) → way.records.are present parts → OpensTo way.records way.head parts new → new ≡ parts
  opens-same parts new is (inl same) = same.1
  opens-same parts new is (inr becomes) = absurd (no-becomes parts new is becomes)

  module _ (before after : Store) (io : Streams) (ending : Ending) (parts : List StoredPart) (is : way.records.are present parts) (honest : after.honest) (holds : before.holds parts) where
    -- only being out of memory and a failing device keep it from being opened
    hindrance : (fault : KeepFault) → IsOpenFault way.records before after way.head fault → IsHindrance before after fault
    hindrance faults.Device cause = cause
    hindrance faults.NoMemory cause = tt
    hindrance (faults.BadRecord place) cause = steady.whole parts place is (cause honest parts holds)
    hindrance faults.Full cause = let full = cause honest parts holds in no-becomes parts full.0 is full.1

    -- where a plugin isn't opened again, it was hindered
    hindered : IsOpeningRefused way.records before after way.head io ending → IsHindered before after io ending
    hindered refused = record {
      fault = refused.fault;
      cause = hindrance refused.fault refused.cause;
      left = λ found leaves. elim (refused.left.parts honest parts holds found leaves) [ inl old ↦ old | inr new ↦ absurd (no-becomes parts new.new is new.becomes) ];
      untouched = refused.untouched;
      ends = refused.ends;
    }

  -- where the first run was opened
  module _ {K L R W : Type 0} (sight : Sight K R W) (sight_too : Sight L R W) (content : List StoredPart) (first : Process K R W) (second : Process L R W) (honest : (sight.seen first.after).honest) (honest_too : (sight_too.seen second.after).honest)
      (holds : (sight.seen first.before).holds content) (o : Opened way sight first) (reopens : Reopens (sight.seen first.after) (sight_too.seen second.before)) where
    here : OpensTo way.records way.head content (way.parts_of o.core) × way.records.are present (way.parts_of o.core) × IsOnly (sight.seen o.opened) (Parts (way.parts_of o.core))
    here = o.found (o.served.honest honest) content holds

    marked : Marked way.answers way.parts_of o.core o.served.serves.frames o.served.serves.replies (AreMade (frames_counted o.served.result) o.served.serves.group) reopens.0
    marked = mark way.answers way.parts_of o.core (sight.seen o.opened) (sight.seen first.after) (io_of sight first) o.served.bytes honest here.2 reopens.0 reopens.1 o.served.result o.served.serves

    mid : way.is_asked marked.mid × way.records.are present (way.parts_of marked.mid)
    mid = along o.core (take marked.made o.served.serves.frames) (o.served.serves.replies ++ marked.unwritten) marked.mid marked.runs o.asked here.1

    there : (sight_too.seen second.before).holds (way.parts_of marked.mid)
    there = subst (Has (sight_too.seen second.before)) marked.is reopens.2.there

    both : (p : Opened way sight_too second) → AreOneRun way sight sight_too content first second o p
    both p =
        let here_too = p.found (p.served.honest honest_too) (way.parts_of marked.mid) there in
        let asks = λ (old new : C) (frame : Frame) (reply : Option Frame) (answered : way.answers old frame reply new) (asked : way.is_asked old). (steady.keeps old new frame reply answered asked).0 in
        let led = again-of way.is_asked way.answers way.parts_of asks o.core (take marked.made o.served.serves.frames) (o.served.serves.replies ++ marked.unwritten) marked.mid o.asked marked.runs in
        let same = opens-same (way.parts_of marked.mid) (way.parts_of p.core) mid.1 here_too.0 in
        record {
          opened = here.0;
          is_record = here.1;
          made = marked.made;
          are_made = marked.are_made;
          unwritten = marked.unwritten;
          left = marked.mid;
          led = led;
          found = there;
          same = same;
          runs = joined way.is_asked way.answers way.parts_of o.core marked.mid p.core p.served.serves.now (take marked.made o.served.serves.frames) (take (frames_counted p.served.result) p.served.serves.frames) (o.served.serves.replies ++ marked.unwritten) p.served.serves.replies
              led same
              (again-of way.is_asked way.answers way.parts_of asks p.core (take (frames_counted p.served.result) p.served.serves.frames) p.served.serves.replies p.served.serves.now p.asked p.served.serves.runs);
        }

    -- the second finds the parts of a core as it was asked for
    pub found-again : (core : C) × way.is_asked core × way.records.are present (way.parts_of core) × (sight_too.seen second.before).holds (way.parts_of core)
    found-again = (marked.mid, mid.0, mid.1, there)

    -- and was hindered, or goes on from there
    pub onward : Runs sight_too.seen way.records way.is_asked way.answers way.parts_of way.head second.before second.after (io_of sight_too second) second.ending → Joins way sight sight_too content first second o
    onward (inl refused) = inl (hindered (sight_too.seen second.before) (sight_too.seen second.after) (io_of sight_too second) second.ending (way.parts_of marked.mid) mid.1 honest_too there refused)
    onward (inr p) = inr (p, both p)

-- ---- three runs

-- what was found of a store that was hindered meanwhile is what was found before
pub found-past : (left between after now : Store) → Reopens left between → ((found : Found) → after.leaves found → between.leaves found) → Reopens after now → Reopens left now
found-past left between after now first stays second =
    let same = first.2.alone second.0 (stays second.0 second.1) in
    (second.0, subst left.leaves (sym same) first.1, second.2)

-- by the law of two runs: of the first two, of the last two, and of the first and the last
pub three-joined : {X C K L M R W : Type 0} (way : Way X C) (sight : Sight K R W) (sight_too : Sight L R W) (sight_last : Sight M R W) (content : List StoredPart) (first : Process K R W) (second : Process L R W) (third : Process M R W) (one : Opened way sight first)
    → Joins way sight sight_too content first second one
    → (Hindered sight_too second → Joins way sight sight_last content first third one)
    → ((two : Opened way sight_too second) (run : AreOneRun way sight sight_too content first second one two) → Joins way sight_too sight_last (way.parts_of run.left) second third two)
    → JoinsThree way sight sight_too sight_last content first second third one
three-joined way sight sight_too sight_last content first second third one (inl hindered) past later = inl (hindered, past hindered)
three-joined way sight sight_too sight_last content first second third one (inr both) past later = inr (both.0, both.1, by (later both.0 both.1))
  where
    by : Joins way sight_too sight_last (way.parts_of both.1.left) second third both.0
        → Hindered sight_last third ⊎ ((three : Opened way sight_last third) × AreThreeRuns way sight sight_too sight_last content first second third one both.0 both.1 three)
    by (inl hindered) = inl hindered
    by (inr all) =
        inr (
          all.0,
          record {
            later = all.1;
            runs = joined way.is_asked way.answers way.parts_of one.core both.1.left both.0.core all.0.served.serves.now (take both.1.made one.served.serves.frames)
                (take all.1.made both.0.served.serves.frames ++ take (frames_counted all.0.served.result) all.0.served.serves.frames) (one.served.serves.replies ++ both.1.unwritten)
                ((both.0.served.serves.replies ++ all.1.unwritten) ++ all.0.served.serves.replies) both.1.led both.1.same all.1.runs;
          },
        )
