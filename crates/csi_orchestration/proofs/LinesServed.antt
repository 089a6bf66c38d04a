-- What serving lines has come to where it ends.
use Rattle.std.proofs.Common.{◌≡◌, ◌∙◌, inl, inr, sym, ap, subst, refl, ℕ, ◌+◌, ◌<◌, ◌≤◌, ◌^◌, List, [], ◌∷◌, ◌++◌, Bool, true, false, length, take, drop, arith, length-append, append_assoc}
use Rattle.std.proofs.lemmas.List.{length-take, append-nil}
use Rattle.std.specs.Prelude.{slice_get, Option, Some, Result, Ok, Err}
use Rattle.std.specs.List.{AllByRecursion}
use Rattle.std.specs.Io.KnownBytes.{IsAtEnd}
use Rattle.csi_stores.specs.Public.Counting.{HasRisen}
use Rattle.csi_streams.specs.declared.driver.DriveStop.{DriveStop}
use Rattle.csi_streams.specs.declared.driver.DriveStop.TheVariants as stop
use Rattle.csi_streams.specs.declared.lines.LinesFault.{LinesFault}
use Rattle.csi_streams.specs.declared.lines.LinesFault.TheVariants as lines_faults
use Rattle.csi_streams.specs.Public.Driving.{TellsReader}
use Rattle.csi_streams.specs.Public.Handled.{IsBehind}
use Rattle.csi_streams.specs.Public.Lines.{HaltsAtLine, IsLongAt, ReadsLines, RestsAtLines}
use Rattle.csi_streams.specs.Public.LinesOf.{with_newline, and_last, IsShort}
use Rattle.csi_streams.specs.Public.Lining.{RunsLines}
use Rattle.csi_streams.specs.declared.waiting.AnswerFault.{AnswerFault}
use Rattle.csi_streams.specs.declared.waiting.AnswerFault.TheVariants as why
use Rattle.csi_streams.specs.Public.Waiting.{Settling, EndsWaiting}
use Rattle.csi_streams.proofs.StoreCalls.{follows-more}
use Rattle.csi_streams.proofs.GrowingAnswers.{answers-some}
use Rattle.csi_streams.proofs.Items.{in-two, something, front-taken}
use Rattle.csi_streams.proofs.Groups.{IsFresh, came-settles, came-stops, finished, refused-left, refused-cause, refused-written, unwritten-kept, unwritten-runs, unwritten-written}
use Rattle.csi_stores.specs.Public.Part.{StoredPart}
use Rattle.csi_stores.specs.Public.Stores.{Store, FollowsStore}
use Rattle.csi_stores.specs.declared.counted.Counted.{Counted}
use Rattle.csi_orchestration.specs.declared.lines_serving.handling.ResponderHandler.{ResponderHandler}
use Rattle.csi_service.specs.Public.Failing.{Stays}
use Rattle.csi_orchestration.specs.declared.lines_serving.fault.ServedLines.{ServedLines}
use Rattle.csi_orchestration.specs.declared.lines_serving.fault.LinesServeFault.{LinesServeFault}
use Rattle.csi_orchestration.specs.declared.lines_serving.fault.LinesServeFaultKind.TheVariants as kinds
use Rattle.csi_orchestration.specs.Public.LinesFailing.{ReaderStaysAt, WriterStaysAt}
use Rattle.csi_orchestration.specs.Private.LinesHandling.{Serving, waiting_of, always, handler_stopped_by, stopped_by}
use Rattle.csi_orchestration.specs.Public.LinesServing.{Setting, AnswersEach, AreThere, TellsOlder, lines_counted, EndsBy, ServesLines, IsAllAnswered}
use Rattle.csi_orchestration.proofs.GrowingAnswers.{there-few}
use Rattle.csi_orchestration.proofs.LinesProgress.{handles, flushes, stops, CameTo, Done, came_by, short_by}

-- what holds of each of two lists in turn holds of each of the first, and of the second
each-first : (xs ys : List (List ℕ)) → AllByRecursion IsShort (xs ++ ys) → AllByRecursion IsShort xs
each-first [] ys each = tt
each-first (x ∷ xs) ys each = (each.0, each-first xs ys each.1)

each-second : (xs ys : List (List ℕ)) → AllByRecursion IsShort (xs ++ ys) → AllByRecursion IsShort ys
each-second [] ys each = each
each-second (x ∷ xs) ys each = each-second xs ys each.1

-- ---- counts of failures

-- the reader failed at Input
pub reader_failed : (before after : ℕ) (s : DriveStop (LinesFault AnswerFault)) → TellsReader {A = Unit {0}} before after (Err s) → s ≡ stop.Input → HasRisen before after
reader_failed before after stop.Input told is = told
reader_failed before after stop.Endless told is = absurd cc
reader_failed before after (stop.Consumer fault) told is = absurd cc

-- and at no other end
handler_stays : (before after lines : ℕ) (older : Bool) (fault : AnswerFault) → after ≡ before → Stays {A = ServedLines} ReaderStaysAt before after (Err (record { kind = handler_stopped_by older fault; lines = lines }))
handler_stays before after lines true why.NoMemory same = same
handler_stays before after lines false why.NoMemory same = same
handler_stays before after lines older (why.Keep fault) same = same
handler_stays before after lines older why.Output same = same

pub reader_stays : (before after lines : ℕ) (older : Bool) (s : DriveStop (LinesFault AnswerFault)) → TellsReader {A = Unit {0}} before after (Err s)
    → Stays {A = ServedLines} ReaderStaysAt before after (Err (record { kind = stopped_by older s; lines = lines }))
reader_stays before after lines older stop.Input told = tt
reader_stays before after lines older stop.Endless told = told
reader_stays before after lines older (stop.Consumer (lines_faults.Long number)) told = told
reader_stays before after lines older (stop.Consumer lines_faults.NoMemory) told = told
reader_stays before after lines older (stop.Consumer (lines_faults.Handler fault)) told = handler_stays before after lines older fault told

-- where nothing waits all that was read is answered
pub all_answered : {C K W : Type 0} (answers : C → List ℕ → List ℕ → C → Type 0) (parts_of : C → List StoredPart) (store : K → Store) (contents : W → Option (List ℕ)) (first now : Serving C K W) (read : List ℕ) → IsFresh first.own.waiting
    → RestsAtLines (handles answers parts_of store contents) (flushes answers parts_of store contents) (λ (answering : ResponderHandler C). answering.waiting.items ≡ 0) first read now
    → IsAllAnswered answers parts_of first.own.responder (store first.store) (store now.store) (contents first.out.inner) (contents now.out.inner) read
all_answered answers parts_of store contents first now read fresh rests =
    let p = finished answers parts_of with_newline always store contents first.own.responder (waiting_of first) rests.0 now.own.responder (waiting_of now) (came_by answers parts_of store contents first now rests.0 fresh rests.3) rests.4 in
    record { lines = rests.0; rest = rests.1; stream = rests.2; given = p.given; now = now.own.responder; runs = p.runs; kept = p.kept; written = p.written }

module _ {C K W : Type 0} (answers : C → List ℕ → List ℕ → C → Type 0) (parts_of : C → List StoredPart) (store : K → Store) (contents : W → Option (List ℕ)) (is_older : C → List ℕ → Type 0) (first now : Serving C K W) (count : ℕ) (left left' : Option (List ℕ)) (fresh : IsFresh first.own.waiting) where
  -- the lines of a reader, handled to its end
  abbrev pub Read : Result (Unit {0}) (DriveStop (LinesFault AnswerFault)) → Type 0
  Read = ReadsLines (handles answers parts_of store contents) (flushes answers parts_of store contents) (λ (answering : ResponderHandler C). answering.waiting.items ≡ 0) (stops answers parts_of store contents is_older) first now count left left'

  -- where it stops at a line, or behind some
  abbrev Halts : List (List ℕ) → ℕ → AnswerFault → Type 0
  Halts = HaltsAtLine (handles answers parts_of store contents) (flushes answers parts_of store contents) (stops answers parts_of store contents is_older) first now

  -- how many lines were committed
  abbrev pub k : ℕ
  k = now.own.waiting.committed

  -- whether the last line told that the store is an older one
  abbrev pub older : Bool
  older = now.own.is_older

  -- what serving is judged by
  abbrev Full : Type 0 → Type 0 → Type 0 → Setting C
  Full at_end reader_failed endless = record {
    answers = answers;
    parts_of = parts_of;
    is_older = is_older;
    responder = first.own.responder;
    before = store first.store;
    after = store now.store;
    written_before = contents first.out.inner;
    written_after = contents now.out.inner;
    at_end = at_end;
    reader_failed = reader_failed;
    writer_failed = HasRisen first.out.faults now.out.faults;
    endless = endless;
  }

  -- lines that were handled are done, where nothing waits
  done_by : (lines : List (List ℕ)) → RunsLines (handles answers parts_of store contents) (flushes answers parts_of store contents) first lines now → now.own.waiting.items ≡ 0
      → Done answers parts_of store contents first lines now.own.responder (waiting_of now) × AllByRecursion IsShort lines
  done_by lines runs none = (
    finished answers parts_of with_newline always store contents first.own.responder (waiting_of first) lines now.own.responder (waiting_of now) (came_by answers parts_of store contents first now lines fresh runs) none,
    short_by answers parts_of store contents first now lines runs,
  )

  module _ (P Q E : Type 0) where
    -- how it served, what calls never change of the store, and the writer's count
    abbrev pub Ended : List ℕ → Result ServedLines LinesServeFault → Type 0
    Ended bytes result = ServesLines (Full P Q E) bytes result × FollowsStore (store first.store) (store now.store) × Stays WriterStaysAt first.out.faults now.out.faults result

    module _ {end : Result (Unit {0}) (DriveStop (LinesFault AnswerFault))} (r : Read end) (there : List (List ℕ)) (are : AreThere P r.lines r.rest there) where
      few : length there < 2 ^ 64
      few = omega (arith, there-few P r.read r.lines r.rest there r.stream are, r.few)

      -- some lines were committed, as many as are counted, and then it ended so
      serves : (committed behind : List (List ℕ)) → there ≡ committed ++ behind → k ≡ length committed → AllByRecursion IsShort committed → (given : List (List ℕ)) (to : C) → AnswersEach answers first.own.responder committed given to → (group : List (List ℕ))
          (result : Result ServedLines LinesServeFault) → lines_counted result ≡ k → EndsBy (Full P Q E) r.lines r.rest there given to group result → ServesLines (Full P Q E) r.read result
      serves committed behind is counts short given to runs group result told ends =
          let taken : take (lines_counted result) there ≡ committed = front-taken there committed behind (lines_counted result) is (told ∙ counts) in
          record {
            lines = r.lines;
            rest = r.rest;
            stream = r.stream;
            there = there;
            are_there = are;
            within = omega (arith, told, counts, ap length is, length-append committed behind);
            short = subst (AllByRecursion IsShort) (sym taken) short;
            given = given;
            now = to;
            runs = subst (λ (ls : List (List ℕ)). AnswersEach answers first.own.responder ls given to) (sym taken) runs;
            group = group;
            ends = ends;
          }

      -- of the first ones all is done
      serves_first : (n : ℕ) (p : Done answers parts_of store contents first (take n there) now.own.responder (waiting_of now)) → AllByRecursion IsShort (take n there) → (result : Result ServedLines LinesServeFault) → lines_counted result ≡ k
          → EndsBy (Full P Q E) r.lines r.rest there p.given now.own.responder [] result → ServesLines (Full P Q E) r.read result
      serves_first n p short result told ends =
          serves (take n there) (drop n there) (in-two there n) (omega (arith, p.committed, few, length-take n there)) short p.given now.own.responder p.runs [] result told ends

      -- of all of them
      all : (p : Done answers parts_of store contents first there now.own.responder (waiting_of now)) → k ≡ length there
      all p = omega (arith, p.committed, few)

      serves_all : (p : Done answers parts_of store contents first there now.own.responder (waiting_of now)) → AllByRecursion IsShort there → (result : Result ServedLines LinesServeFault) → lines_counted result ≡ k
          → EndsBy (Full P Q E) r.lines r.rest there p.given now.own.responder [] result → ServesLines (Full P Q E) r.read result
      serves_all p short result told ends = serves there [] (sym (append-nil there)) (all p) short p.given now.own.responder p.runs [] result told ends

      -- it stopped at one of them, or behind some
      halted_at : (fault : AnswerFault) → Halts there count fault → Ended r.read (Err (record { kind = handler_stopped_by older fault; lines = k }))
      halted_at fault e = by older refl fault came.2
        where
          before : Serving C K W
          before = e.before

          -- the lines that were handled
          front : List (List ℕ)
          front = take count there

          behind : List (List ℕ)
          behind = drop count there

          came : (two : Settling K W) × CameTo answers parts_of store contents first front before.own.responder two × EndsWaiting store contents two (waiting_of now) fault
          came =
              came-stops answers parts_of with_newline always store contents first.own.responder (waiting_of first) front before.own.responder (waiting_of before) (waiting_of now) fault
              (came_by answers parts_of store contents first before front fresh e.runs) e.stopped.0

          two : Settling K W
          two = came.0

          p : CameTo answers parts_of store contents first front before.own.responder two
          p = came.1

          short : AllByRecursion IsShort front
          short = short_by answers parts_of store contents first before front e.runs

          -- the lines: those that were committed, those that waited, and others
          in-three : there ≡ p.earlier ++ p.group ++ behind
          in-three = in-two there count ∙ ap (λ (ls : List (List ℕ)). ls ++ behind) p.are

          in-parts : there ≡ p.earlier ++ (p.group ++ behind)
          in-parts = in-three ∙ append_assoc p.earlier p.group behind

          within : length p.earlier + length p.group ≤ length there
          within = omega (arith, ap length p.are, length-append p.earlier p.group, length-take count there)

          each : AllByRecursion IsShort (p.earlier ++ p.group)
          each = subst (AllByRecursion IsShort) p.are short

          -- where the next line told that the store is an older one, it is behind those that are counted
          tells : older ≡ true → k ≡ length front → TellsOlder (Full P Q E) there k before.own.responder
          tells is counts =
              let told = e.stopped.1 is in
              let here : slice_get there count ≡ Some told.0 = subst (IsBehind there count) told.1 e.behind in
              record {
                line = told.0;
                here = subst (λ (n : ℕ). slice_get there n ≡ Some told.0) (omega (arith, counts, length-take count there, e.within)) here;
                older = told.2;
              }

          -- what was handled is done
          done : EndsWaiting store contents two (waiting_of now) why.NoMemory → Done answers parts_of store contents first front before.own.responder (waiting_of now)
          done w =
              finished answers parts_of with_newline always store contents first.own.responder (waiting_of first) front before.own.responder (waiting_of now)
              (came-settles answers parts_of with_newline always store contents first.own.responder (waiting_of first) front before.own.responder two (waiting_of now) p w.0) w.1

          by : (is : Bool) → older ≡ is → (fault : AnswerFault) → EndsWaiting store contents two (waiting_of now) fault → Ended r.read (Err (record { kind = handler_stopped_by is fault; lines = k }))
          by true told why.NoMemory w =
              let q = done w in
              let counts : k ≡ length front = omega (arith, q.committed, few, length-take count there) in (
                serves front behind (in-two there count) counts short q.given before.own.responder q.runs [] (Err (record { kind = kinds.OlderStore; lines = k })) refl
                    (refl, tells told counts, record { kept = q.kept; written = q.written }),
                q.follows,
                q.quiet,
              )
          by false told why.NoMemory w =
              let q = done w in
              let counts : k ≡ length front = omega (arith, q.committed, few, length-take count there) in (
                serves front behind (in-two there count) counts short q.given before.own.responder q.runs [] (Err (record { kind = kinds.NoMemory; lines = k })) refl
                    (refl, record { kept = q.kept; written = q.written }),
                q.follows,
                q.quiet,
              )
          by is told (why.Keep fault) w =
              let counts : k ≡ length p.earlier = omega (arith, w.committed, p.committed, few, within) in (
                serves p.earlier (p.group ++ behind) in-parts counts (each-first p.earlier p.group each) p.given p.mid p.runs p.group (Err (record { kind = kinds.Keep fault; lines = k })) refl (
                  record {
                    some = something p.group (omega (arith, w.some, p.waiting));
                    short = each-second p.earlier p.group each;
                    behind = behind;
                    here = in-three ∙ ap (λ (ls : List (List ℕ)). ls ++ p.group ++ behind) (sym (front-taken there p.earlier (p.group ++ behind) k in-parts counts));
                  },
                  record {
                    told = p.more;
                    next = before.own.responder;
                    answered = p.waits;
                    left = refused-left answers parts_of with_newline always store contents first.own.responder (waiting_of first) front before.own.responder two (waiting_of now) fault p w;
                    cause = refused-cause answers parts_of with_newline always store contents first.own.responder (waiting_of first) front before.own.responder two (waiting_of now) fault p w;
                    written = refused-written answers parts_of with_newline always store contents first.own.responder (waiting_of first) front before.own.responder two (waiting_of now) fault p w;
                  },
                ),
                follows-more (store first.store) (store two.store) (store now.store) p.follows w.follows,
                ap (λ (o : Counted W). o.faults) w.unwritten ∙ p.quiet,
              )
          by is told why.Output w =
              let counts : k ≡ length front = omega (arith, w.committed, p.committed, p.waiting, few, within, ap length p.are, length-append p.earlier p.group) in (
                serves front behind (in-two there count) counts short (p.given ++ p.more) before.own.responder
                    (unwritten-runs answers parts_of with_newline always store contents first.own.responder (waiting_of first) front before.own.responder two p) []
                    (Err (record { kind = kinds.Output; lines = k })) refl (
                      refl,
                      subst (λ (faults : ℕ). HasRisen faults now.out.faults) p.quiet w.risen,
                      record {
                        kept = unwritten-kept answers parts_of with_newline always store contents first.own.responder (waiting_of first) front before.own.responder two (waiting_of now) p w;
                        earlier = p.given;
                        group = p.more;
                        some = answers-some answers p.mid p.group p.more before.own.responder p.waits (something p.group (omega (arith, w.some, p.waiting)));
                        are = refl;
                        front = w.written.front;
                        more = w.written.more;
                        parts = sym p.out ∙ w.written.parts;
                        written = unwritten-written answers parts_of with_newline always store contents first.own.responder (waiting_of first) front before.own.responder two (waiting_of now) p w;
                      },
                    ),
                follows-more (store first.store) (store two.store) (store now.store) p.follows w.follows,
                tt,
              )

    -- the reader has ended
    pub served : (over : Unit {0}) (r : Read (Ok over)) → (IsAtEnd left' → P) → Ended r.read (Ok (record { lines = k }))
    served _ r at_end =
        let there : List (List ℕ) = and_last r.lines r.rest in
        let are : AreThere P r.lines r.rest there = inr (at_end r.ends.0, refl) in
        let p = done_by there r.ends.1.runs r.ends.1.flushed in
        (serves_all r there are p.0 p.1 (Ok (record { lines = k })) refl (refl, all r there are p.0, refl, at_end r.ends.0, record { kept = p.0.kept; written = p.0.written }), p.0.follows, p.0.quiet)

    -- it stopped before
    pub halted : (s : DriveStop (LinesFault AnswerFault)) (r : Read (Err s)) → (IsAtEnd left' → P) → (s ≡ stop.Input → Q) → (2 ^ 63 ≤ length r.read → E) → Ended r.read (Err (record { kind = stopped_by older s; lines = k }))
    halted stop.Input r at_end failed endless =
        let p = done_by r.lines r.ends.1.runs r.ends.1.flushed in
        (serves_all r r.lines (inl refl) p.0 p.1 (Err (record { kind = kinds.Input; lines = k })) refl (refl, all r r.lines (inl refl) p.0, failed refl, r.ends.0, record { kept = p.0.kept; written = p.0.written }), p.0.follows, p.0.quiet)
    halted stop.Endless r at_end failed endless =
        let p = done_by r.lines r.ends.2.runs r.ends.2.flushed in
        (serves_all r r.lines (inl refl) p.0 p.1 (Err (record { kind = kinds.Endless; lines = k })) refl (refl, all r r.lines (inl refl) p.0, endless r.ends.0, r.ends.1, record { kept = p.0.kept; written = p.0.written }), p.0.follows, p.0.quiet)
    halted (stop.Consumer (lines_faults.Long number)) r at_end failed endless =
        let p = done_by (take count r.lines) r.ends.1.runs r.ends.1.flushed in
        let counts : count ≡ k = omega (arith, p.0.committed, few r r.lines (inl refl), length-take count r.lines, r.ends.1.within) in (
          serves_first r r.lines (inl refl) count p.0 p.1 (Err (record { kind = kinds.Long number; lines = k })) refl
              (refl, subst (λ (n : ℕ). IsLongAt r.lines r.rest n number) counts r.ends.0, record { kept = p.0.kept; written = p.0.written }),
          p.0.follows,
          p.0.quiet,
        )
    halted (stop.Consumer lines_faults.NoMemory) r at_end failed endless =
        let p = done_by (take count r.lines) r.ends.runs r.ends.flushed in
        (serves_first r r.lines (inl refl) count p.0 p.1 (Err (record { kind = kinds.NoMemory; lines = k })) refl (refl, record { kept = p.0.kept; written = p.0.written }), p.0.follows, p.0.quiet)
    halted (stop.Consumer (lines_faults.Handler fault)) r at_end failed endless = elim (r.ends) [
      | inl e ↦ halted_at r r.lines (inl refl) fault e
      | inr e ↦ halted_at r (and_last r.lines r.rest) (inr (at_end e.0, refl)) fault e.1
    ]
