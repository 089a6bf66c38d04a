-- How far serving lines has come.
use Rattle.std.proofs.Common.{◌≡◌, sym, subst, ℕ, List, true, false}
use Rattle.std.specs.Prelude.{Option}
use Rattle.std.specs.List.{AllByRecursion}
use Rattle.std.proofs.lemmas.Bool.{true≢false}
use Rattle.csi_streams.specs.declared.waiting.AnswerFault.{AnswerFault}
use Rattle.csi_streams.specs.Public.LinesOf.{with_newline, IsShort}
use Rattle.csi_streams.specs.Public.Lining.{RunsLines, no_line, line_handled, lines_flushed}
use Rattle.csi_streams.specs.Public.Waiting.{Settling}
use Rattle.csi_streams.proofs.Groups.{IsFresh, Came, came-begun, came-settles, came-answered, Finished}
use Rattle.csi_streams.proofs.Items.{each-push}
use Rattle.csi_stores.specs.Public.Part.{StoredPart}
use Rattle.csi_stores.specs.Public.Stores.{Store}
use Rattle.csi_orchestration.specs.Private.LinesHandling.{Serving, waiting_of, always, IsHandled, Flushes, StopsLine}

-- what isn't so
pub not-so : {X : Type 0} → false ≡ true → X
not-so e = absurd (true≢false (sym e))

module _ {C K W : Type 0} (answers : C → List ℕ → List ℕ → C → Type 0) (parts_of : C → List StoredPart) (store : K → Store) (contents : W → Option (List ℕ)) where
  -- this and the next two: a line was answered; what waits was settled; or it stops
  abbrev pub handles : Serving C K W → ℕ → List ℕ → Serving C K W → Type 0
  handles old number line new = IsHandled answers parts_of store contents old line new

  abbrev pub flushes : Serving C K W → Serving C K W → Type 0
  flushes = Flushes store contents

  abbrev pub stops : (C → List ℕ → Type 0) → Serving C K W → Option (List ℕ) → Serving C K W → AnswerFault → Type 0
  stops is_older = StopsLine is_older store contents

  module _ (first : Serving C K W) where
    -- how far it came, from a first responder
    abbrev pub CameTo : List (List ℕ) → C → Settling K W → Type 0
    CameTo = Came answers parts_of with_newline always store contents first.own.responder (waiting_of first)

    -- and where nothing waits
    abbrev pub Done : List (List ℕ) → C → Settling K W → Type 0
    Done = Finished answers parts_of with_newline always store contents first.own.responder (waiting_of first)

    -- lines that were handled were answered
    pub came_by : (now : Serving C K W) (lines : List (List ℕ)) → IsFresh first.own.waiting → RunsLines handles flushes first lines now → CameTo lines now.own.responder (waiting_of now)
    came_by now lines fresh no_line = came-begun answers parts_of with_newline always store contents first.own.responder (waiting_of first) fresh
    came_by now lines fresh (line_handled ls before line _ run fits did) =
        came-answered answers parts_of with_newline always store contents first.own.responder (waiting_of first) ls before.own.responder (waiting_of before) line now.own.responder (waiting_of now) (came_by before ls fresh run) did
    came_by now lines fresh (lines_flushed _ before _ run did) =
        subst (λ (c : C). CameTo lines c (waiting_of now)) (sym did.1)
        (came-settles answers parts_of with_newline always store contents first.own.responder (waiting_of first) lines before.own.responder (waiting_of before) (waiting_of now) (came_by before lines fresh run) did.0)

    -- none of them was too long
    pub short_by : (now : Serving C K W) (lines : List (List ℕ)) → RunsLines handles flushes first lines now → AllByRecursion IsShort lines
    short_by now lines no_line = tt
    short_by now lines (line_handled ls before line _ run fits did) = each-push IsShort ls line (short_by before ls run) fits
    short_by now lines (lines_flushed _ before _ run did) = short_by before lines run
