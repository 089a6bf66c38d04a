-- A schedule that is played: each thing that happens leads on, and each world on the way is safe.
use Rattle.std.proofs.Common.{◌≡◌, ℕ, zero, suc, List, [], ◌∷◌, ◌++◌, map, sym, ◌∙◌, ap, subst, append-nil, append_assoc, inl, inr}
use Rattle.std.specs.Prelude.{Result, Ok, Err, IfOk}
use Rattle.csi_json.specs.declared.happening.Recovery.{Recovery}
use Rattle.csi_json.specs.declared.happening.Happening.{Happening}
use Rattle.csi_json.specs.declared.happening.Happening.TheVariants as happenings
use Rattle.csi_types.specs.declared.event.Event.{Event}
use Rattle.csi_types.specs.Model.Config.{Config}
use Rattle.csi_orchestrator.specs.Public.Steps.{IsReached, Begins, MovesLaw}
use Rattle.csi_world.specs.declared.outcomes.Outcome.{Outcome}
use Rattle.csi_world.specs.declared.outcomes.Outcome.TheVariants as outcomes
use Rattle.csi_world.specs.Model.After.{Run, occurs, after, after_from}
use Rattle.csi_world.specs.Model.Safe.{Safe}
use Rattle.csi_world.specs.Model.Simulated.{WorldParts, ShowsWorld, ShowsRun}
use Rattle.csi_world.specs.Model.World.{World, node_id, empty_world}
use Rattle.csi_world.specs.Public.Recovery.{recovered_world}
use Rattle.csi_recovery.specs.Public.Laws.{IsSafeOn, StaysSafe, RecoveryLaw}
use Rattle.csi_world.specs.Public.Simulating.{IsOfWorld}
use Rattle.csi_world.specs.Public.Step.{Choice, MayChooseAll, chosen_all}
use Rattle.csi_world.proofs.RunSteps.{all-append, chosen-append, one-event}
use Rattle.csi_recovery.specs.Public.Worlds as worlds
use Rattle.csi_recovery.specs.Public.Worlds.{Recovering}
use Rattle.csi_commands.specs.Public.Playing.{asked, ComesOf, LeadsTo, IsPlayed}
use Rattle.csi_commands.specs.Private.Playing.{HasOccurred, HasHappened, Happens}

-- ---- what stays safe

-- after choices
stays-on : (count : ℕ) (world : World) (choices : List Choice) → MayChooseAll world choices → StaysSafe count world → StaysSafe count (chosen_all world choices)
stays-on zero world choices may stays = λ more then. subst Safe (chosen-append world choices more) (stays (choices ++ more) (all-append world choices more may then))
stays-on (suc count) world choices may stays =
    λ more then. subst (IsSafeOn (StaysSafe count)) (chosen-append world choices more) (stays (choices ++ more) (all-append world choices more may then))

-- it is safe now
pub now-safe : (count : ℕ) (world : World) → StaysSafe count world → Safe world
now-safe zero world stays = stays [] tt
now-safe (suc count) world stays = (stays [] tt).safe

-- through fewer recoveries
stays-less : (count : ℕ) (world : World) → StaysSafe (suc count) world → StaysSafe count world
stays-less zero world stays = λ choices may. (stays choices may).safe
stays-less (suc count) world stays = λ choices may.
    let on = stays choices may in
    record {
      safe = on.safe;
      raised = λ party session. stays-less count _ (on.raised party session);
      recovered = λ nodes given session later allowed.
          let made = on.recovered nodes given session later allowed in
          record { history = made.history; reached = made.reached; form = made.form; shows = made.shows; holds = stays-less count _ made.holds };
      rebuilt = λ controller session nodes may. stays-less count _ (on.rebuilt controller session nodes may);
    }

-- ---- what leads on

-- it is the world that is shown, with these outcomes, and stays safe through so many recoveries
pub record IsOn (shown : WorldParts) (count : ℕ) (world : World) (came : List Outcome) : Type 0 where
  pub shows : ShowsRun shown (record { world = world; outcomes = came })
  pub stays : StaysSafe count world
  pub reached : IsReached world.history

-- an event
event-on : MovesLaw → (event : Event) (old new : WorldParts) (count : ℕ) (world : World) (came : List Outcome) → IsOn old (suc count) world came → HasOccurred event old world new
    → LeadsTo (IsOn new count) (happenings.Occurs event ∷ []) world came
event-on law event old new count world came on has =
    let step = one-event world event law on.reached in
    let next : World = (occurs world event).world in
    let stays : StaysSafe (suc count) next = subst (StaysSafe (suc count)) (step.comes).same_world (stays-on (suc count) world (step.comes).choices (step.comes).may on.stays) in
    record {
      safe = now-safe (suc count) world on.stays;
      holds = record {
        safe = now-safe (suc count) next stays;
        holds = record {
          shows = record { world = has.shows; outcomes = has.logged ∙ ap (λ (os : List Outcome). os ++ (occurs world event).outcome ∷ []) (on.shows).outcomes };
          stays = stays-less count next stays;
          reached = step.reached;
        };
      };
    }

-- with other outcomes it is the same world
relogged : (old : WorldParts) (came : List Outcome) (world : World) → ShowsWorld old world → ShowsWorld (record old { outcomes = came }) world
relogged old came world shows =
    record {
      config = shows.config;
      frames = shows.frames;
      controller = shows.controller;
      nodes = shows.nodes;
      orchestrator = shows.orchestrator;
      form = shows.form;
      own_config = shows.own_config;
    }

-- a recovery
recovery-on : (recovery : Recovery) (old new : WorldParts) (count : ℕ) (world : World) (came : List Outcome) → IsOn old (suc count) world came → Recovering (asked recovery) old world new
    → LeadsTo (IsOn new count) (happenings.Recovers recovery ∷ []) world came
recovery-on recovery old new count world came on (inl has) =
    let made = (on.stays [] tt).recovered recovery.nodes recovery.given recovery.session (has.allowed).later (has.allowed).may in
    let next : World = recovered_world recovery.session recovery.given made.history world in
    record {
      safe = now-safe (suc count) world on.stays;
      holds = record {
        outcome = outcomes.Recovered;
        comes = (
          has.allowed,
          record {
            history = made.history;
            reached = made.reached;
            form = made.form;
            shows = made.shows;
            holds = record {
              safe = now-safe count next made.holds;
              holds = record {
                shows = record {
                  world = has.shows made.history made.form made.shows;
                  outcomes = has.logged ∙ ap (λ (os : List Outcome). os ++ outcomes.Recovered ∷ []) (on.shows).outcomes;
                };
                stays = made.holds;
                reached = made.reached;
              };
            };
          },
        );
      };
    }
recovery-on recovery old new count world came on (inr has) =
    let logged : List Outcome = old.outcomes ++ outcomes.NotRecovered has.why ∷ [] in
    record {
      safe = now-safe (suc count) world on.stays;
      holds = record {
        outcome = outcomes.NotRecovered has.why;
        comes = (
          has.refused,
          record {
            safe = now-safe (suc count) world on.stays;
            holds = record {
              shows = record {
                world = subst (λ (parts : WorldParts). ShowsWorld parts world) (sym has.same) (relogged old logged world (on.shows).world);
                outcomes = ap (λ (parts : WorldParts). parts.outcomes) has.same ∙ ap (λ (os : List Outcome). os ++ outcomes.NotRecovered has.why ∷ []) (on.shows).outcomes;
              };
              stays = stays-less count world on.stays;
              reached = on.reached;
            };
          },
        );
      };
    }

-- either
pub happening-on : MovesLaw → (happening : Happening) (old new : WorldParts) (count : ℕ) (world : World) (came : List Outcome) → IsOn old (suc count) world came → HasHappened happening old world new
    → LeadsTo (IsOn new count) (happening ∷ []) world came
happening-on law (happenings.Occurs event) old new count world came on has = event-on law event old new count world came on has
happening-on law (happenings.Recovers recovery) old new count world came on has = recovery-on recovery old new count world came on has

-- ---- one after another

-- what comes of a recovery leads on
comes-then : (A B : World → Type 0) → ((next : World) → A next → B next) → (recovery : Recovery) (world : World) (outcome : Outcome) → ComesOf A recovery world outcome → ComesOf B recovery world outcome
comes-then A B f recovery world outcomes.Recovered comes =
    let made = comes.1 in
    (comes.0, record { history = made.history; reached = made.reached; form = made.form; shows = made.shows; holds = f (recovered_world recovery.session recovery.given made.history world) made.holds })
comes-then A B f recovery world (outcomes.NotRecovered why) comes = (comes.0, f world comes.1)
comes-then A B f recovery world outcome comes = absurd comes

-- what happens, and then more
pub leads-then : (P Q : World → List Outcome → Type 0) (xs ys : List Happening) (world : World) (came : List Outcome)
    → ((last : World) (all : List Outcome) → P last all → LeadsTo Q ys last all) → LeadsTo P xs world came → LeadsTo Q (xs ++ ys) world came
leads-then P Q [] ys world came f leads = f world came leads.holds
leads-then P Q (happenings.Occurs event ∷ xs) ys world came f leads =
    record { safe = leads.safe; holds = leads-then P Q xs ys (occurs world event).world (came ++ (occurs world event).outcome ∷ []) f leads.holds }
leads-then P Q (happenings.Recovers recovery ∷ xs) ys world came f leads =
    let outcome : Outcome = (leads.holds).outcome in
    record {
      safe = leads.safe;
      holds = record {
        outcome = outcome;
        comes = comes-then (λ next. LeadsTo P xs next (came ++ outcome ∷ [])) (λ next. LeadsTo Q (xs ++ ys) next (came ++ outcome ∷ []))
            (λ next on. leads-then P Q xs ys next (came ++ outcome ∷ []) f on) recovery world outcome (leads.holds).comes;
      };
    }

-- what holds at the end
pub leads-so : (P Q : World → List Outcome → Type 0) (xs : List Happening) (world : World) (came : List Outcome)
    → ((last : World) (all : List Outcome) → P last all → Safe last × Q last all) → LeadsTo P xs world came → LeadsTo Q xs world came
leads-so P Q xs world came f leads =
    subst (λ (zs : List Happening). LeadsTo Q zs world came) (append-nil xs)
    (leads-then P Q xs [] world came (λ last all holds. record { safe = (f last all holds).0; holds = (f last all holds).1 }) leads)

-- there is a world to which it leads
comes-some : (A : World → Type 0) (X : Type 0) → ((next : World) → A next → X) → (recovery : Recovery) (world : World) (outcome : Outcome) → ComesOf A recovery world outcome → X
comes-some A X f recovery world outcomes.Recovered comes = f (recovered_world recovery.session recovery.given (comes.1).history world) (comes.1).holds
comes-some A X f recovery world (outcomes.NotRecovered why) comes = f world comes.1
comes-some A X f recovery world outcome comes = absurd comes

leads-some : (P : World → List Outcome → Type 0) (X : Type 0) (xs : List Happening) (world : World) (came : List Outcome)
    → ((last : World) (all : List Outcome) → P last all → X) → LeadsTo P xs world came → X
leads-some P X [] world came f leads = f world came leads.holds
leads-some P X (happenings.Occurs event ∷ xs) world came f leads = leads-some P X xs (occurs world event).world (came ++ (occurs world event).outcome ∷ []) f leads.holds
leads-some P X (happenings.Recovers recovery ∷ xs) world came f leads =
    comes-some (λ next. LeadsTo P xs next (came ++ (leads.holds).outcome ∷ [])) X (λ next on. leads-some P X xs next (came ++ (leads.holds).outcome ∷ []) f on) recovery world (leads.holds).outcome (leads.holds).comes

-- so what is shown is of a world
pub of-world : (shown : WorldParts) (count : ℕ) (xs : List Happening) (world : World) (came : List Outcome) → LeadsTo (IsOn shown count) xs world came → IsOfWorld shown
of-world shown count xs world came leads =
    leads-some (IsOn shown count) (IsOfWorld shown) xs world came (λ last all on. record { world = last; shows = (on.shows).world }) leads

-- events alone lead to the world of their run
pub events-lead : MovesLaw → (shown : WorldParts) (count : ℕ) (events : List Event) (world : World) (came : List Outcome)
    → ShowsRun shown (let run : Run = after_from world events in record { world = run.world; outcomes = came ++ run.outcomes }) → StaysSafe count world → IsReached world.history
    → LeadsTo (IsOn shown count) (map happenings.Occurs events) world came
events-lead law shown count [] world came shows stays reached =
    record {
      safe = now-safe count world stays;
      holds = record { shows = record { world = shows.world; outcomes = shows.outcomes ∙ append-nil came }; stays = stays; reached = reached };
    }
events-lead law shown count (event ∷ events) world came shows stays reached =
    let step = one-event world event law reached in
    let next : World = (occurs world event).world in
    let on : StaysSafe count next = subst (StaysSafe count) (step.comes).same_world (stays-on count world (step.comes).choices (step.comes).may stays) in
    record {
      safe = now-safe count world stays;
      holds = events-lead law shown count events next (came ++ (occurs world event).outcome ∷ [])
          (record { world = shows.world; outcomes = shows.outcomes ∙ sym (append_assoc came ((occurs world event).outcome ∷ []) (after_from next events).outcomes) }) on step.reached;
    }

-- ---- a schedule

-- what happened so far leads from the first world to the one that is shown, and that stays safe through so many recoveries, whatever number that is
abbrev pub IsOnFrom : Config → List Happening → WorldParts → Type 0
IsOnFrom config happenings shown = (count : ℕ) → LeadsTo (IsOn shown count) happenings (empty_world config) []

-- events at first
pub played-first : MovesLaw → RecoveryLaw → (config : Config) (events : List Event) (shown : WorldParts) → ShowsRun shown (after config events) → IsOnFrom config (map happenings.Occurs events) shown
played-first moves safe config events shown shows count =
    events-lead moves shown count events (empty_world config) [] (record { world = shows.world; outcomes = shows.outcomes }) (safe config count)
    (Begins (map node_id config.nodes) (record { session = 1; call = 0 }))

-- one thing more
pub played-more : MovesLaw → (config : Config) (others : List Happening) (happening : Happening) (old new : WorldParts) → IsOnFrom config others old → Happens happening old new
    → IsOnFrom config (others ++ happening ∷ []) new
played-more moves config others happening old new before happened count =
    leads-then (IsOn old (suc count)) (IsOn new count) others (happening ∷ []) (empty_world config) []
    (λ last all on. happening-on moves happening old new count last all on (happened last (on.shows).world)) (before (suc count))

-- so it is played
pub played-all : (config : Config) (all : List Happening) (shown : WorldParts) → IsOnFrom config all shown → IsPlayed (record { config = config; happenings = all }) shown
played-all config all shown before =
    leads-so (IsOn shown 0) (λ last came. ShowsRun shown (record { world = last; outcomes = came })) all (empty_world config) []
    (λ last came on. (now-safe 0 last on.stays, on.shows)) (before 0)

-- and is of a world on the way
pub played-world : (config : Config) (all : List Happening) (shown : WorldParts) → IsOnFrom config all shown → IsOfWorld shown
played-world config all shown before = of-world shown 0 all (empty_world config) [] (before 0)

-- an event happened
pub event-happened : {E : Type 0} → (event : Event) (old : WorldParts) (result : Result WorldParts E)
    → ((world : World) → ShowsWorld old world → IfOk result (λ new. ShowsWorld new (occurs world event).world))
    → ((world : World) → ShowsWorld old world → IfOk result (λ new. new.outcomes ≡ old.outcomes ++ (occurs world event).outcome ∷ []))
    → IfOk result (Happens (happenings.Occurs event) old)
event-happened event old (Ok new) leads logged = λ world shows. record { shows = leads world shows; logged = logged world shows }
event-happened event old (Err fault) leads logged = tt

-- a recovery
pub recovery-happened : {E : Type 0} → (recovery : Recovery) (nodes given : List (List ℕ)) (old : WorldParts) (result : Result WorldParts E) → nodes ≡ recovery.nodes → given ≡ recovery.given
    → ((world : World) → ShowsWorld old world → IfOk result (Recovering (record { nodes = nodes; session = recovery.session; given = given }) old world))
    → IfOk result (Happens (happenings.Recovers recovery) old)
recovery-happened recovery nodes given old (Ok new) listed stored comes =
    λ world shows. subst (λ (asks : worlds.Recovery). Recovering asks old world new) (λ i. record { nodes = listed i; session = recovery.session; given = stored i }) (comes world shows)
recovery-happened recovery nodes given old (Err fault) listed stored comes = tt
