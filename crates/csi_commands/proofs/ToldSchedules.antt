-- A schedule that is told by events that settle nothing.
use Rattle.std.proofs.Common.{◌≡◌, List, [], ◌∷◌, ◌++◌, map, Bool, true, false, ◌||◌, refl, sym, ◌∙◌, ap, subst, append-nil}
use Rattle.std.specs.Prelude.{Result, Ok, Err, IfOk}
use Rattle.std.specs.List.{list_any}
use Rattle.std.proofs.lemmas.Bool.{true≢false}
use Rattle.csi_types.specs.Model.Config.{Config}
use Rattle.csi_types.specs.declared.event.Event.{Event}
use Rattle.csi_json.specs.declared.happening.Happening.{Happening}
use Rattle.csi_json.specs.declared.happening.Happening.TheVariants.{Occurs, Recovers}
use Rattle.csi_json.specs.declared.schedule.Schedule as kept
use Rattle.csi_json.specs.Public.Schedule.{Schedule, schedule_shown, BeginsWithRecovery}
use Rattle.csi_world.specs.Public.Settling.{spelled_out}
use Rattle.csi_commands.specs.Public.Running.{settles, IsToldAs}
use Rattle.csi_commands.proofs.SpelledAlone.{told-alone}

-- a schedule of first events, and of what happens behind them
abbrev pub of-parts : Config → List Event → List Happening → Schedule
of-parts config events on = record { config = config; happenings = map Occurs events ++ on }

-- something of two lists settles
any-joined : (xs ys : List Happening) → list_any settles (xs ++ ys) ≡ (list_any settles xs || list_any settles ys)
any-joined [] ys = refl
any-joined (x ∷ xs) ys = by (any-joined xs ys) (settles x)
  where
    by : list_any settles (xs ++ ys) ≡ (list_any settles xs || list_any settles ys) → (b : Bool) → (b || list_any settles (xs ++ ys)) ≡ ((b || list_any settles xs) || list_any settles ys)
    by rest true = refl
    by rest false = rest

-- where nothing settles, it tells itself
pub told-same : (config : Config) (events : List Event) (on : List Happening) → list_any settles (map Occurs events) ≡ false → list_any settles on ≡ false
    → IsToldAs (of-parts config events on) (of-parts config events on)
told-same config events on first behind =
    record {
      config = refl;
      alone = λ none. refl;
      events = λ all same. same ∙ ap (map Occurs) (told-alone config all (subst (λ (hs : List Happening). list_any settles hs ≡ false) same none));
    }
  where
    none : list_any settles (map Occurs events ++ on) ≡ false
    none = any-joined (map Occurs events) on ∙ rw first behind

-- events alone have nothing behind them
only-events : (events : List Event) (on : List Happening) (all : List Event) → BeginsWithRecovery on → map Occurs events ++ on ≡ map Occurs all → (on ≡ []) × (events ≡ all)
only-events [] [] [] begins same = (refl, refl)
only-events [] [] (event ∷ all) begins same = absurd (cc)
only-events [] (Recovers recovery ∷ on) [] begins same = absurd (cc)
only-events [] (Recovers recovery ∷ on) (event ∷ all) begins same = absurd (cc)
only-events [] (Occurs event ∷ on) all begins same = absurd begins
only-events (event ∷ events) on [] begins same = absurd (cc)
only-events (event ∷ events) on (other ∷ all) begins same =
    let first : event ≡ other = cc in
    let rest : map Occurs events ++ on ≡ map Occurs all = cc in
    let both = only-events events on all begins rest in
    (both.0, λ i. first i ∷ both.1 i)

-- where something settles, the first events are told one by one
pub told-so : (config : Config) (events told : List Event) (on behind : List Happening) → BeginsWithRecovery on → (list_any settles (map Occurs events) || list_any settles on) ≡ true
    → told ≡ spelled_out config events → (on ≡ [] → behind ≡ []) → IsToldAs (of-parts config events on) (of-parts config told behind)
told-so config events told on behind begins some is none =
    record {
      config = refl;
      alone = λ nothing. absurd (true≢false (sym some ∙ sym (any-joined (map Occurs events) on) ∙ nothing));
      events = λ all same.
          let both = only-events events on all begins same in
          ap (λ (hs : List Happening). map Occurs told ++ hs) (none both.0) ∙ append-nil (map Occurs told) ∙ ap (map Occurs) (is ∙ ap (spelled_out config) both.1);
    }

-- one of the first events settles
pub any-first : (events : List Event) → list_any settles (map Occurs events) ≡ list_any (λ (event : Event). settles (Occurs event)) events
any-first [] = refl
any-first (event ∷ events) = ap (λ (b : Bool). settles (Occurs event) || b) (any-first events)

-- so what was told is told so
pub told-as : {E : Type 0} → (schedule : kept.Schedule) (result : Result kept.Schedule E) → BeginsWithRecovery (schedule.on).items
    → (list_any settles (map Occurs (schedule.events).items) || list_any settles (schedule.on).items) ≡ true → IfOk result (λ told. told.config ≡ schedule.config)
    → IfOk result (λ told. (told.events).items ≡ spelled_out schedule.config (schedule.events).items) → ((schedule.on).items ≡ [] → IfOk result (λ told. (told.on).items ≡ []))
    → IfOk result (λ told. IsToldAs (schedule_shown schedule) (schedule_shown told))
told-as schedule (Err fault) begins some config events none = tt
told-as schedule (Ok told) begins some config events none =
    subst (λ (c : Config). IsToldAs (schedule_shown schedule) (of-parts c (told.events).items (told.on).items)) (sym config)
    (told-so schedule.config (schedule.events).items (told.events).items (schedule.on).items (told.on).items begins some events none)
