-- What is read as a schedule of events alone is read as a schedule.
use Rattle.std.proofs.Common.{◌≡◌, ℕ, suc, List, [], ◌∷◌, length, map, Bool, true, false, cond, refl, ap, nat_lt}
use Rattle.std.specs.Prelude.{Option, Some, None, Result, Ok, Err}
use Rattle.serde_json.specs.Data.{Data}
use Rattle.serde_json.specs.Read.{read}
use Rattle.csi_types.specs.Model.Config.{Config}
use Rattle.csi_types.specs.declared.event.Event.{Event}
use Rattle.csi_json.specs.declared.fault.ScheduleFault.{ScheduleFault}
use Rattle.csi_json.specs.declared.fault.ScheduleFault.TheVariants.{TooMany}
use Rattle.csi_json.specs.declared.happening.Happening.TheVariants.{Occurs}
use Rattle.csi_json.specs.Private.EventSchedules as events
use Rattle.csi_json.specs.Public.Events.{event_of}
use Rattle.csi_json.specs.Public.Happenings.{happening_of, happening_by, recovery_in}
use Rattle.csi_json.specs.Public.Json.{read_all, read_first}
use Rattle.csi_json.specs.Public.Schedule as schedules
use Rattle.csi_json.specs.Public.Schedule.{config_and_events}

-- where all are read as events
all-happen : (ds : List Data) (place : ℕ) (es : List Event) → read_all event_of place ds ≡ Ok es → read_all happening_of place ds ≡ Ok (map Occurs es)
all-happen [] place es h = let same : [] ≡ es = cc in rw (← same) refl
all-happen (d ∷ ds) place es h = by (λ others e. all-happen ds (suc place) others e) (event_of d) (read_all event_of (suc place) ds) refl h
  where
    by : ((others : List Event) → read_all event_of (suc place) ds ≡ Ok others → read_all happening_of (suc place) ds ≡ Ok (map Occurs others))
        → (o : Option Event) (r : Result (List Event) ℕ) → read_all event_of (suc place) ds ≡ r → read_first place o r ≡ Ok es
        → read_first place (happening_by o (recovery_in d)) (read_all happening_of (suc place) ds) ≡ Ok (map Occurs es)
    by more None r e h = absurd (cc)
    by more (Some event) (Err bad) e h = absurd (cc)
    by more (Some event) (Ok others) e h =
        let same : event ∷ others ≡ es = cc in
        let rest : read_all happening_of (suc place) ds ≡ Ok (map Occurs others) = more others e in
        rw (rest, ← same) refl

-- and they are few enough
listed : (ds : List Data) (es : List Event) → events.events_of ds ≡ Ok es → schedules.happenings_of ds ≡ Ok (map Occurs es)
unfolding events.events_of schedules.happenings_of
listed ds es h = by (nat_lt 100000 (length ds)) (read_all event_of 1 ds) refl h
  where
    by : (b : Bool) (r : Result (List Event) ℕ) → read_all event_of 1 ds ≡ r → cond b (Err TooMany) (events.events_or_fault r) ≡ Ok es
        → cond b (Err TooMany) (schedules.happenings_or_fault (read_all happening_of 1 ds)) ≡ Ok (map Occurs es)
    by true r e h = absurd (cc)
    by false (Err bad) e h = absurd (cc)
    by false (Ok others) e h =
        let same : others ≡ es = cc in
        let rest : read_all happening_of 1 ds ≡ Ok (map Occurs others) = all-happen ds 1 others e in
        rw (rest, ← same) refl

-- with a configuration
configured : (parts : Option (Config × List Data)) (config : Config) (es : List Event) → events.schedule_in parts ≡ Ok (record { config = config; events = es })
    → schedules.schedule_in parts ≡ Ok (record { config = config; happenings = map Occurs es })
configured None config es h = absurd (cc)
configured (Some parts) config es h = by (events.events_of parts.1) refl h
  where
    the : Result events.Schedule ScheduleFault → events.Schedule
    the (Ok schedule) = schedule
    the (Err fault) = record { config = config; events = es }

    by : (r : Result (List Event) ScheduleFault) → events.events_of parts.1 ≡ r → events.with_events parts.0 r ≡ Ok (record { config = config; events = es })
        → schedules.with_happenings parts.0 (schedules.happenings_of parts.1) ≡ Ok (record { config = config; happenings = map Occurs es })
    by (Err fault) e h = absurd (cc)
    by (Ok others) e h =
        let same : (events.with_events parts.0 (Ok others)) ≡ Ok (record { config = config; events = es }) = h in
        let own : parts.0 ≡ config = ap (λ r. (the r).config) same in
        let each : others ≡ es = ap (λ r. (the r).events) same in
        rw (listed parts.1 others e, own, each) refl

-- a text
pub events_happen : (text : List ℕ) (config : Config) (es : List Event) → events.text_schedule text ≡ Ok (record { config = config; events = es })
    → schedules.text_schedule text ≡ Ok (record { config = config; happenings = map Occurs es })
events_happen text config es h = by (read text) h
  where
    by : (o : Option Data) → events.schedule_read o ≡ Ok (record { config = config; events = es }) → schedules.schedule_read o ≡ Ok (record { config = config; happenings = map Occurs es })
    by None h = absurd (cc)
    by (Some d) h = configured (config_and_events d) config es h
