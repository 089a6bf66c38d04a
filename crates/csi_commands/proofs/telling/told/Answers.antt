-- Where something settles, the schedule is told anew, and else as it is.
use Rattle.std.proofs.Common.{◌≡◌, List, map, Bool, true, false, ◌||◌, refl, sym, ◌∙◌, ap}
use Rattle.std.specs.List.{list_any}
use Rattle.std.proofs.lemmas.Bool.{true≢false}
use Rattle.csi_types.specs.declared.event.Event.{Event}
use Rattle.csi_json.specs.declared.happening.Happening.TheVariants.{Occurs}
use Rattle.csi_commands.specs.Public.Running.{settles}
use Rattle.csi_commands.proofs.ToldSchedules.{any-first, told-as, told-same}
use Rattle.csi_commands.proofs.telling.told.Goals as goal
use Rattle.csi_commands.proofs.telling.told.Goals.{then-has_settling, else-has_settling}

pub returns-then-has_settling_on : goal.returns-then-has_settling_on
returns-then-has_settling_on c =
    let schedule = c.args.schedule in
    let settling : List Event → Bool = list_any (λ (event : Event). settles (Occurs event)) in
    let first : list_any settles (map Occurs schedule.events.items) ≡ c.has_settling.result =
    any-first schedule.events.items ∙ ap settling (sym c.deref.ensures.value) ∙ sym c.has_settling.ensures in
    let some : (list_any settles (map Occurs schedule.events.items) || list_any settles schedule.on.items) ≡ true =
    elim c.if-has_settling.branch [
      | then-has_settling w ↦ let here : list_any settles (map Occurs schedule.events.items) ≡ true = first ∙ w.if-has_settling.true in rw here refl
      | else-has_settling w ↦
          let none : list_any settles (map Occurs schedule.events.items) ≡ false = first ∙ w.if-has_settling.false in
          let behind : list_any settles schedule.on.items ≡ true =
          ap (list_any settles) (sym w.deref-else-has_settling.ensures.value) ∙ sym w.has_settling_on.ensures ∙ sym w.value-is ∙ c.if-has_settling_on.true in
          rw (none, behind) refl
    ] in
    λ begins. told-as schedule c.retold.result begins some c.retold.ensures.config c.retold.ensures.events c.retold.ensures.alone

pub returns-else-has_settling_on : goal.returns-else-has_settling_on
returns-else-has_settling_on c =
    let schedule = c.args.schedule in
    let settling : List Event → Bool = list_any (λ (event : Event). settles (Occurs event)) in
    let first : list_any settles (map Occurs schedule.events.items) ≡ c.has_settling.result =
    any-first schedule.events.items ∙ ap settling (sym c.deref.ensures.value) ∙ sym c.has_settling.ensures in
    let both : (list_any settles (map Occurs schedule.events.items) ≡ false) × (list_any settles schedule.on.items ≡ false) =
    elim c.if-has_settling.branch [
      | then-has_settling w ↦ absurd (true≢false (sym w.if-has_settling.true ∙ sym w.value-is ∙ c.if-has_settling_on.false))
      | else-has_settling w ↦ (
        first ∙ w.if-has_settling.false,
        ap (list_any settles) (sym w.deref-else-has_settling.ensures.value) ∙ sym w.has_settling_on.ensures ∙ sym w.value-is ∙ c.if-has_settling_on.false,
      )
    ] in
    λ begins. told-same schedule.config schedule.events.items schedule.on.items both.0 both.1
