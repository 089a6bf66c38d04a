-- One member, by the goal.
use Rattle.std.proofs.Common.{◌≡◌, ◌++◌, ◌∷◌, [], ap, refl, codes, subst, sym}
use Rattle.std.proofs.lemmas.Result.{on_ok_weaker}
use Rattle.json.specs.Token.{begin_object, key}
use Rattle.json.specs.Tree.{json_tokens}
use Rattle.serde_json.specs.Written.{outline}
use Rattle.csi_orchestrator.specs.declared.row.Goal.{Goal}
use Rattle.csi_orchestrator.specs.Model.Shown.{goal_shown}
use Rattle.csi_reports.specs.Public.Goals.{create_entry, wanted_entry}
use Rattle.csi_reports.proofs.WrittenSteps.{next, of_text}
use Rattle.csi_reports.proofs.goals.write_wanted.Goals as goal

pub returns-in_ok-write_create-in-Create : goal.returns-in_ok-write_create-in-Create
returns-in_ok-write_create-in-Create c =
    let writes : Goal → Type 0 = λ kept. c.end_object.new.self ≡ c.args.out.now ++ json_tokens (outline (wanted_entry c.args.name.now (goal_shown c.args.arguments.now kept))) in
    on_ok_weaker c.end_object.result
    (λ last. subst writes (sym c.in-Create.is)
    (next _ _ _ _ (begin_object ∷ []) _ c.in_ok-begin_object.ensures refl
    (next _ _ _ _ (key (codes "create") ∷ []) _ c.in_ok-key-in-Create.ensures refl
    (next _ _ _ _ (json_tokens (outline (create_entry c.args.name.now c.args.arguments.now))) _ c.in_ok-write_create-in-Create.ensures refl last))))
    c.end_object.ensures

pub returns-in_ok-write_use-in-Use : goal.returns-in_ok-write_use-in-Use
returns-in_ok-write_use-in-Use c =
    let writes : Goal → Type 0 = λ kept. c.end_object-in-Use.new.self ≡ c.args.out.now ++ json_tokens (outline (wanted_entry c.args.name.now (goal_shown c.args.arguments.now kept))) in
    on_ok_weaker c.end_object-in-Use.result
    (λ last. subst writes (sym c.in-Use.is)
    (next _ _ _ _ (begin_object ∷ []) _ c.in_ok-begin_object.ensures refl
    (next _ _ _ _ (key (codes "use") ∷ []) _ c.in_ok-key-in-Use.ensures refl
    (next _ _ _ _ _ _ c.in_ok-write_use-in-Use.ensures refl last))))
    c.end_object-in-Use.ensures

pub returns-in_ok-write_stop-in-Stop : goal.returns-in_ok-write_stop-in-Stop
returns-in_ok-write_stop-in-Stop c =
    let writes : Goal → Type 0 = λ kept. c.end_object-in-Stop.new.self ≡ c.args.out.now ++ json_tokens (outline (wanted_entry c.args.name.now (goal_shown c.args.arguments.now kept))) in
    on_ok_weaker c.end_object-in-Stop.result
    (λ last. subst writes (sym c.in-Stop.is)
    (next _ _ _ _ (begin_object ∷ []) _ c.in_ok-begin_object.ensures refl
    (next _ _ _ _ (key (codes "stop") ∷ []) _ c.in_ok-key-in-Stop.ensures refl
    (next _ _ _ _ _ _ c.in_ok-write_stop-in-Stop.ensures refl last))))
    c.end_object-in-Stop.ensures

pub returns-in_ok-put_text-in-Delete : goal.returns-in_ok-put_text-in-Delete
returns-in_ok-put_text-in-Delete c =
    let writes : Goal → Type 0 = λ kept. c.end_object-in-Delete.new.self ≡ c.args.out.now ++ json_tokens (outline (wanted_entry c.args.name.now (goal_shown c.args.arguments.now kept))) in
    on_ok_weaker c.end_object-in-Delete.result
    (λ last. subst writes (sym c.in-Delete.is)
    (next _ _ _ _ (begin_object ∷ []) _ c.in_ok-begin_object.ensures refl
    (next _ _ _ _ _ _ c.in_ok-put_text-in-Delete.ensures (ap (of_text (codes "delete")) c.as_str.ensures.value) last)))
    c.end_object-in-Delete.ensures
