use Rattle.std.proofs.Common.{◌∙◌, ap, sym, ◌++◌, Option, option_map, Result, Ok, Err}
use Rattle.std.specs.Prelude.{OnOk}
use Rattle.std.specs.List.{flat_map}
use Rattle.std.specs.Option.{option_to_list}
use Rattle.std.proofs.lemmas.List.{append-nil}
use Rattle.csi_types.specs.Public.Lent.{lent_call}
use Rattle.csi_types.specs.Model.Replies.{call_frame}
use Rattle.csi_frames.specs.Public.Spelling.{spelling}
use Rattle.csi_fence.specs.declared.answer.Answer.{Answer}
use Rattle.csi_controller.specs.Model.State.{empty_controller}
use Rattle.csi_controller.specs.Public.Fenced.{after_frames}
use Rattle.csi_controller.specs.Public.Step.{answer_frame}
use Rattle.csi_streams.specs.Public.Replay.{replay_config}
use Rattle.csi_streams.proofs.Answered.{answered_more}
use Rattle.csi_streams.proofs.answers.answer_call.Goals as goal

-- what follows from a success where it succeeds
on_ok : {A E P Q : Type 0} (result : Result A E) → (P → Q) → OnOk result P → OnOk result Q
on_ok (Ok a) follows p = follows p
on_ok (Err e) follows p = tt

pub returns-in-Ok-Some-clause-ok : goal.returns-in-Ok-Some-clause-ok
returns-in-Ok-Some-clause-ok c = λ frames party has allowed fit.
    let state = after_frames replay_config empty_controller frames in
    on_ok c.append.result
    (λ appended.
    answered_more frames (call_frame c.args.number party (lent_call c.args.call.now)) c.args.controller.now c.answer.new.self (option_map (answer_frame c.args.number) c.in-Ok-Some.field-0) c.args.out.now.items c.append.new.out.items has
    (c.in-Ok-Some.ensures.reply state party has.shown allowed fit) (c.in-Ok-Some.ensures.state state party has.shown allowed fit) c.answer.ensures.config
    (appended ∙ ap (λ (own : Option Answer). c.args.out.now.items ++ flat_map spelling (option_to_list (option_map (answer_frame c.args.number) own))) (sym c.in-Ok-Some.field-0-is)))
    c.append.ensures.ok

pub returns-in-Ok-None-clause-ok : goal.returns-in-Ok-None-clause-ok
returns-in-Ok-None-clause-ok c = λ frames party has allowed fit.
    let state = after_frames replay_config empty_controller frames in
    answered_more frames (call_frame c.args.number party (lent_call c.args.call.now)) c.args.controller.now c.answer.new.self (option_map (answer_frame c.args.number) c.in-Ok-None.field-0) c.args.out.now.items c.args.out.now.items has
    (c.in-Ok-None.ensures.reply state party has.shown allowed fit) (c.in-Ok-None.ensures.state state party has.shown allowed fit) c.answer.ensures.config
    (sym (append-nil c.args.out.now.items) ∙ ap (λ (own : Option Answer). c.args.out.now.items ++ flat_map spelling (option_to_list (option_map (answer_frame c.args.number) own))) (sym c.in-Ok-None.field-0-is))
