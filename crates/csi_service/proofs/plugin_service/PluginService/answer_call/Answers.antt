-- A call of the plugin gets an answer, which tells what it changed; a refusal leaves what the record says.
use Rattle.std.proofs.Common.{◌≡◌, ◌∙◌, sym, ap, refl, subst, rules, Bool, true, false, Ok, Err, ◌∷◌, ◌++◌}
use Rattle.std.specs.Prelude.{◌≢◌, ◌↔◌, IsTrue, not, option_map, option_to_list}
use Rattle.csi_types.specs.declared.frame.Body.TheVariants as bodies
use Rattle.csi_types.specs.Public.Frame.{IsAllowed}
use Rattle.csi_types.specs.Public.Lent.{lent_call}
use Rattle.csi_stores.specs.Public.Part.{put_all, take_all}
use Rattle.csi_service.specs.declared.changed.Changed.{Changed}
use Rattle.csi_service.specs.Public.Plugins.{ServedPlugin, head_change, at_place}
use Rattle.csi_service.specs.Private.Plugins.{answer_frame, machine_of, party_of, RowsChange, AnswersCall}
use Rattle.csi_service.proofs.AnsweredFrames.{has-reply, some-answer, told-answer}
use Rattle.csi_service.proofs.RowChanges.{parts-changed, all-differ, all-fit, risen, nothing-told, as-before}
use Rattle.csi_service.proofs.plugin_service.PluginService.answer_call.Goals as goal

-- a head that isn't told as new has the same numbers, and one that is has others
stays : {X : Type 0} (same : Bool) (new old : X) → IsTrue same ↔ (new ≡ old) → not same ≡ false → new ≡ old
stays true new old tells e = tells.0 refl
stays false new old tells e = absurd cc

-- one that is told as new has other numbers
differs : {X : Type 0} (same : Bool) (new old : X) → IsTrue same ↔ (new ≡ old) → not same ≡ true → new ≢ old
differs same new old tells e equal = let yes : same ≡ true = tells.1 equal in cc

pub unwrap-answer-requires : goal.unwrap-answer-requires
unwrap-answer-requires g c =
    let view = g.P.Plugin.view in
    let plugin = c.self.inside.plugin in
    let number = c.args.number in
    let call = lent_call c.args.call.now in
    let s = c.plugin_law.ensures.shown in
    let reply = has-reply (machine_of view plugin) s.0 number call (λ begun. c.plugin_law.ensures.replies begun number call) in
    some-answer (answer_frame (party_of view plugin) number) c.in-Ok.answer reply.0 (c.in-Ok.ensures.gets s.0 s.1 ∙ reply.1)

pub returns-in_default : goal.returns-in_default
returns-in_default g c =
    let view = g.P.Plugin.view in
    let old = c.self.inside.plugin in
    let new = c.carry_out-carried.new.self in
    let s = c.plugin_law.ensures.shown in
    let err = c.in_default.ensures.err in
    let changed = c.self.inside.changed in
    let same = c.plugin_law.ensures.told new s.0 s.1 (c.in_default.ensures.err_shows s.0 s.1) in
    subst (λ (seen : ServedPlugin _). AnswersCall view seen (record { plugin = new; changed = c.self.inside.changed }) c.args.number (lent_call c.args.call.now) (Err (record {}))) c.self.view_is (record {
      answered = tt;
      allowed = tt;
      told = record {
        parts = tt;
        nothing = λ state shown same. tt;
        own = c.in_default.ensures.own;
        differs = tt;
        fit = tt;
        err_answers = λ frame reply next then. as-before view old new c.in_default.ensures.own same.numbers c.in_default.ensures.err_shows frame reply next.plugin then;
        err_shows = c.in_default.ensures.err_shows;
        err = λ i. err.0 i ∷ err.1 i;
        err_changes = λ i. head_change changed.new_head (err.0 i) ++ take_all changed.forgotten.items ++ put_all (option_to_list (at_place changed.row (err.1 i)));
      };
    })

pub returns : goal.returns
returns g c =
    let view = g.P.Plugin.view in
    let old = c.self.inside.plugin in
    let new = c.carry_out-carried.new.self in
    let number = c.args.number in
    let call = lent_call c.args.call.now in
    let answer = c.unwrap-answer.result in
    let same = c.eq-same_head.result in
    let before = c.numbers-before.ensures in
    let after = c.numbers.ensures in
    let equal : IsTrue same ↔ (c.numbers.result ≡ c.numbers-before.result) = search rules in
    let tells : IsTrue same ↔ (view.numbers new ≡ view.numbers old) = (λ yes. sym after ∙ equal.0 yes ∙ before, λ e. equal.1 (after ∙ e ∙ sym before)) in
    let rising = c.plugin_law.ensures.rising in
    let rising_too = c.plugin_law-2.ensures.rising in
    let changes = told-answer (λ a. RowsChange view a.row number old new) c.in-Ok.answer answer c.unwrap-answer.ensures c.in-Ok.ensures.changes in
    let changed : Changed = record { new_head = not same; forgotten = c.in_ok-forgotten.forgotten; row = answer.row } in
    let ids = c.in_ok-forgotten.ensures.ids in
    let differ = all-differ view old new changed number rising rising_too changes ids (differs same (view.numbers new) (view.numbers old) tells) in
    let own = c.in-Ok.ensures.own in
    subst (λ (seen : ServedPlugin _). AnswersCall view seen (record { plugin = new; changed = changed }) number call (Ok answer)) c.self.view_is (record {
      answered = record {
        own = own;
        session = (risen view old new changed number rising rising_too changes ids, c.plugin_law-2.ensures.session);
        gets = λ state shown. ap (option_map (answer_frame (party_of view old) number)) (sym c.unwrap-answer.ensures) ∙ c.in-Ok.ensures.gets state shown;
        leads = c.in-Ok.ensures.leads;
      };
      allowed = told-answer (λ a. IsAllowed (party_of view old) (bodies.Reply a.kind a.reply)) c.in-Ok.answer answer c.unwrap-answer.ensures c.in-Ok.ensures.allowed;
      told = record {
        parts = parts-changed view old new changed number rising rising_too changes ids
            (λ e. let numbers = stays same (view.numbers new) (view.numbers old) tells e in λ i. record { key = 0; value = view.head (own i) (numbers i) }) c.in_ok-forgotten.ensures.limits c.id_law.ensures;
        nothing = λ state shown leaves. nothing-told view old new changed (c.plugin_law.ensures.told new state shown (subst (view.Shows new) leaves (c.in-Ok.ensures.leads state shown))) differ;
        own = own;
        differs = differ;
        fit = all-fit view old new changed number rising rising_too changes ids;
        err_answers = tt;
        err_shows = λ state shown. tt;
        err = tt;
        err_changes = tt;
      };
    })
