-- A later session begins, seen thing by thing: what becomes of a call in its session becomes of it in the session before.
use Rattle.std.proofs.Common.{◌≡◌, ◌⊎◌, ◌≤◌, ◌<◌, ℕ, Bool, true, false, cond, refl, sym, ◌∙◌, ap, inl, inr, arith}
use Rattle.std.specs.Prelude.{◌||◌, Option, Some, None, IsTrue}
use Rattle.std.proofs.lemmas.Bool.{or_cases, or_left, or_right, or_from, false≢true, true≢false, ltb-true}
use Rattle.csi_types.specs.declared.number.Number.{Number}
use Rattle.csi_types.specs.declared.call.Call.{Call}
use Rattle.csi_types.specs.declared.call.Party.{Party}
use Rattle.csi_types.specs.Model.Frame.{Frame}
use Rattle.csi_types.specs.Public.PluginThing.{PluginThing, ThingForm}
use Rattle.csi_fence.specs.Public.Delivery.{PluginView, view_by, Delivery, kept_of, last_of, Acts, Misses, CallBecomes, IsDelivered}
use Rattle.csi_fence.specs.Model.Fence.{Kept, is_spent, is_over, begins}
use Rattle.csi_fence.specs.Model.Fenced.{Machine, in_session}
use Rattle.csi_fence.proofs.Spent.{spent-session, fresh_in-later, over-from, over-later, not_over-own}

-- the session of this number began: things are as they were, what was spent stays so, the number isn't spent, and what is kept was
-- kept before, or nothing is kept any more
pub record HasBegun (number : Number) (old new : PluginView) : Type 0 where
  pub held : (thing : PluginThing) → new.held thing ≡ old.held thing
  pub stays_spent : (thing : PluginThing) (earlier : Number) → IsTrue (old.is_spent thing earlier) → IsTrue (new.is_spent thing earlier)
  pub fresh : (thing : PluginThing) → new.is_spent thing number ≡ false
  pub keeps : (thing : PluginThing) → (new.kept thing ≡ old.kept thing) ⊎ (new.kept thing ≡ None)

-- a call that acts once its session has begun acts
pub acts-begun : (thing : PluginThing) (delivery : Delivery) (old begun new : PluginView) → HasBegun delivery.number old begun → Acts thing delivery begun new → Acts thing delivery old new
acts-begun thing delivery old begun new has acts =
    record {
      of_its_kind = acts.of_its_kind;
      with_id = acts.with_id;
      was_fresh = not_spent (old.is_spent thing delivery.number) refl;
      done = acts.done;
      spent = acts.spent;
      refused = λ not_ok. acts.refused not_ok ∙ has.held thing;
      others = λ other differ. acts.others other differ ∙ has.held other;
      stays_spent = λ other number spent. acts.stays_spent other number (has.stays_spent other number spent);
      keeps = λ other. by other (has.keeps other) (acts.keeps other);
    }
  where
    not_spent : (b : Bool) → old.is_spent thing delivery.number ≡ b → old.is_spent thing delivery.number ≡ false
    not_spent false e = e
    not_spent true e = absurd (true≢false (sym (has.stays_spent thing delivery.number e) ∙ has.fresh thing))

    by : (other : PluginThing) → (begun.kept other ≡ old.kept other) ⊎ (begun.kept other ≡ None)
        → (new.kept other ≡ begun.kept other) ⊎ (new.kept other ≡ Some (kept_of delivery)) ⊎ (new.kept other ≡ None)
        → (new.kept other ≡ old.kept other) ⊎ (new.kept other ≡ Some (kept_of delivery)) ⊎ (new.kept other ≡ None)
    by other (inl same) (inl e) = inl (e ∙ same)
    by other (inr none) (inl e) = inr (inr (e ∙ none))
    by other (inl same) (inr f) = inr f
    by other (inr none) (inr f) = inr f

-- one that misses then misses
pub misses-begun : (delivery : Delivery) (old begun new : PluginView) → HasBegun delivery.number old begun → Misses delivery begun new → Misses delivery old new
misses-begun delivery old begun new has misses =
    record {
      of_its_kind = misses.of_its_kind;
      with_id = misses.with_id;
      undoes = misses.undoes;
      held = λ thing. misses.held thing ∙ has.held thing;
      stays_spent = λ thing number spent. misses.stays_spent thing number (has.stays_spent thing number spent);
      keeps = λ thing. by thing (has.keeps thing) (misses.keeps thing);
    }
  where
    by : (thing : PluginThing) → (begun.kept thing ≡ old.kept thing) ⊎ (begun.kept thing ≡ None) → (new.kept thing ≡ begun.kept thing) ⊎ (new.kept thing ≡ None) → (new.kept thing ≡ old.kept thing) ⊎ (new.kept thing ≡ None)
    by thing (inl same) (inl e) = inl (e ∙ same)
    by thing (inr none) (inl e) = inr (e ∙ none)
    by thing (inl same) (inr f) = inr f
    by thing (inr none) (inr f) = inr f

-- and none rests, since its number isn't spent
pub becomes-begun : (o : Option PluginThing) (delivery : Delivery) (old begun new : PluginView) → HasBegun delivery.number old begun → CallBecomes o delivery begun new → CallBecomes o delivery old new
becomes-begun None delivery old begun new has misses = misses-begun delivery old begun new has misses
becomes-begun (Some thing) delivery old begun new has (inl acts) = inl (acts-begun thing delivery old begun new has acts)
becomes-begun (Some thing) delivery old begun new has (inr rests) = absurd (true≢false (sym rests.was_spent ∙ has.fresh thing))

-- a call that is delivered once its session has begun is delivered
pub delivered-begun : (party : Party) (number : Number) (call : Call) (o : Option PluginThing) (old begun new : PluginView) (answer : Option Frame) → HasBegun number old begun
    → IsDelivered party number call o begun new answer → IsDelivered party number call o old new answer
delivered-begun party number call o old begun new answer has delivered =
    record {
      kind = delivered.kind;
      reply = delivered.reply;
      is_answer = delivered.is_answer;
      becomes = becomes-begun o (record { number = number; call = call; kind = delivered.kind; reply = delivered.reply }) old begun new has delivered.becomes;
    }

-- a call that is delivered in the state in which it is judged is delivered
pub delivered-in_session : {State : Type 0} (machine : Machine State) (view : State → PluginView) (state : State) (party : Party) (number : Number) (call : Call) (o : Option PluginThing) (new : PluginView) (answer : Option Frame)
    → (begins (machine.session state) number ≡ true → HasBegun number (view state) (view (machine.begun number.session state)))
    → IsDelivered party number call o (view (in_session machine number state)) new answer → IsDelivered party number call o (view state) new answer
delivered-in_session {State = State} machine view state party number call o new answer has = by (begins (machine.session state) number) refl
  where
    by : (b : Bool) → begins (machine.session state) number ≡ b → IsDelivered party number call o (view (cond b (machine.begun number.session state) state)) new answer
        → IsDelivered party number call o (view state) new answer
    by true later delivered = delivered-begun party number call o (view state) (view (machine.begun number.session state)) new answer (has later) delivered
    by false same delivered = delivered

-- what is kept is of no later session than this
abbrev pub IsUpTo : ℕ → Option Kept → Type 0
IsUpTo session kept = (this : Kept) → kept ≡ Some this → this.number.session ≤ session

-- then each number that it spends is of no later session
last-session : (session : ℕ) (kept : Option Kept) (number : Number) → IsUpTo session kept → is_spent (last_of kept) number ≡ true → number.session ≤ session
last-session session None number up spent = absurd (false≢true spent)
last-session session (Some kept) number up spent = omega (arith, up kept refl, spent-session kept.number number spent)

-- and a number of a later one is fresh
later-fresh : (session : ℕ) (kept : Option Kept) (number : Number) → IsUpTo session kept → session < number.session → is_spent (last_of kept) number ≡ false
later-fresh session None number up later = refl
later-fresh session (Some kept) number up later = fresh_in-later kept.number number (omega (arith, up kept refl, later))

-- a later session began so, where things stay, and what was kept stays or goes
pub has-begun : (session : ℕ) (number : Number) (held now_held : PluginThing → Option ThingForm) (kept now_kept : PluginThing → Option Kept) → begins session number ≡ true
    → ((thing : PluginThing) → now_held thing ≡ held thing) → ((thing : PluginThing) → (now_kept thing ≡ kept thing) ⊎ (now_kept thing ≡ None)) → ((thing : PluginThing) → IsUpTo session (kept thing))
    → HasBegun number (view_by session held kept) (view_by number.session now_held now_kept)
has-begun session number held now_held kept now_kept begins_it same either up =
    record {
      held = same;
      stays_spent = λ thing earlier spent. stays thing earlier (either thing) (or_cases (is_over session earlier) (is_spent (last_of (kept thing)) earlier) spent);
      fresh = λ thing. or_from (is_over number.session number) (is_spent (last_of (now_kept thing)) number) (not_over-own number.session number refl) (fresh thing (either thing));
      keeps = either;
    }
  where
    later : session < number.session
    later = ltb-true session number.session begins_it

    stays : (thing : PluginThing) (earlier : Number) → (now_kept thing ≡ kept thing) ⊎ (now_kept thing ≡ None) → (is_over session earlier ≡ true) ⊎ (is_spent (last_of (kept thing)) earlier ≡ true)
        → (is_over number.session earlier || is_spent (last_of (now_kept thing)) earlier) ≡ true
    stays thing earlier e (inl over) =
        or_left (is_over number.session earlier) (is_spent (last_of (now_kept thing)) earlier) (over-later session number.session earlier (omega (arith, later)) over)
    stays thing earlier (inl e) (inr last) =
        or_right (is_over number.session earlier) (is_spent (last_of (now_kept thing)) earlier) (ap (λ (o : Option Kept). is_spent (last_of o) earlier) e ∙ last)
    stays thing earlier (inr none) (inr last) =
        or_left (is_over number.session earlier) (is_spent (last_of (now_kept thing)) earlier)
        (over-from number.session earlier (omega (arith, later, last-session session (kept thing) earlier (up thing) last)))

    fresh : (thing : PluginThing) → (now_kept thing ≡ kept thing) ⊎ (now_kept thing ≡ None) → is_spent (last_of (now_kept thing)) number ≡ false
    fresh thing (inl e) = ap (λ (o : Option Kept). is_spent (last_of o) number) e ∙ later-fresh session (kept thing) number (up thing) later
    fresh thing (inr none) = ap (λ (o : Option Kept). is_spent (last_of o) number) none
