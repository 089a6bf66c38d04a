-- A machine that does what another does answers each call as that does.
use Rattle.std.proofs.Common.{ℕ, Bool, true, false, cond, ap, subst}
use Rattle.std.specs.Prelude.{Option, Some, None, IsTrue}
use Rattle.csi_types.specs.declared.number.Number.{Number}
use Rattle.csi_types.specs.declared.call.Call.{Call}
use Rattle.csi_types.specs.declared.call.Kind.{Kind}
use Rattle.csi_types.specs.declared.call.Party.{Party}
use Rattle.csi_types.specs.declared.reply.Reply.{Reply}
use Rattle.csi_types.specs.Model.Call.{kind_of}
use Rattle.csi_types.specs.Model.Replies.{stale_reply, reply_frame}
use Rattle.csi_types.specs.Public.Call.{is_party_of}
use Rattle.csi_fence.specs.declared.fence.Verdict.{Verdict}
use Rattle.csi_fence.specs.declared.fence.Verdict.TheVariants.{Stale, Repeated, Fresh}
use Rattle.csi_fence.specs.Model.Fence.{Kept, verdict_of, is_over, begins}
use Rattle.csi_fence.specs.Model.Fenced.{Machine, Fenced, answered_only, judged, answered_in, fenced_call}
use Rattle.csi_fence.specs.Public.Simulating.{AreAlike, Simulates}

module _ {A B : Type 0} (a : Machine A) (b : Machine B) (is_sound : A → Type 0) (shows : A → B → Type 0) (is : Simulates a b is_sound shows) where
  -- an answer that changes nothing
  alike-only : (number : Number) (kind : Kind) (reply : Reply) (old : A) (state : B) → shows old state → AreAlike shows (answered_only a old number kind reply) (answered_only b state number kind reply)
  alike-only number kind reply old state same = record { reply = ap (λ (party : Party). Some (reply_frame number party kind reply)) is.party; after = same }

  -- a call is judged alike, by what is kept
  alike-judged : (number : Number) (call : Call) (old : A) (state : B) → IsTrue (is_party_of (kind_of call) a.party) → is_sound old → shows old state → (kept : Option Kept)
      → AreAlike shows (fenced_call a old number call kept) (fenced_call b state number call kept)
  alike-judged number call old state own sound same None = is.carried_out number call old state own sound same
  alike-judged number call old state own sound same (Some kept) = by (verdict_of (Some kept.number) number)
    where
      by : (verdict : Verdict) → AreAlike shows (judged a old number call kept verdict) (judged b state number call kept verdict)
      by Stale = alike-only number (kind_of call) stale_reply old state same
      by Repeated = alike-only number kept.kind kept.reply old state same
      by Fresh = is.carried_out number call old state own sound same

  -- and by what each of them keeps
  alike-fenced : (number : Number) (call : Call) (old : A) (state : B) → IsTrue (is_party_of (kind_of call) a.party) → is_sound old → shows old state
      → AreAlike shows (fenced_call a old number call (a.kept_for call old)) (fenced_call b state number call (b.kept_for call state))
  alike-fenced number call old state own sound same =
      subst (λ (kept : Option Kept). AreAlike shows (fenced_call a old number call (a.kept_for call old)) (fenced_call b state number call kept)) (is.kept_for call old state same)
      (alike-judged number call old state own sound same (a.kept_for call old))

  -- the state in which a call is judged, by whether it begins a session
  abbrev judged_in : {S : Type 0} → Machine S → Bool → Number → S → S
  judged_in machine later number state = cond later (machine.begun number.session state) state

  -- a call is answered alike, by whether it is over and whether it begins a session
  alike-by : (number : Number) (call : Call) (old : A) (state : B) → IsTrue (is_party_of (kind_of call) a.party) → is_sound old → shows old state → (over later : Bool)
      → AreAlike shows (cond over (answered_only a old number (kind_of call) stale_reply) (fenced_call a (judged_in a later number old) number call (a.kept_for call (judged_in a later number old))))
      (cond over (answered_only b state number (kind_of call) stale_reply) (fenced_call b (judged_in b later number state) number call (b.kept_for call (judged_in b later number state))))
  alike-by number call old state own sound same true later = alike-only number (kind_of call) stale_reply old state same
  alike-by number call old state own sound same false true =
      alike-fenced number call (a.begun number.session old) (b.begun number.session state) own (is.begun_sound number.session old sound) (is.begun number.session old state sound same)
  alike-by number call old state own sound same false false = alike-fenced number call old state own sound same

  -- what a call gets, by the greatest session that came
  abbrev answered_by : ℕ → B → Number → Call → Fenced B
  answered_by session state number call =
      cond (is_over session number) (answered_only b state number (kind_of call) stale_reply)
      (fenced_call b (judged_in b (begins session number) number state) number call (b.kept_for call (judged_in b (begins session number) number state)))

  -- each call of the plugin is answered alike
  pub answered-alike : (number : Number) (call : Call) (old : A) (state : B) → IsTrue (is_party_of (kind_of call) a.party) → is_sound old → shows old state
      → AreAlike shows (answered_in a old number call) (answered_in b state number call)
  answered-alike number call old state own sound same =
      subst (λ (session : ℕ). AreAlike shows (answered_in a old number call) (answered_by session state number call)) (is.session old state same)
      (alike-by number call old state own sound same (is_over (a.session old) number) (begins (a.session old) number))
