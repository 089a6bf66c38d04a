-- What the orchestrator's history tells of the replies that were sent.
use Rattle.csi_world.proofs.Words.{◌≡◌, ◌⊎◌, ℕ, List, [], ◌∷◌, ◌++◌, Bool, true, false, cond, zero, suc, slice_get}
use Rattle.csi_world.proofs.Words.{Option, Some, None, find, filter_map, ◌&&◌, refl, sym, ◌∙◌, ap, subst, inl, inr}
use Rattle.csi_world.proofs.Words.{Number, Call, Capability, Reply, Status, kind_of, Frame, IsAmong, EachTwo}
use Rattle.csi_world.proofs.Words.{is_ok_status, reply_frame, same_text, same_number, Thing, Yes, No, Issued, touches}
use Rattle.csi_world.proofs.Words.{is_doing, Item, Accepted, History, newest, lifetime, issued_in, issued_since}
use Rattle.csi_world.proofs.Words.{is_success_of, has_success, known_by, known, id_in, id_by, id_of, Exists, arith}
use Rattle.csi_world.proofs.Lemmas.{and_parts, false≢true, none-some, same_Some, among-append, among-kept}
use Rattle.csi_world.proofs.Lemmas.{among-filter_map, find-passes, any-then, same_number-tells, same_text-tells}
use Rattle.csi_types.specs.declared.call.Call.TheVariants as calls
use Rattle.csi_types.specs.declared.status.Status.TheVariants.{Ok}
use Rattle.csi_world.proofs.GivenIds.{GivenId, HasNow}
use Rattle.csi_world.proofs.CallThings.{IsAnsweredOk, ComesAfter, one-number}
use Rattle.csi_world.proofs.Lifetimes.{calls_since, calls_for, lifetime-is, since-sent}
use Rattle.csi_world.proofs.NamedCalls.{Named}

-- a reply like this was sent to a sent call of this number
pub record WasSent (issued : List Issued) (frames : List Frame) (number : Number) (status : Status) (id : Option ℕ) : Type 0 where
  pub call : Issued
  pub among : IsAmong call issued
  pub has_number : call.number ≡ number
  pub reply : Reply
  pub sent : IsAmong (reply_frame call.number call.party (kind_of call.call) reply) frames
  pub has_status : reply.status ≡ status
  pub has_id : reply.id ≡ id

-- what was taken was sent
abbrev pub IsHeard : List Item → List Issued → List Frame → Type 0
IsHeard items issued frames = (number : Number) (status : Status) (id : Option ℕ) → IsAmong (Accepted number status id) items → WasSent issued frames number status id

-- what was sent is so still, with more calls and one more frame
pub sent-more : (issued more : List Issued) (frames : List Frame) (last : Frame) (number : Number) (status : Status) (id : Option ℕ) → ((call : Issued) → IsAmong call issued → IsAmong call more)
    → WasSent issued frames number status id → WasSent more (frames ++ last ∷ []) number status id
sent-more issued more frames last number status id wider was =
    record { call = was.call; among = wider was.call was.among; has_number = was.has_number; reply = was.reply; sent = among-append frames (last ∷ []) _ was.sent; has_status = was.has_status; has_id = was.has_id }

-- the test of OK is passed by OK alone
pub is_ok-then : (status : Status) → is_ok_status status ≡ true → status ≡ Ok
is_ok-then Ok h = refl
is_ok-then status h = cc

-- a reply that was heard to a sent call was sent to it
pub heard-ok : (items : List Item) (issued : List Issued) (frames : List Frame) (call : Issued) (other : Number) (status : Status) (id : Option ℕ) → IsHeard items issued frames → EachTwo ComesAfter issued → IsAmong call issued
    → IsAmong (Accepted other status id) items → (same_number other call.number && is_ok_status status) ≡ true → (reply : Reply) × IsAnsweredOk frames call reply × (reply.id ≡ id)
heard-ok items issued frames call other status id heard numbers there among passes = grind (arith, and_parts, one-number, same_number-tells, is_ok-then)

-- a success that was heard was sent
pub success-ok : (items : List Item) (issued : List Issued) (frames : List Frame) (call : Issued) → IsHeard items issued frames → EachTwo ComesAfter issued → IsAmong call issued → has_success items call.number ≡ true
    → (reply : Reply) × IsAnsweredOk frames call reply
success-ok items issued frames call heard numbers there h =
    let found = any-then (is_success_of call.number) items h in by found.0 found.1 found.2
  where
    by : (item : Item) → IsAmong item items → is_success_of call.number item ≡ true → (reply : Reply) × IsAnsweredOk frames call reply
    by (Accepted other status id) among passes = let ok = heard-ok items issued frames call other status id heard numbers there among passes in (ok.0, ok.1)
    by item among passes = absurd (false≢true passes)

-- what stands at a place of a list is among it
pub among-get : {X : Type 0} (xs : List X) (place : ℕ) (x : X) → slice_get xs place ≡ Some x → IsAmong x xs
among-get [] place x e = absurd (none-some x e)
among-get (y ∷ ys) zero x e = inl (sym (same_Some y x e))
among-get (y ∷ ys) (suc place) x e = inr (among-get ys place x e)

-- the newest of what is found
pub newest-found : {X Y : Type 0} (f : X → Option Y) (xs : List X) (y : Y) → newest (filter_map f xs) ≡ Some y → (x : X) × IsAmong x xs × (f x ≡ Some y)
newest-found f xs y h = among-filter_map f xs y (among-get (filter_map f xs) 0 y h)

-- an id that was heard for a name is the one that it has now
pub id-given : (history : History) (frames : List Frame) (given : List GivenId) (name : List ℕ) (id : ℕ) → IsHeard history.items (issued_in history.items) frames → EachTwo ComesAfter (issued_in history.items)
    → Named history.items frames given → id_of history name ≡ Some id → HasNow given name id
id-given history frames given name id heard numbers named h =
    let of_name : Issued → Bool = λ issued. same_text issued.name name in
    let found = newest-found (λ (issued : Issued). id_by history.items issued issued.call) (issued_since history name) id h in
    let call : Issued = found.0 in
    let kept = among-kept of_name (issued_in (lifetime name history.items)) call found.1 in
    let same : call.name ≡ name = (same_text-tells call.name name).0 kept.1 in
    let there : IsAmong call (calls_since (Exists name) history.items) = subst (λ (xs : List Item). IsAmong call (issued_in xs)) (lifetime-is name history.items) kept.0 in
    subst (λ n. HasNow given n id) same (by call (subst (λ n. IsAmong call (calls_since (Exists n) history.items)) (sym same) there) call.call refl found.2)
  where
    accepted : (call : Issued) → IsAmong call (calls_since (Exists call.name) history.items) → (create : List ℕ) (required limit : ℕ) (capabilities : List Capability) → call.call ≡ calls.CreateVolume create required limit capabilities
        → (item : Item) → IsAmong item history.items → id_in call.number item ≡ Some id → HasNow given call.name id
    accepted call there create required limit capabilities is (Accepted other status heard_id) among h = at (same_number other call.number && is_ok_status status) refl h
      where
        at : (b : Bool) → (same_number other call.number && is_ok_status status) ≡ b → cond b heard_id None ≡ Some id → HasNow given call.name id
        at false e h = absurd (none-some id h)
        at true e h =
            let ok = heard-ok history.items (issued_in history.items) frames call other status heard_id heard numbers (since-sent (Exists call.name) history.items call there) among e in
            named.made call ok.0 id create required limit capabilities there is ok.1 (ok.2 ∙ h)
    accepted call there create required limit capabilities is item among h = absurd (none-some id h)

    by : (call : Issued) → IsAmong call (calls_since (Exists call.name) history.items) → (c : Call) → call.call ≡ c → id_by history.items call c ≡ Some id → HasNow given call.name id
    by call there (calls.CreateVolume create required limit capabilities) is h =
        let found = newest-found (id_in call.number) history.items id h in accepted call there create required limit capabilities is found.0 found.1 found.2
    by call there c is h = absurd (none-some id h)

-- what is known of a thing: by its latest call since a loss ended it, and whether a success of it was heard
pub record IsLatest (items : List Item) (thing : Thing) (call : Issued) (doing : Bool) : Type 0 where
  pub found : find (touches thing) (calls_for thing items) ≡ Some call
  pub success : has_success items call.number ≡ true
  pub is_so : is_doing call.call ≡ doing

-- where a thing is known to be so, its latest call does it, and its success was heard
pub known-yes : (history : History) (thing : Thing) → known history thing ≡ Yes → (call : Issued) × IsLatest history.items thing call true
known-yes history thing h = grind (arith, calls_for, false≢true, find-passes)

-- where it is known not to be so, no call of it was sent since, or the latest undoes it, and its success was heard
pub known-no : (history : History) (thing : Thing) → known history thing ≡ No → (find (touches thing) (calls_for thing history.items) ≡ None) ⊎ ((call : Issued) × IsLatest history.items thing call false)
known-no history thing h = grind (arith, calls_for, find-passes, false≢true)

-- where the latest call undoes it, and its success was heard, it is known not to be so
pub latest-gone : (history : History) (thing : Thing) (call : Issued) → IsLatest history.items thing call false → known history thing ≡ No
latest-gone history thing call latest =
    let passes : touches thing call ≡ true = find-passes (touches thing) (calls_for thing history.items) call latest.found in
    ap (known_by history.items thing) latest.found ∙ rw (latest.success, passes, latest.is_so) refl

-- where the latest call does it, and its success was heard, it is known to be so
pub latest-known : (history : History) (thing : Thing) (call : Issued) → IsLatest history.items thing call true → known history thing ≡ Yes
latest-known history thing call latest =
    let passes : touches thing call ≡ true = find-passes (touches thing) (calls_for thing history.items) call latest.found in
    ap (known_by history.items thing) latest.found ∙ rw (latest.success, passes, latest.is_so) refl
