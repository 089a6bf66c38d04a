-- A line that asks for an event asks for a command, a timeout or a loss.
use Rattle.std.proofs.Common.{◌≡◌, refl, subst, List, ℕ, Bool, true, false, cond}
use Rattle.std.specs.Prelude.{◌||◌, Option, Some, None, Result, Ok, Err, IfOk, codes, bytes_eq, option_and_then}
use Rattle.std.proofs.lemmas.Slice.Eq.{bytes_eq-Decides}
use Rattle.std.proofs.lemmas.Option.{none-some, same_Some}
use Rattle.serde_json.specs.Data.{Data}
use Rattle.serde_json.specs.Find.{get, as_bool}
use Rattle.serde_json.specs.Read.{read}
use Rattle.csi_types.specs.declared.event.Event.{Event}
use Rattle.csi_types.specs.declared.event.Event.TheVariants as events
use Rattle.csi_json.specs.declared.request.Request.{Request}
use Rattle.csi_json.specs.declared.request_fault.RequestFault.{RequestFault}
use Rattle.csi_json.specs.declared.request_fault.RequestFault.TheVariants.{BadLine}
use Rattle.csi_json.specs.Public.Json.{◌>>=◌, number_of, name_of, node_id_of, target_of, sized_object, only_member}
use Rattle.csi_json.specs.Public.Capabilities.{capability_of, capabilities_of}
use Rattle.csi_json.specs.Public.Events.{create_of, use_of, stop_of, delete_of, timeout_of, deliver_of, restart_of, restart_node_of, restart_controller_of, restart_orchestrator_of, join_of, lose_of, settle_of, event_at}
use Rattle.csi_json.specs.Public.Requests.{RequestShown, request_shown, is_command_key, IsCommand, IsAsked, command_or_fault, reply_or_fault, bytes_of, request_at, request_of, request_read}

-- what is read of what was found was found
read-some : {A B : Type 0} (o : Option A) (f : A → Option B) (y : B) → option_and_then f o ≡ Some y → (a : A) × (f a ≡ Some y)
read-some None f y e = absurd (none-some y e)
read-some (Some a) f y e = (a, e)

-- what is read at each key is a command, a timeout or a loss: this and the next five
created : (d : Data) (event : Event) → create_of d ≡ Some event → IsCommand event
unfolding create_of
created d event e =
    let object = read-some (sized_object 4 d) _ event e in
    let name = read-some (get (codes "name") object.0 >>= name_of) _ event object.1 in
    let required = read-some (get (codes "required") object.0 >>= number_of) _ event name.1 in
    let limit = read-some (get (codes "limit") object.0 >>= number_of) _ event required.1 in
    let capabilities = read-some (get (codes "capabilities") object.0 >>= capabilities_of) _ event limit.1 in
    subst IsCommand (same_Some (events.Create name.0 required.0 limit.0 capabilities.0) event capabilities.1) tt

used : (d : Data) (event : Event) → use_of d ≡ Some event → IsCommand event
unfolding use_of
used d event e =
    let object = read-some (sized_object 5 d) _ event e in
    let name = read-some (get (codes "name") object.0 >>= name_of) _ event object.1 in
    let node = read-some (get (codes "node") object.0 >>= node_id_of) _ event name.1 in
    let target = read-some (get (codes "target") object.0 >>= target_of) _ event node.1 in
    let capability = read-some (get (codes "capability") object.0 >>= capability_of) _ event target.1 in
    let readonly = read-some (get (codes "readonly") object.0 >>= as_bool) _ event capability.1 in
    subst IsCommand (same_Some (events.Use name.0 node.0 target.0 capability.0 readonly.0) event readonly.1) tt

stopped : (d : Data) (event : Event) → stop_of d ≡ Some event → IsCommand event
unfolding stop_of
stopped d event e =
    let object = read-some (sized_object 3 d) _ event e in
    let name = read-some (get (codes "name") object.0 >>= name_of) _ event object.1 in
    let node = read-some (get (codes "node") object.0 >>= node_id_of) _ event name.1 in
    let target = read-some (get (codes "target") object.0 >>= target_of) _ event node.1 in
    subst IsCommand (same_Some (events.Stop name.0 node.0 target.0) event target.1) tt

deleted : (d : Data) (event : Event) → delete_of d ≡ Some event → IsCommand event
unfolding delete_of
deleted d event e = let name = read-some (name_of d) _ event e in subst IsCommand (same_Some (events.Delete name.0) event name.1) tt

timed-out : (d : Data) (event : Event) → timeout_of d ≡ Some event → IsCommand event
unfolding timeout_of
timed-out d event e = let name = read-some (name_of d) _ event e in subst IsCommand (same_Some (events.Timeout name.0) event name.1) tt

given-up : (d : Data) (event : Event) → lose_of d ≡ Some event → IsCommand event
unfolding lose_of
given-up d event e = let node = read-some (node_id_of d) _ event e in subst IsCommand (same_Some (events.Lose node.0) event node.1) tt

-- at a loss's key
at-loss : (key : List ℕ) (d : Data) (event : Event) → bytes_eq key (codes "lose") ≡ true → event_at key d ≡ Some event → IsCommand event
unfolding event_at
at-loss key d event t e =
    let named : key ≡ codes "lose" = (bytes_eq-Decides key (codes "lose")).0 t in
    given-up d event (subst (λ (k : List ℕ). event_at k d ≡ Some event) named e)

-- at a command's key
commanded : (key : List ℕ) (d : Data) (event : Event) → is_command_key key ≡ true → event_at key d ≡ Some event → IsCommand event
unfolding event_at
commanded key d event t e =
    by (bytes_eq key (codes "create")) (bytes_eq key (codes "use")) (bytes_eq key (codes "stop")) (bytes_eq key (codes "delete")) (bytes_eq key (codes "timeout")) (bytes_eq key (codes "lose")) (λ l. at-loss key d event l e) t e
  where
    rest : Option Event
    rest =
        cond (bytes_eq key (codes "deliver")) (deliver_of d)
        (cond (bytes_eq key (codes "restart")) (restart_of d)
        (cond (bytes_eq key (codes "restart_node")) (restart_node_of d)
        (cond (bytes_eq key (codes "restart_controller")) (restart_controller_of d)
        (cond (bytes_eq key (codes "restart_orchestrator")) (restart_orchestrator_of d)
        (cond (bytes_eq key (codes "join")) (join_of d)
        (cond (bytes_eq key (codes "lose")) (lose_of d) (cond (bytes_eq key (codes "settle")) (settle_of d) None)))))))

    by : (a b c f g h : Bool) → (h ≡ true → IsCommand event) → (a || b || c || f || g || h) ≡ true
        → cond a (create_of d) (cond b (use_of d) (cond c (stop_of d) (cond f (delete_of d) (cond g (timeout_of d) rest)))) ≡ Some event → IsCommand event
    by true b c f g h lost one is = created d event is
    by false true c f g h lost one is = used d event is
    by false false true f g h lost one is = stopped d event is
    by false false false true g h lost one is = deleted d event is
    by false false false false true h lost one is = timed-out d event is
    by false false false false false h lost one is = lost one

-- what is read at a key
read-at : (key : List ℕ) (d : Data) → IfOk (request_at key d) IsAsked
unfolding request_at
read-at key d = by (bytes_eq key (codes "reply")) (is_command_key key) (λ t event e. commanded key d event t e)
  where
    replied : (o : Option (List ℕ)) → IfOk (reply_or_fault o) IsAsked
    replied None = tt
    replied (Some bytes) = tt

    asked : (o : Option Event) → ((event : Event) → o ≡ Some event → IsCommand event) → IfOk (command_or_fault o) IsAsked
    asked None is = tt
    asked (Some event) is = is event refl

    by : (a b : Bool) → (b ≡ true → (event : Event) → event_at key d ≡ Some event → IsCommand event) → IfOk (cond a (reply_or_fault (bytes_of d)) (cond b (command_or_fault (event_at key d)) (Err BadLine))) IsAsked
    by true b is = replied (bytes_of d)
    by false true is = asked (event_at key d) (is refl)
    by false false is = tt

-- what is read of a line
all-asked : (o : Option Data) → IfOk (request_read o) IsAsked
all-asked None = tt
all-asked (Some d) = by (only_member d)
  where
    by : (o : Option (List ℕ × Data)) → IfOk (request_of o) IsAsked
    by None = tt
    by (Some only) = read-at only.0 only.1

-- so is the request that is read of a text
pub text-asked : (text : List ℕ) (result : Result Request RequestFault) → IfOk result (λ request. request_read (read text) ≡ Ok (request_shown request)) → IfOk result (λ request. IsAsked (request_shown request))
text-asked text (Ok request) is = subst (λ (r : Result RequestShown RequestFault). IfOk r IsAsked) is (all-asked (read text))
text-asked text (Err fault) is = tt
