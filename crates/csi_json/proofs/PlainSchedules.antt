-- Values of JSON that borrow their texts, read as the parts of a schedule.
use Rattle.std.proofs.Common.{◌≡◌, ℕ, suc, ◌-◌, ◌<◌, ◌≤◌, List, [], ◌∷◌, length, map, get_or, Global, Vec, Bor, refl, sym, ap, ap₂, ◌∙◌, arith, le-ltb, true, rules}
use Rattle.std.proofs.lemmas.List.{length-map}
use Rattle.std.specs.Prelude.{Option, Some, None, option_and_then, Ok, codes, IfSome}
use Rattle.std.specs.Str.{bytes_eq}
use Rattle.std.proofs.lemmas.Slice.Eq.{bytes_eq-Decides}
use Rattle.json.specs.Token.{Token, begin_array, begin_object}
use Rattle.json.specs.Json as json
use Rattle.json.specs.Json.{read_key}
use Rattle.json.specs.Lex.{tokens}
use Rattle.json.specs.Value.{value_view, items_view as items_seen, members_view as members_seen}
use Rattle.json.specs.declared.value.Value.{Value, the_lemmas}
use Rattle.json.specs.declared.value.Value.TheVariants.{Number, Object}
use Rattle.json.proofs.Trees.{view-Object}
use Rattle.json.proofs.Grammar.{read_key-shorter, value-begin_array, value-begin_object, members_end, members_more}
use Rattle.serde_json.specs.Data.{Data, Items, no_items, item, unsigned}
use Rattle.serde_json.specs.Read.{number_of as number_in, of_json, of_items, read}
use Rattle.csi_types.specs.Model.Config.{Config}
use Rattle.csi_types.specs.declared.event.Event.{Event}
use Rattle.csi_types.specs.declared.event.Event.TheVariants.{Deliver}
use Rattle.csi_json.specs.Public.Json.{number_of, sized_object, list_of, items_in, read_all}
use Rattle.csi_json.specs.Public.Configs.{config_of}
use Rattle.csi_json.specs.Public.Events.{event_of, event_at, deliver_of}
use Rattle.csi_json.specs.Private.Plain.{event_in, SaysConfig, SaysEvents, SaysSchedule}
use Rattle.csi_json.specs.Public.Schedule.{config_and_events}
use Rattle.csi_json.specs.Private.EventSchedules.{Schedule, events_of, schedule_read, text_schedule}
use Rattle.csi_json.proofs.OwnedValues.{Member}

-- what is found behind a value that was read, was found in it
pub inside : {A B : Type 0} (f : A → Option B) (o : Option A) (b : B) → option_and_then f o ≡ Some b → (a : A) × (o ≡ Some a) × (f a ≡ Some b)
inside f None b h = absurd (cc)
inside f (Some a) b h = (a, refl, h)

-- ---- a delivery

-- an object whose one member `deliver` is a number is read as the delivery of the frame of that number
delivered_of : (s : List ℕ) (n : ℕ) → number_in s ≡ Some (unsigned n)
    → option_and_then event_of (of_json (json.object (json.member (codes "deliver") (json.number s) json.no_members))) ≡ Some (Deliver n)
unfolding event_of event_at deliver_of number_of
delivered_of s n h = rw h refl

-- a number of JSON that borrows its digits is seen as they are
pub seen_number : (text : Bor (List ℕ)) → value_view {A = Global} (Number text) ≡ json.number text.now
seen_number text = search (rules, the_lemmas)

-- an object with one member, a plain number at this key, is a delivery
pub delivered : (value : Value Global) (members : Vec Member Global) (text : Bor (List ℕ)) (m n : Member) (found : Option ℕ) → value ≡ Object members → length members.items ≡ 1
    → m ≡ get_or members.items 0 m → n ≡ get_or members.items 0 n → bytes_eq m.0.now (codes "deliver") ≡ true → n.1 ≡ Number text → IfSome found (λ k. number_in text.now ≡ Some (unsigned k))
    → IfSome found (λ k. event_in value ≡ Some (Deliver k))
delivered value members text m n None is one first same key inner parsed = tt
delivered value members text m n (Some k) is one first same key inner parsed =
    let here : m ≡ n = both members.items one first same in
    let named : n.0.now ≡ codes "deliver" = ap (λ x. x.0.now) (sym here) ∙ (bytes_eq-Decides m.0.now (codes "deliver")).0 key in
    let seen : value_view value ≡ json.object (members_seen members.items) = ap value_view is ∙ view-Object members in
    let alone : value_view value ≡ json.object (json.member n.0.now (value_view n.1) json.no_members) = seen ∙ ap (λ ms. json.object (members_seen ms)) (only members.items one same) in
    let plain : value_view value ≡ json.object (json.member (codes "deliver") (json.number text.now) json.no_members) =
    alone ∙ ap₂ (λ name j. json.object (json.member name j json.no_members)) named (ap value_view inner ∙ seen_number text) in
    ap (λ j. option_and_then event_of (of_json j)) plain ∙ delivered_of text.now k parsed
  where
    only : (ms : List Member) → length ms ≡ 1 → n ≡ get_or ms 0 n → ms ≡ n ∷ []
    only [] one first = absurd (omega arith)
    only (x ∷ []) one first = ap (λ y. y ∷ []) (sym first)
    only (x ∷ y ∷ ms) one first = absurd (omega arith)

    both : (ms : List Member) → length ms ≡ 1 → m ≡ get_or ms 0 m → n ≡ get_or ms 0 n → m ≡ n
    both [] one first same = absurd (omega arith)
    both (x ∷ ms) one first same = first ∙ sym same

-- ---- all events

-- one event more in front
one_event : (x : Value Global) (xs : List (Value Global)) (e : Event) (es : List Event) (place : ℕ) (d : Data) (ds : Items) → of_json (value_view x) ≡ Some d → event_of d ≡ Some e
    → of_items (items_seen xs) ≡ Some ds → read_all event_of (suc place) (items_in ds) ≡ Ok es
    → (of_items (items_seen (x ∷ xs)) ≡ Some (item d ds)) × (read_all event_of place (items_in (item d ds)) ≡ Ok (e ∷ es))
one_event x xs e es place d ds one is more others = (rw (one, more) refl, rw (is, others) refl)

-- where each item is read as an event, the items are read as data, of which as many are read as these events
pub all_events : (xs : List (Value Global)) (es : List Event) (place : ℕ) → map event_in xs ≡ map Some es
    → (ds : Items) × (of_items (items_seen xs) ≡ Some ds) × (read_all event_of place (items_in ds) ≡ Ok es) × (length (items_in ds) ≡ length xs)
all_events [] [] place h = (no_items, refl, refl, refl)
all_events [] (e ∷ es) place h = absurd (cc)
all_events (x ∷ xs) [] place h = absurd (cc)
all_events (x ∷ xs) (e ∷ es) place h =
    let first : event_in x ≡ Some e = cc in
    let others : map event_in xs ≡ map Some es = cc in
    let d = inside event_of (of_json (value_view x)) e first in
    let more = all_events xs es (suc place) others in
    let both = one_event x xs e es place d.0 more.0 d.1 d.2 more.1 more.2 in
    (item d.0 more.0, both.0, both.1, ap suc more.3)

-- ---- a schedule

-- an object with a configuration and an array that is read as events is read as their schedule, where these are at most 100000
schedule_of_two : (c : json.Json) (js : json.Items) (d : Data) (ds : Items) (config : Config) (es : List Event) → of_json c ≡ Some d → config_of d ≡ Some config → of_items js ≡ Some ds
    → read_all event_of 1 (items_in ds) ≡ Ok es → length (items_in ds) ≤ 100000
    → schedule_read (of_json (json.object (json.member (codes "config") c (json.member (codes "events") (json.array js) json.no_members)))) ≡ Ok (record { config = config; events = es })
unfolding config_and_events sized_object list_of events_of
schedule_of_two c js d ds config es one made list read few = rw (one, list) (rw (made) (rw (le-ltb _ _ few) (rw read refl)))

-- an object with a configuration and then events
pub said : (ts s t u v w x rest : List Token) (config : Config) (es : List Event) → ts ≡ begin_object ∷ s → read_key s ≡ Some (Some (codes "config"), t) → SaysConfig t config u
    → read_key u ≡ Some (Some (codes "events"), v) → v ≡ begin_array ∷ w → SaysEvents w es x → read_key x ≡ Some (None, rest) → SaysSchedule ts (record { config = config; events = es }) rest
said ts s t u v w x rest config es brace first one second bracket many end =
    let listed = json.array (items_seen many.values) in
    let configured = value_view one.value in
    let n = length s in
    let shorter_t : length t < n = read_key-shorter s (Some (codes "config")) t first in
    let shorter_v : length v < length u = read_key-shorter u (Some (codes "events")) v second in
    let opened : length v ≡ suc (length w) = ap length bracket in
    let lists : json.value 126 v ≡ Some (listed, x) = ap (json.value 126) bracket ∙ value-begin_array 126 w (omega arith) ∙ ap (json.parse_map json.array) many.read in
    let ends : json.members (json.value 126) (n - 1 - 1) x ≡ Some (json.no_members, rest) = members_end (json.value 126) (n - 1 - 1) x rest (omega (arith, shorter_t, one.shorter, shorter_v, opened, many.shorter)) end in
    let later : json.members (json.value 126) (n - 1) u ≡ Some (json.member (codes "events") listed json.no_members, rest) =
    members_more (json.value 126) (n - 1) (codes "events") u v x listed (omega (arith, shorter_t, one.shorter, shorter_v, opened)) second lists ∙ ap (json.parse_map (json.member (codes "events") listed)) ends in
    let all : json.members (json.value 126) n s ≡ Some (json.member (codes "config") configured (json.member (codes "events") listed json.no_members), rest) =
    members_more (json.value 126) n (codes "config") s t u configured (omega (arith, shorter_t)) first one.read ∙ ap (json.parse_map (json.member (codes "config") configured)) later in
    let d = inside config_of (of_json configured) config one.is in
    let ds = all_events many.values es 1 many.are in
    record {
      value = json.object (json.member (codes "config") configured (json.member (codes "events") listed json.no_members));
      read = ap (json.value 127) brace ∙ value-begin_object 127 s (omega arith) ∙ ap (json.parse_map json.object) all;
      is = schedule_of_two configured (items_seen many.values) d.0 ds.0 config es d.1 d.2 ds.1 ds.2 (omega (arith, ds.3, counted many.values es many.are, many.few));
    }
  where
    counted : (xs : List (Value Global)) (es : List Event) → map event_in xs ≡ map Some es → length xs ≡ length es
    counted xs es h = sym (length-map xs event_in) ∙ ap length h ∙ length-map es Some

-- ---- a text

-- a text that is one value, with nothing behind it, is read as it
pub text_is : (text : List ℕ) (rest : List Token) (schedule : Schedule) → SaysSchedule (tokens text) schedule rest → rest ≡ [] → text_schedule text ≡ Ok schedule
text_is text rest schedule says none = ap schedule_read whole ∙ says.is
  where
    whole : read text ≡ of_json says.value
    whole = rw (says.read, none) refl
