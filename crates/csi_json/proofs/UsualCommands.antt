-- Commands of the usual form, as data.
use Rattle.std.proofs.Common.{◌≡◌, ℕ, List, [], ◌∷◌, length, get_or, Global, Vec, Bool, true, refl, sym, ap, ◌∙◌, arith, rules}
use Rattle.std.specs.Prelude.{Some, option_and_then, codes, Result, Ok, Err, IfOk}
use Rattle.std.specs.Str.{bytes_eq}
use Rattle.std.proofs.lemmas.Slice.Eq.{bytes_eq-Decides}
use Rattle.json.specs.Json as json
use Rattle.json.specs.Value.{value_view, members_view as members_seen}
use Rattle.json.specs.declared.value.Value.{Value, the_lemmas}
use Rattle.json.specs.declared.value.Value.TheVariants as values
use Rattle.json.proofs.Trees.{view-Object}
use Rattle.serde_json.specs.Data.{Data}
use Rattle.serde_json.specs.Read.{of_json}
use Rattle.csi_types.specs.declared.capability.Capability.{Capability}
use Rattle.csi_types.specs.declared.event.Event.{Event}
use Rattle.csi_types.specs.declared.event.Event.TheVariants.{Use, Stop}
use Rattle.csi_json.specs.declared.values.Flaw.{Flaw}
use Rattle.csi_json.specs.Public.Json.{name_of, node_id_of, target_of, sized_object}
use Rattle.csi_json.specs.Public.Capabilities.{capability_of}
use Rattle.csi_json.specs.Public.Events.{use_of, stop_of, event_of, event_at}
use Rattle.csi_json.specs.Private.Plain.{event_in, seen_as}
use Rattle.csi_json.proofs.OwnedValues.{Member}
use Rattle.csi_json.proofs.PlainSchedules.{inside}

-- what follows of an answer, follows of it where it is `Ok`
pub if_ok : (r : Result Event Flaw) {P Q : Event → Type 0} → ((event : Event) → P event → Q event) → IfOk r P → IfOk r Q
if_ok (Ok event) f h = f event h
if_ok (Err flaw) f h = h

-- ---- objects with so many members, in order

-- a name that the test finds equal to a key is the key
named : (m : Member) (key : List ℕ) → bytes_eq m.0.now key ≡ true → m.0.now ≡ key
named m key e = (bytes_eq-Decides m.0.now key).0 e

-- a list of one member has that member alone
one_of : (ms : List Member) (a : Member) → length ms ≡ 1 → a ≡ get_or ms 0 a → ms ≡ a ∷ []
one_of [] a n p = absurd (omega arith)
one_of (x ∷ []) a n p = ap (λ z. z ∷ []) (sym p)
one_of (x ∷ y ∷ ms) a n p = absurd (omega arith)

-- a list of two members has the first and the second
pub two_of : (ms : List Member) (a b : Member) → length ms ≡ 2 → a ≡ get_or ms 0 a → b ≡ get_or ms 1 b → ms ≡ a ∷ b ∷ []
two_of [] a b n p q = absurd (omega arith)
two_of (x ∷ []) a b n p q = absurd (omega arith)
two_of (x ∷ y ∷ []) a b n p q = λ i. sym p i ∷ sym q i ∷ []
two_of (x ∷ y ∷ z ∷ ms) a b n p q = absurd (omega arith)

-- a list of three members has the three
three_of : (ms : List Member) (a b c : Member) → length ms ≡ 3 → a ≡ get_or ms 0 a → b ≡ get_or ms 1 b → c ≡ get_or ms 2 c → ms ≡ a ∷ b ∷ c ∷ []
three_of [] a b c n p q r = absurd (omega arith)
three_of (x ∷ []) a b c n p q r = absurd (omega arith)
three_of (x ∷ y ∷ []) a b c n p q r = absurd (omega arith)
three_of (x ∷ y ∷ z ∷ []) a b c n p q r = λ i. sym p i ∷ sym q i ∷ sym r i ∷ []
three_of (x ∷ y ∷ z ∷ w ∷ ms) a b c n p q r = absurd (omega arith)

-- a list of five members has the five
five_of : (ms : List Member) (a b c d e : Member) → length ms ≡ 5 → a ≡ get_or ms 0 a → b ≡ get_or ms 1 b → c ≡ get_or ms 2 c → d ≡ get_or ms 3 d → e ≡ get_or ms 4 e → ms ≡ a ∷ b ∷ c ∷ d ∷ e ∷ []
five_of [] a b c d e n p q r s t = absurd (omega arith)
five_of (x ∷ []) a b c d e n p q r s t = absurd (omega arith)
five_of (x ∷ y ∷ []) a b c d e n p q r s t = absurd (omega arith)
five_of (x ∷ y ∷ z ∷ []) a b c d e n p q r s t = absurd (omega arith)
five_of (x ∷ y ∷ z ∷ u ∷ []) a b c d e n p q r s t = absurd (omega arith)
five_of (x ∷ y ∷ z ∷ u ∷ v ∷ []) a b c d e n p q r s t = λ i. sym p i ∷ sym q i ∷ sym r i ∷ sym s i ∷ sym t i ∷ []
five_of (x ∷ y ∷ z ∷ u ∷ v ∷ w ∷ ms) a b c d e n p q r s t = absurd (omega arith)

-- ---- a stop

-- an object of a name, a node and a target that are read is read as the stop there
stop_data : (a b c : json.Json) (x y z : List ℕ) (d e f : Data) → of_json a ≡ Some d → of_json b ≡ Some e → of_json c ≡ Some f → name_of d ≡ Some x → node_id_of e ≡ Some y → target_of f ≡ Some z
    → option_and_then stop_of (of_json (json.object (json.member (codes "name") a (json.member (codes "node") b (json.member (codes "target") c json.no_members))))) ≡ Some (Stop x y z)
unfolding stop_of sized_object
stop_data a b c x y z d e f p q r s t u = rw (p, q, r) (rw (s, t, u) refl)

-- the same of a value with these three members in their order
pub is_stop : (value : Value Global) (members : Vec Member Global) (a b c : Member) (x y z : List ℕ) → value ≡ values.Object members → length members.items ≡ 3
    → a ≡ get_or members.items 0 a → b ≡ get_or members.items 1 b → c ≡ get_or members.items 2 c
    → bytes_eq a.0.now (codes "name") ≡ true → bytes_eq b.0.now (codes "node") ≡ true → bytes_eq c.0.now (codes "target") ≡ true
    → seen_as name_of a.1 ≡ Some x → seen_as node_id_of b.1 ≡ Some y → seen_as target_of c.1 ≡ Some z → seen_as stop_of value ≡ Some (Stop x y z)
is_stop value members a b c x y z is n p q r ka kb kc ra rb rc =
    let names_a = named a (codes "name") ka in
    let names_b = named b (codes "node") kb in
    let names_c = named c (codes "target") kc in
    let seen : value_view value ≡ json.object (members_seen (a ∷ b ∷ c ∷ [])) = ap value_view is ∙ view-Object members ∙ ap (λ ms. json.object (members_seen ms)) (three_of members.items a b c n p q r) in
    let keyed : json.object (members_seen (a ∷ b ∷ c ∷ [])) ≡ json.object (json.member (codes "name") (value_view a.1) (json.member (codes "node") (value_view b.1) (json.member (codes "target") (value_view c.1) json.no_members))) =
    λ i. json.object (json.member (names_a i) (value_view a.1) (json.member (names_b i) (value_view b.1) (json.member (names_c i) (value_view c.1) json.no_members))) in
    let d = inside name_of (of_json (value_view a.1)) x ra in
    let e = inside node_id_of (of_json (value_view b.1)) y rb in
    let f = inside target_of (of_json (value_view c.1)) z rc in
    ap (λ j. option_and_then stop_of (of_json j)) (seen ∙ keyed) ∙ stop_data (value_view a.1) (value_view b.1) (value_view c.1) x y z d.0 e.0 f.0 d.1 e.1 f.1 d.2 e.2 f.2

-- ---- a use

-- a flag of JSON is seen as it is
seen_flag : (b : Bool) → value_view {A = Global} (values.Bool b) ≡ json.boolean b
seen_flag b = search (rules, the_lemmas)

-- an object of a capability, a name, a node, a flag and a target that are read is read as the use of these
use_data : (a b c e : json.Json) (flag : Bool) (w : Capability) (x y z : List ℕ) (da db dc de : Data) → of_json a ≡ Some da → of_json b ≡ Some db → of_json c ≡ Some dc → of_json e ≡ Some de
    → capability_of da ≡ Some w → name_of db ≡ Some x → node_id_of dc ≡ Some y → target_of de ≡ Some z
    → option_and_then use_of (of_json (json.object (json.member (codes "capability") a (json.member (codes "name") b (json.member (codes "node") c (json.member (codes "readonly") (json.boolean flag) (json.member (codes "target") e json.no_members))))))) ≡ Some (Use x y z w flag)
unfolding use_of sized_object
use_data a b c e flag w x y z da db dc de p q r s t u v k = rw (p, q, r, s) (rw (t, u, v, k) refl)

-- the same of a value with these five members in their order
pub is_use : (value : Value Global) (members : Vec Member Global) (a b c d e : Member) (flag : Bool) (w : Capability) (x y z : List ℕ) → value ≡ values.Object members → length members.items ≡ 5
    → a ≡ get_or members.items 0 a → b ≡ get_or members.items 1 b → c ≡ get_or members.items 2 c → d ≡ get_or members.items 3 d → e ≡ get_or members.items 4 e
    → bytes_eq a.0.now (codes "capability") ≡ true → bytes_eq b.0.now (codes "name") ≡ true → bytes_eq c.0.now (codes "node") ≡ true → bytes_eq d.0.now (codes "readonly") ≡ true → bytes_eq e.0.now (codes "target") ≡ true
    → d.1 ≡ values.Bool flag → seen_as capability_of a.1 ≡ Some w → seen_as name_of b.1 ≡ Some x → seen_as node_id_of c.1 ≡ Some y → seen_as target_of e.1 ≡ Some z → seen_as use_of value ≡ Some (Use x y z w flag)
is_use value members a b c d e flag w x y z is n p q r s t ka kb kc kd ke rd ra rb rc re =
    let names_a = named a (codes "capability") ka in
    let names_b = named b (codes "name") kb in
    let names_c = named c (codes "node") kc in
    let names_d = named d (codes "readonly") kd in
    let names_e = named e (codes "target") ke in
    let flagged : value_view d.1 ≡ json.boolean flag = ap value_view rd ∙ seen_flag flag in
    let seen : value_view value ≡ json.object (members_seen (a ∷ b ∷ c ∷ d ∷ e ∷ [])) = ap value_view is ∙ view-Object members ∙ ap (λ ms. json.object (members_seen ms)) (five_of members.items a b c d e n p q r s t) in
    let keyed : json.object (members_seen (a ∷ b ∷ c ∷ d ∷ e ∷ [])) ≡ json.object (json.member (codes "capability") (value_view a.1) (json.member (codes "name") (value_view b.1) (json.member (codes "node") (value_view c.1) (json.member (codes "readonly") (json.boolean flag) (json.member (codes "target") (value_view e.1) json.no_members))))) =
    λ i. json.object (json.member (names_a i) (value_view a.1) (json.member (names_b i) (value_view b.1) (json.member (names_c i) (value_view c.1) (json.member (names_d i) (flagged i) (json.member (names_e i) (value_view e.1) json.no_members))))) in
    let fa = inside capability_of (of_json (value_view a.1)) w ra in
    let fb = inside name_of (of_json (value_view b.1)) x rb in
    let fc = inside node_id_of (of_json (value_view c.1)) y rc in
    let fe = inside target_of (of_json (value_view e.1)) z re in
    ap (λ j. option_and_then use_of (of_json j)) (seen ∙ keyed) ∙ use_data (value_view a.1) (value_view b.1) (value_view c.1) (value_view e.1) flag w x y z fa.0 fb.0 fc.0 fe.0 fa.1 fb.1 fc.1 fe.1 fa.2 fb.2 fc.2 fe.2

-- ---- a command at its key

-- an object whose one member `use` is read as a use is read as that event
used : (j : json.Json) (d : Data) (event : Event) → of_json j ≡ Some d → use_of d ≡ Some event → option_and_then event_of (of_json (json.object (json.member (codes "use") j json.no_members))) ≡ Some event
unfolding event_of event_at
used j d event p q = rw p q

-- an object whose one member `stop` is read as a stop is read as that event
stopped : (j : json.Json) (d : Data) (event : Event) → of_json j ≡ Some d → stop_of d ≡ Some event → option_and_then event_of (of_json (json.object (json.member (codes "stop") j json.no_members))) ≡ Some event
unfolding event_of event_at
stopped j d event p q = rw p q

-- a value with one member of this name is seen as an object of that member alone
alone : (value : Value Global) (members : Vec Member Global) (a : Member) (key : List ℕ) → value ≡ values.Object members → length members.items ≡ 1 → a ≡ get_or members.items 0 a → bytes_eq a.0.now key ≡ true
    → value_view value ≡ json.object (json.member key (value_view a.1) json.no_members)
alone value members a key is n p k =
    ap value_view is ∙ view-Object members ∙ ap (λ ms. json.object (members_seen ms)) (one_of members.items a n p) ∙ ap (λ name. json.object (json.member name (value_view a.1) json.no_members)) (named a key k)

-- a value whose one member is named `use`, and is read as a use, is read as that event
pub at_use : (value : Value Global) (members : Vec Member Global) (a : Member) (event : Event) → value ≡ values.Object members → length members.items ≡ 1 → a ≡ get_or members.items 0 a → bytes_eq a.0.now (codes "use") ≡ true
    → seen_as use_of a.1 ≡ Some event → event_in value ≡ Some event
at_use value members a event is n p k read =
    let d = inside use_of (of_json (value_view a.1)) event read in
    ap (λ j. option_and_then event_of (of_json j)) (alone value members a (codes "use") is n p k) ∙ used (value_view a.1) d.0 event d.1 d.2

-- a value whose one member is named `stop`, and is read as a stop, is read as that event
pub at_stop : (value : Value Global) (members : Vec Member Global) (a : Member) (event : Event) → value ≡ values.Object members → length members.items ≡ 1 → a ≡ get_or members.items 0 a → bytes_eq a.0.now (codes "stop") ≡ true
    → seen_as stop_of a.1 ≡ Some event → event_in value ≡ Some event
at_stop value members a event is n p k read =
    let d = inside stop_of (of_json (value_view a.1)) event read in
    ap (λ j. option_and_then event_of (of_json j)) (alone value members a (codes "stop") is n p k) ∙ stopped (value_view a.1) d.0 event d.1 d.2
