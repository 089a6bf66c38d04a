-- What an orchestrator knows, as a list of things. This profile's own.
use Rattle.std.specs.Prelude.{◌≡◌, ◌≢◌, ◌↔◌, ℕ, List, Option, Some, None}
use Rattle.std.specs.Option.{option_cmp}
use Rattle.std.specs.Ordering.{nat_cmp, ordering_then}
use Rattle.std.specs.Cmp.Lexicographic.{slice_cmp}
use Rattle.std.specs.declared.cmp.Ordering.{Ordering}
use Rattle.std.specs.declared.cmp.Ordering.TheVariants.{Less}
use Rattle.csi_types.specs.Model.Members.{IsAmong, EachTwo}
use Rattle.csi_orchestrator.specs.declared.thing.Thing.{Thing}
use Rattle.csi_orchestrator.specs.declared.thing.Thing.TheVariants.{Exists, Attached, Staged, Published}
use Rattle.csi_orchestrator.specs.declared.thing.Known.{Known}
use Rattle.csi_orchestrator.specs.declared.thing.Known.TheVariants.{No}
use Rattle.csi_orchestrator.specs.Model.Thing.{name_in}

-- each thing that isn't known as No, with what is known of it, and nothing else
abbrev pub ListsKnown : (Thing → Known) → List (Thing × Known) → Type 0
ListsKnown known things = (thing : Thing) (mark : Known) → IsAmong (thing, mark) things ↔ ((known thing ≡ mark) × (mark ≢ No))

-- texts are ordered by their bytes
abbrev pub text_order : List ℕ → List ℕ → Ordering
text_order a b = slice_cmp nat_cmp a b

-- the node of a thing, if it has one
abbrev pub node_of_thing : Thing → Option (List ℕ)
node_of_thing (Exists name) = None
node_of_thing (Attached name node) = Some node
node_of_thing (Staged name node) = Some node
node_of_thing (Published name node target) = Some node

-- its target, if it has one
abbrev pub target_of_thing : Thing → Option (List ℕ)
target_of_thing (Exists name) = None
target_of_thing (Attached name node) = None
target_of_thing (Staged name node) = None
target_of_thing (Published name node target) = Some target

-- the place of its kind among the four kinds
abbrev pub kind_place : Thing → ℕ
kind_place (Exists name) = 0
kind_place (Attached name node) = 1
kind_place (Staged name node) = 2
kind_place (Published name node target) = 3

-- by name; of one name by node, what has none first; of one node by kind; of one kind by target
abbrev pub thing_order : Thing → Thing → Ordering
thing_order a b =
    ordering_then (text_order (name_in a) (name_in b))
    (ordering_then (option_cmp text_order (node_of_thing a) (node_of_thing b))
    (ordering_then (nat_cmp (kind_place a) (kind_place b)) (option_cmp text_order (target_of_thing a) (target_of_thing b))))

-- each thing once, in this order
abbrev pub IsInOrder : List (Thing × Known) → Type 0
IsInOrder things = EachTwo (λ a b. thing_order a.0 b.0 ≡ Less) things
