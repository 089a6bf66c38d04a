-- The events of an array, read one after another from its tokens.
use Rattle.std.proofs.Common.{◌≡◌, ◌≢◌, ℕ, ◌-◌, ◌≤◌, List, [], ◌∷◌, ◌++◌, length, map, None, Some, Global, sym, ap, ◌∙◌, arith}
use Rattle.std.proofs.lemmas.List.{length-append, map-append}
use Rattle.json.specs.Token.{Token}
use Rattle.json.specs.Json.{after_end_array, items, value, parse_map}
use Rattle.json.specs.Value.{value_view}
use Rattle.json.specs.declared.value.Value.{Value}
use Rattle.json.proofs.Grammar.{after_end_array-shorter, items_end, items_more}
use Rattle.json.proofs.Trees.{items_before, items_before-no_items, none_before, one_more_item}
use Rattle.csi_types.specs.declared.event.Event.{Event}
use Rattle.csi_json.specs.Private.Plain.{event_in, IsNextPut, SaysEvents}

-- the items from here to there are read as these events, of which there are at most 100000
pub record ReadSoFar (first now : List Token) (events : List Event) : Type 0 where
  pub values : List (Value Global)
  pub turns : ℕ
  pub enough : length now ≤ turns
  pub read : items (value 125) (length first) first ≡ parse_map (items_before values) (items (value 125) turns now)
  pub are : map event_in values ≡ map Some events
  pub few : length events ≤ 100000
  pub shorter : length now ≤ length first

-- none was read
pub none_read : (tokens : List Token) (events : List Event) → events ≡ [] → ReadSoFar tokens tokens events
none_read tokens events none =
    record {
      values = [];
      turns = length tokens;
      enough = omega arith;
      read = none_before (items (value 125) (length tokens) tokens);
      are = ap (map Some) (sym none);
      few = omega (arith, ap length none);
      shorter = omega arith;
    }

-- one more
pub one_read : (first now rest : List Token) (old new : List Event) → ReadSoFar first now old → after_end_array now ≡ None → IsNextPut now rest old new → length old ≢ 100000 → ReadSoFar first rest new
one_read first now rest old new so_far going next room =
    let turn = items_more (value 125) so_far.turns now rest (value_view next.value) (omega (arith, so_far.enough, next.shorter)) going next.read in
    let put = next.put in
    record {
      values = so_far.values ++ next.value ∷ [];
      turns = so_far.turns - 1;
      enough = omega (arith, so_far.enough, next.shorter);
      read = so_far.read ∙ ap (parse_map (items_before so_far.values)) turn ∙ one_more_item so_far.values next.value (items (value 125) (so_far.turns - 1) rest);
      are = map-append event_in so_far.values (next.value ∷ []) ∙ (λ i. so_far.are i ++ put.is i ∷ []) ∙ sym (map-append Some old (put.event ∷ [])) ∙ ap (map Some) (sym put.put);
      few = omega (arith, ap length put.put, length-append old (put.event ∷ []), so_far.few, room);
      shorter = omega (arith, so_far.shorter, next.shorter);
    }

-- the array ends
pub all_read : (first now rest : List Token) (events : List Event) → ReadSoFar first now events → after_end_array now ≡ Some rest → SaysEvents first events rest
all_read first now rest events so_far closed =
    record {
      values = so_far.values;
      read = so_far.read ∙ ap (parse_map (items_before so_far.values)) (items_end (value 125) so_far.turns now rest so_far.enough closed) ∙ ap (λ js. Some (js, rest)) (items_before-no_items so_far.values);
      are = so_far.are;
      few = so_far.few;
      shorter = omega (arith, so_far.shorter, after_end_array-shorter now rest closed);
    }
