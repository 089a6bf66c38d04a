-- The lemmas of crates below that the proofs of this crate cite, passed on from one place. Declares nothing.
pub use Rattle.std.proofs.lemmas.Bool.{and_from, and_left, and_parts, eq-eqb, eqb-false, eqb-true, false_from_ne_true}
pub use Rattle.std.proofs.lemmas.Bool.{false≢true, le-ltb, lt-ltb, ltb-false, ltb-true, or_cases, or_from, or_left}
pub use Rattle.std.proofs.lemmas.Bool.{or_parts, or_right, true_from_ne_false, true≢false}
pub use Rattle.std.proofs.lemmas.Bool.Decides.{nat_tests}
pub use Rattle.std.proofs.lemmas.List.{append-nil, get_or_default, length-map, reverse-append, take-append-drop}
pub use Rattle.std.proofs.lemmas.List.{take_more}
pub use Rattle.std.proofs.lemmas.List.Elements.{filter_map-append}
pub use Rattle.std.proofs.lemmas.Option.{none-some, same_Some}
pub use Rattle.csi_types.proofs.Each.{each-append, each-append_one, each-at, each-filter, each-place}
pub use Rattle.csi_types.proofs.Maps.{map-same}
pub use Rattle.csi_types.proofs.Members.{all_of, among-append, among-by_key, among-either, among-filter}
pub use Rattle.csi_types.proofs.Members.{among-filter_map, among-find, among-flat, among-joined, among-kept}
pub use Rattle.csi_types.proofs.Members.{among-last, among-map, among-one, among-right, each_of, empty-where}
pub use Rattle.csi_types.proofs.Members.{in-filter_map, in-flat, in-map, in_filter, none_passes, some-found}
pub use Rattle.csi_types.proofs.Options.{is_some-map, none-from_map, none-where, some-from_map, some_is_not_none}
pub use Rattle.csi_types.proofs.Pairs.{two-append, two-by_key, two-filter, two-map, two-more}
pub use Rattle.csi_types.proofs.Places.{FirstAt-find, FirstAt-only, FirstAt-passes, FirstAt-position, at-index}
pub use Rattle.csi_types.proofs.Places.{position-first, position-none}
pub use Rattle.csi_types.proofs.Searches.{find-and, find-filter, find-filter_not, find-map, find-missed, find-no_place}
pub use Rattle.csi_types.proofs.Searches.{find-none, find-none_in_filter, find-of_map, find-one, find-passes}
pub use Rattle.csi_types.proofs.Searches.{find-same_among}
pub use Rattle.csi_types.proofs.Tests.{alike, all-then, any-find, any-find_none, any-none, any-of_map, any-then}
pub use Rattle.csi_types.proofs.Tests.{none-among, then-all, then-any}
pub use Rattle.csi_types.proofs.Equality.{same_capability-tells, same_kind-tells, same_number-tells, same_party-tells}
pub use Rattle.csi_types.proofs.Equality.{same_plugin_thing-tells, same_text-tells}
pub use Rattle.csi_fence.proofs.Judged.{Judgement, was_fresh, was_judged, was_over, was_repeated, was_stale}
pub use Rattle.csi_controller.proofs.OrderlyStates.{IsOrderly, is_with_id}
pub use Rattle.csi_controller.proofs.Sound.{rising-one}
pub use Rattle.csi_node.proofs.CarriedOut.{Carried, has_room, kept_of, no_room, was_carried}
pub use Rattle.csi_node.proofs.LastCalls.{changed-rows, changed-session, keep-each, keep-session, kept_in-id}
pub use Rattle.csi_node.proofs.SessionsLaw.{AreCurrent, all_current}
pub use Rattle.csi_orchestrator.proofs.HasOnes.{one-each, one-found}
pub use Rattle.csi_orchestrator.proofs.Numbers.{open-sent, unless-some}
pub use Rattle.csi_orchestrator.proofs.SplitLists.{find-behind}
pub use Rattle.csi_orchestrator.proofs.ViewsFollow.{closed-follows, forgotten-follows, noted-follows}
