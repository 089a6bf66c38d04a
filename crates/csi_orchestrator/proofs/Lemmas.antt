-- The lemmas of crates below that the proofs of this crate cite, passed on from one place. Declares nothing.
pub use Rattle.std.proofs.Math.Seq.{map-set_same}
pub use Rattle.std.proofs.lemmas.Bool.{and_from, and_parts, eq-eqb, eqb-true, false_from_ne_true, false≢true, le-leb}
pub use Rattle.std.proofs.lemmas.Bool.{le-ltb, leb-true, lt-ltb, ltb-true, not-false, not-true, not_from_false}
pub use Rattle.std.proofs.lemmas.Bool.{or_from, cases_Bool, or_cases, or_left, or_parts, or_right, true_from_ne_false}
pub use Rattle.std.proofs.lemmas.Bool.{true≢false}
pub use Rattle.std.proofs.lemmas.Bool.Decides.{eqb_tells, nat_tests}
pub use Rattle.std.proofs.lemmas.Fn.{filter_same}
pub use Rattle.std.proofs.lemmas.List.{append-nil, append_assoc, drop_all, drop_more, length-append, length-map}
pub use Rattle.std.proofs.lemmas.List.{length-set, length-take-le, length_push, map-append, map-id, map_push}
pub use Rattle.std.proofs.lemmas.List.{take-append-drop, take-map, take_all, take_more}
pub use Rattle.std.proofs.lemmas.List.Folds.{list_any-append, list_any_at}
pub use Rattle.std.proofs.lemmas.List.Quantifiers.{position-Some}
pub use Rattle.std.proofs.lemmas.List.Sorted.{answers_always, ranks_by, sorted_far}
pub use Rattle.std.proofs.lemmas.List.Sums.{count_by_more_no, count_by_more_yes, length-filter}
pub use Rattle.std.proofs.lemmas.Option.{get_or_from_slice_get, none-some, same_Some, slice_get_cases, slice_get_past}
pub use Rattle.std.proofs.lemmas.Option.{slice_get_read}
pub use Rattle.std.proofs.lemmas.Result.{IfOk-weaker, on_err_weaker, on_ok_weaker}
pub use Rattle.csi_types.proofs.Counts.{any-counted, count-cons}
pub use Rattle.csi_types.proofs.Each.{each-append, each-append_one, each-at, each-filter, each-map, each-weaker}
pub use Rattle.csi_types.proofs.Filters.{each-passes, filter-each, filter-no_longer, filter-no_one, filter-of_map}
pub use Rattle.csi_types.proofs.Members.{all_of, among-append, among-back, among-empty, among-filter_map, among-find}
pub use Rattle.csi_types.proofs.Members.{among-flat, among-joined, among-kept, among-map, among-moved, among-right}
pub use Rattle.csi_types.proofs.Members.{each_of, empty-where, has-some, in-filter_map, in-flat, in-map, in_filter}
pub use Rattle.csi_types.proofs.Members.{none_passes, some-found, some-has}
pub use Rattle.csi_types.proofs.Options.{is_some-map, none-from_is_some, option_or-none, option_or-some}
pub use Rattle.csi_types.proofs.Options.{some_is_not_none}
pub use Rattle.csi_types.proofs.Pairs.{two-append, two-by_places, two-filter, two-flat, two-joined, two-map, two-more}
pub use Rattle.csi_types.proofs.Places.{FirstAt-is_at, FirstAt-within, at-index, find-not_none, map_over_more-shown}
pub use Rattle.csi_types.proofs.Places.{position-first, position-none, same-at}
pub use Rattle.csi_types.proofs.Searches.{find-append, find-append_one, find-filter, find-map, find-missed}
pub use Rattle.csi_types.proofs.Searches.{find-no_place, find-none, find-none_in_filter, find-of_map, find-one}
pub use Rattle.csi_types.proofs.Searches.{find-passes}
pub use Rattle.csi_types.proofs.Tests.{alike, any-find, any-none, any-then, none-among, then-any}
pub use Rattle.csi_types.proofs.Equality.{same_capability-tells, same_kind-tells, same_number-tells, same_party-tells}
pub use Rattle.csi_types.proofs.Equality.{same_text-tells}
pub use Rattle.indexmap.proofs.CallerLemmas.{filter-RetainsPairs, index_map_len-with_value_at, insert_entry-new}
