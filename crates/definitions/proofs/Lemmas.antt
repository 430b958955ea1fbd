-- The lemmas that the proofs of the laws take from elsewhere, in one place.
pub use Rattle.definitions.proofs.Equality.{item_cmp-eq, same_item-eq, same_item-itself, same_range-eq}
pub use Rattle.definitions.proofs.Equality.{same_range-itself}
pub use Rattle.definitions.proofs.Lists.{All-append, All-at, All-both, All-every, All-filter, All-from_list_all}
pub use Rattle.definitions.proofs.Lists.{All-map, All-range, find-none, list_all-from_All, list_any-none, map_none}
pub use Rattle.definitions.proofs.Lists.{none_found, none_map, none_or, none_passes, or_none, range-at}
pub use Rattle.definitions.proofs.Order.{before-asym, before-irrefl, before-trans, below-trans, not_before-trans}
pub use Rattle.definitions.proofs.Order.{upto-before, upto-below}
pub use Rattle.definitions.proofs.Separators.{separator-after, separator-is, separator-upto}
pub use Rattle.std.proofs.Math.ListN.{get_or-append}
pub use Rattle.std.proofs.Math.Nat.{div-div-eq-div-mul, div-eq_of_lt, div-zero, lt-div-mul-add, mod-eq_of_lt, mod-lt}
pub use Rattle.std.proofs.Math.Nat.{mul-add, mul-div_cancel, mul-le-mul_left, mul_comm, zero-div}
pub use Rattle.std.proofs.Math.Seq.{get_or-append_seam}
pub use Rattle.std.proofs.lemmas.Bool.{and_cases, and_from, and_left, and_parts, and_right, cases_Bool, cases_eq}
pub use Rattle.std.proofs.lemmas.Bool.{cases_lt, cases_order, cond-false, cond-true, cond_both, eq-eqb, eqb-false}
pub use Rattle.std.proofs.lemmas.Bool.{eqb-true, false≢true, le-leb, le-ltb, leb-false, leb-true, lt-leb, lt-ltb}
pub use Rattle.std.proofs.lemmas.Bool.{ltb-false, ltb-true, not-false, not-true, not_from_true, or_cases, or_from}
pub use Rattle.std.proofs.lemmas.Bool.{or_left, or_parts, or_right}
pub use Rattle.std.proofs.lemmas.Bool.Decides.{leb_tells}
pub use Rattle.std.proofs.lemmas.Cmp.{nat_list_cmp_total, tied_itself}
pub use Rattle.std.proofs.lemmas.Grind.{common_steps}
pub use Rattle.std.proofs.lemmas.List.{append-nil, drop-drop, drop_at, ext_get_or, get_or-drop, get_or-set_other}
pub use Rattle.std.proofs.lemmas.List.{get_or-set_same, get_or-take, get_or_past, length-append, length-drop}
pub use Rattle.std.proofs.lemmas.List.{length-map, length-take, length-take-le, map-append, set_past, take-append-drop}
pub use Rattle.std.proofs.lemmas.List.{take_all, take_at}
pub use Rattle.std.proofs.lemmas.List.Elements.{filter-append}
pub use Rattle.std.proofs.lemmas.List.Folds.{list_any-append, list_any_at}
pub use Rattle.std.proofs.lemmas.List.FromFn.{fill_by_all, get_or-map-range_with_len, length-map-range_with_len}
pub use Rattle.std.proofs.lemmas.List.Kept.{IsStrictlySortedBy-filter}
pub use Rattle.std.proofs.lemmas.List.Sums.{count_by-le-length, fold-append, length-filter, sum_by-cons}
pub use Rattle.std.proofs.lemmas.Map.Keys.{Less-from_sorted, sorted_head, sorted_tail}
pub use Rattle.std.proofs.lemmas.Map.Views.{any-filter_same}
pub use Rattle.std.proofs.lemmas.Nat.{be_bytes_4, div-mul-add, from_be_bytes-to_be_bytes_4, mod-mul-add, mod-pow-add}
pub use Rattle.std.proofs.lemmas.Nat.{pow_pos}
pub use Rattle.std.proofs.lemmas.Nat.Bits.{bit_at-suc, bit_at-zero, bit_at_lowest}
pub use Rattle.std.proofs.lemmas.Option.{get_or_from_slice_get}
pub use Rattle.std.proofs.lemmas.Slice.Eq.{bytes_eq-Decides}
