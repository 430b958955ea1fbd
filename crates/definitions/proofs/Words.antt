-- What the proofs of the laws speak of, in one place.
pub use Rattle.definitions.specs.Climbs.{At, Climbing, Stuck_at, above_all_by, check_by_steps, climb_to, climbing_next}
pub use Rattle.definitions.specs.Climbs.{deep_by_steps, find_steps, push_step}
pub use Rattle.definitions.specs.Cost.{most_parts, part_bound}
pub use Rattle.definitions.specs.Ends.{End, Ends, Fresh, Over, Refuses, Replies, Spent, Stage, Waits, after}
pub use Rattle.definitions.specs.Ends.{after_answer, answer, answer_unless, gained, heard, initiator, initiator_at}
pub use Rattle.definitions.specs.Ends.{is_live, is_sendable, own_of, reply_or_refuse, responder, responder_at}
pub use Rattle.definitions.specs.Ends.{stage_after_reply, stage_fault}
pub use Rattle.definitions.specs.Engines.{Speaker, answers, initiating, replied, responding, says, session, takes}
pub use Rattle.definitions.specs.Engines.{unless_refused}
pub use Rattle.definitions.specs.Faults.{Begins, FaultyAnswer, FaultyBody, FaultyBounds, FaultyBytes, FaultyFields}
pub use Rattle.definitions.specs.Faults.{FaultyFrame, FaultyItem, FaultyItems, FaultyList, FaultyMarks, FaultyMessage}
pub use Rattle.definitions.specs.Faults.{FaultyRange, FaultyUpper, IsBodyLength, IsCount, IsItemLength, IsPadded}
pub use Rattle.definitions.specs.Faults.{IsPartial, NoItem, NoLower, NoUpper, Stands, Stops, Trails, body_fault}
pub use Rattle.definitions.specs.Faults.{items_fault, rises_from}
pub use Rattle.definitions.specs.Fingerprints.{IsExact, Lanes, Summary, compact_prints, counted_lanes, same_lanes}
pub use Rattle.definitions.specs.Fingerprints.{two_lanes}
pub use Rattle.definitions.specs.Histories.{Already, Full, History, Insertion, New, content, history_after, insertion}
pub use Rattle.definitions.specs.Histories.{items_of, version}
pub use Rattle.definitions.specs.Items.{Apart, IsBytes, IsItem, IsLower, IsRange, IsUpper, Item, Range, Rises}
pub use Rattle.definitions.specs.Items.{comes_before, contains, cut_range, is_below, item_cmp, ranges_between}
pub use Rattle.definitions.specs.Items.{IsSeparator, same_item, same_range, same_upper, separator, whole}
pub use Rattle.definitions.specs.Messages.{Answer, Listing, Message, Part, RangesRise, Sum, has_open}
pub use Rattle.definitions.specs.Messages.{is_open, open_parts, open_ranges, range_of}
pub use Rattle.definitions.specs.Placing.{Answers, AreSums, After, CutsUp, Follows, FollowsAll, IsOpening, Lists}
pub use Rattle.definitions.specs.Placing.{Place, Placed, Refused, ends_before, finish, next, next_answer, next_inside}
pub use Rattle.definitions.specs.Placing.{next_sum}
pub use Rattle.definitions.specs.Placing.{opening_fault, place_fault, placed_to}
pub use Rattle.definitions.specs.Ranks.{Accepted, Bad_certificate, CheckFault, Descends, IsLeastRankTable, IsRankTable}
pub use Rattle.definitions.specs.Ranks.{IsServing, IsStaircase, List_too_long, No_descent, Too_deep, above_all}
pub use Rattle.definitions.specs.Ranks.{check_fault, check_with_fault, counts, deep_fault, first_deep, first_fall}
pub use Rattle.definitions.specs.Ranks.{first_long, first_stuck, first_unfit, found, is_stuck, is_unfit, keeps_limit}
pub use Rattle.definitions.specs.Ranks.{least_ranks, next_rank, rank_by, ranks_by, ranks_upto, staircase, steps_fault}
pub use Rattle.definitions.specs.Ranks.{greatest, steps_from}
pub use Rattle.definitions.specs.Reading.{answer_at, bytes_at, came_at, counted_event, ended_at, event_at, event_in}
pub use Rattle.definitions.specs.Reading.{event_of, failed_at, frame_at, frame_of, is_item_length, item_at, items_at}
pub use Rattle.definitions.specs.Reading.{list_at, listing_at, lower_at, mark_in, marks_at, marks_in, nothing_after}
pub use Rattle.definitions.specs.Reading.{number_at, range_at, sum_at, text_at, unless, upper_at}
pub use Rattle.definitions.specs.Refusals.{answer_repeats, bad_kind, empty_range, frame_length, gap, item_order}
pub use Rattle.definitions.specs.Refusals.{item_outside, mark_count, mark_padding, misplaced, missing_answer, stall}
pub use Rattle.definitions.specs.Refusals.{too_many_parts, trailing, truncated}
pub use Rattle.definitions.specs.Replies.{Peer, answer_to, bound_at, cutup, differing, inner_cuts, reply, reply_to}
pub use Rattle.definitions.specs.Replies.{opening, opening_ranges, opening_sizes, sum_of}
pub use Rattle.definitions.specs.Sets.{IsSet, add_item, difference, has, items_in, set_of, symmetric_difference, union}
pub use Rattle.definitions.specs.Strategies.{At_items, Bounds, Open_split, Open_sum, Opening, Short, is_cut}
pub use Rattle.definitions.specs.Strategies.{Act, IsAct, IsTable, List_items, Peel, Row, Split, Table, act, act_in}
pub use Rattle.definitions.specs.Strategies.{cuts_by, differences, is_split, list_only, running_sums, shares, shares_by}
pub use Rattle.definitions.specs.Strategies.{opening_counts, uptos, widest, width, width_of, without_zeros}
pub use Rattle.definitions.specs.Streams.{Before_hello, Faulted, Fed, In_message, Meaning_over, Means, MeansFrames}
pub use Rattle.definitions.specs.Streams.{Standing, fed_by, feed, feed_frames, feed_start, message_by, message_from}
pub use Rattle.definitions.specs.Streams.{message_in, messages_of}
pub use Rattle.definitions.specs.Talks.{IsClear, IsClearAt, Knowledge, and_then, initiator_knows, knows, learn}
pub use Rattle.definitions.specs.Talks.{listed_in, nothing, of_first, of_second, responder_knows, sender, talk}
pub use Rattle.definitions.specs.Talks.{talk_from}
pub use Rattle.definitions.specs.Theorems.{AbsorbClaim, AreParts, CostClaim, CostsLittle, EndsHearOn, EndsKeepLimits}
pub use Rattle.definitions.specs.Theorems.{EndsKeepPeers, EndsStandFirm, Headline, HistoryClaim, InitiatorLearns}
pub use Rattle.definitions.specs.Theorems.{InitiatorStops, IsHonest, IsNode, IsSettled, IsShort, IsSound, KeepLimits}
pub use Rattle.definitions.specs.Theorems.{KnowledgeIsExact, KnowledgeIsSound, KnowsDifference, KnowsNothingWrong}
pub use Rattle.definitions.specs.Theorems.{LearnsOnce, ListsAreShort, ListsOnce, ListsSome, MessagesAreFew, MessagesFit}
pub use Rattle.definitions.specs.Theorems.{OpeningIsExact, PartsAreFew, PlacedAreApart, PlacingIsExact, Ready}
pub use Rattle.definitions.specs.Theorems.{RepliesAreApart, RepliesAreHonest, RepliesArePlaced, RepliesAreShort}
pub use Rattle.definitions.specs.Theorems.{ResponderLearns, ResponderStops, SessionsEnd, StandsFirm, TalksAreApart}
pub use Rattle.definitions.specs.Theorems.{deliveries, inserts, lies_open, opened, rank}
pub use Rattle.definitions.specs.Wire.{AreItemsOf, Came, Counts, Ended, Event, Failed, Input, IsMessage, IsPart}
pub use Rattle.definitions.specs.Wire.{IsProfile, One_message, Profile, Says, Spells, Stream, body, count_text}
pub use Rattle.definitions.specs.Wire.{compact_profile, counted_profile, end_text, event_text, fault_text, frame}
pub use Rattle.definitions.specs.Wire.{greatest_kind}
pub use Rattle.definitions.specs.Wire.{items_text, lanes_read, lanes_text, mark_byte, mark_bytes, mark_bytes_for}
pub use Rattle.definitions.specs.Wire.{marks_text, max_body, max_parts, message_text, part_text, range_text}
pub use Rattle.definitions.specs.Wire.{session_text, short_text, two_lane_profile, upper_text}
pub use Rattle.definitions.specs.Worlds.{Absorbing, Initiator, Node, Responder, Session, Side, Step, World, absorb_all}
pub use Rattle.definitions.specs.Worlds.{absorb_at, absorb_by, absorb_into, absorb_one, absorb_side, has_ended}
pub use Rattle.definitions.specs.Worlds.{initiator_knowledge, initiator_of, insert_at, message_bound, messages, no_node}
pub use Rattle.definitions.specs.Worlds.{node_at, peer_at, rank_of, responder_knowledge, responder_of, run, start, step}
pub use Rattle.definitions.specs.Worlds.{opened_of, with_history}
pub use Rattle.std.specs.Cmp.Lexicographic.{same_text}
pub use Rattle.std.specs.Int.{bit_at, from_be_bytes, to_be_bytes, w128, w32}
pub use Rattle.std.specs.List.{AllByRecursion, items_where_true, list_all, list_any, range_with_len}
pub use Rattle.std.specs.List.Sorted.{IsNonDecreasing, IsStrictlyIncreasing}
pub use Rattle.std.specs.Option.{option_or}
pub use Rattle.std.specs.Ordering.{is_lt, match_ordering, ordering_reverse}
