-- Packed items that follow others. Their bytes come after those of the others, and each of them ends later, by as many
-- bytes as the others have. The fingerprint of all items up to one of them is that of the others, joined with its own
-- running sum.
use Rattle.std.proofs.Common.{◌≡◌, ℕ, ◌+◌, ◌<◌, List, [], ◌++◌, map, take, drop, length, sym, ap, ◌∙◌, arith}
use Rattle.std.proofs.lemmas.List.{length-append, take_all, drop_all, append-nil}
use Rattle.std.proofs.lemmas.List.Concat.{flat_map-append}
use Rattle.definitions.specs.Items.{Item, IsItem}
use Rattle.definitions.specs.Fingerprints.{Lanes, two_lanes, join_lanes}
use Rattle.digest_core.specs.Laws.{adds_up}
use Rattle.store_core.specs.Sums.{running_sums}
use Rattle.store_core.proofs.Running.{sums-append, sums-map}
use Rattle.range_tree.specs.Packs.{joined, ends_from, IsPack}
use Rattle.range_tree.proofs.Pieces.{ends_append, ends_later, all_append}

-- a run of bytes put where all the others end
pub run_at_end : (n : ℕ) (bytes more : List ℕ) → n ≡ length bytes → take n bytes ++ more ++ drop n bytes ≡ bytes ++ more
run_at_end n bytes more end =
    rw (take_all n bytes (omega arith), drop_all n bytes (omega arith)) (append-nil (bytes ++ more))

module _ (xs ys : List Item) where
  sums_both : running_sums xs ++ map (λ sum. join_lanes (two_lanes.of xs) sum) (running_sums ys)
      ≡ running_sums (xs ++ ys)
  sums_both =
      sym (sums-append two_lanes.of [] xs ys
      ∙ ap (λ sums. running_sums xs ++ sums)
      (sums-map two_lanes.of (join_lanes (two_lanes.of xs)) [] xs ys (λ C. adds_up xs C)))

  ends_both : ends_from 0 xs ++ map (λ end. end + length (joined xs)) (ends_from 0 ys) ≡ ends_from 0 (xs ++ ys)
  ends_both = sym (ends_append 0 xs ys ∙ ap (λ ends. ends_from 0 xs ++ ends) (ends_later 0 (length (joined xs)) ys))

  module _ (start : ℕ) (front : Lanes) (starts : start ≡ length (joined xs)) (total : front ≡ two_lanes.of xs) where
    pub pack_both : (bytes ends more_bytes more_ends all_bytes all_ends : List ℕ)
        (sums more_sums all_sums : List Lanes) → IsPack xs bytes ends sums → IsPack ys more_bytes more_ends more_sums →
        length xs + length ys < 1024 → all_bytes ≡ bytes ++ more_bytes →
        all_ends ≡ ends ++ map (λ end. end + start) more_ends →
        all_sums ≡ sums ++ map (λ sum. join_lanes front sum) more_sums → IsPack (xs ++ ys) all_bytes all_ends all_sums
    pack_both bytes ends more_bytes more_ends all_bytes all_ends sums more_sums all_sums pack more few in_bytes in_ends
        in_sums =
        let both = length-append xs ys in
        record {
          are_joined = in_bytes ∙ (λ j. pack.are_joined j ++ more.are_joined j)
              ∙ sym (flat_map-append (λ x. x) xs ys);
          are_ends = in_ends ∙ (λ j. pack.are_ends j ++ map (λ end. end + starts j) (more.are_ends j)) ∙ ends_both;
          are_sums = in_sums ∙ (λ j. pack.are_sums j ++ map (λ sum. join_lanes (total j) sum) (more.are_sums j))
              ∙ sums_both;
          are_items = all_append IsItem xs ys pack.are_items more.are_items;
          are_few = omega arith;
        }
