-- What the checker answers.
use Rattle.std.specs.Prelude.{◌≡◌, ℕ, ◌+◌, List, [], ◌∷◌, Some, None, Ok, refl, map, sum, take, length}
use Rattle.definitions.specs.Strategies.{Table, List_items, Split, shares, width}
use Rattle.definitions.specs.Ranks.{check_fault, check_with_fault, List_too_long, No_descent, Too_deep, Bad_certificate}
use Rattle.definitions.specs.Ranks.{least_ranks, first_stuck, found, rank_by, steps_fault}
use Rattle.definitions.specs.Climbs.{find_steps, check_by_steps}
use Rattle.definitions.proofs.Cases.Examples.{table_of, row_upto, halves, binary, binary8, binary16, peeling}

pub binary_eight_accepted : check_fault binary8 ≡ None
binary_eight_accepted = refl

pub binary_eight_ranks : least_ranks binary8 ≡ 0 ∷ 0 ∷ 1 ∷ 2 ∷ 2 ∷ 3 ∷ 3 ∷ 3 ∷ 3 ∷ []
binary_eight_ranks = refl

pub binary_eight_steps : found binary8 ≡ Ok (1 ∷ 2 ∷ 4 ∷ 8 ∷ [])
binary_eight_steps = refl

pub binary_eight_steps_by_the_loop : find_steps binary8 ≡ Ok (1 ∷ 2 ∷ 4 ∷ 8 ∷ [])
binary_eight_steps_by_the_loop = refl

abbrev pub skewed : Table
skewed = table_of 8 1 3 (row_upto 1 List_items ∷ row_upto 8 (Split (1 ∷ 15 ∷ [])) ∷ [])

pub a_share_of_all : check_fault skewed ≡ Some (No_descent 2)
a_share_of_all = refl

pub the_one_share : shares skewed 2 ≡ 2 ∷ []
the_one_share = refl

pub one_round_too_few : check_fault (binary 8 2) ≡ Some (Too_deep 5 3)
one_round_too_few = refl

pub one_round_too_few_by_the_loop : check_by_steps (binary 8 2) ≡ Some (Too_deep 5 3)
one_round_too_few_by_the_loop = refl

abbrev pub long_lists : Table
long_lists = table_of 8 3 3 (row_upto 4 List_items ∷ row_upto 8 (Split (1 ∷ 1024 ∷ [])) ∷ [])

pub list_row_above_the_limit : check_fault long_lists ≡ Some (List_too_long 4)
list_row_above_the_limit = refl

pub though_five_has_no_descent : first_stuck long_lists ≡ Some 5
though_five_has_no_descent = refl

abbrev pub list_between : Table
list_between =
    table_of 6 4 3 (row_upto 1 List_items ∷ row_upto 3 halves ∷ row_upto 4 List_items ∷ row_upto 6 halves ∷ [])

pub a_list_row_keeps_its_rank : least_ranks list_between ≡ 0 ∷ 0 ∷ 1 ∷ 2 ∷ 2 ∷ 3 ∷ 3 ∷ []
a_list_row_keeps_its_rank = refl

pub a_list_row_keeps_its_rank_accepted : check_fault list_between ≡ None
a_list_row_keeps_its_rank_accepted = refl

pub a_list_row_keeps_its_rank_steps : found list_between ≡ Ok (1 ∷ 2 ∷ 4 ∷ 6 ∷ [])
a_list_row_keeps_its_rank_steps = refl

abbrev pub one_to_three : Table
one_to_three = table_of 8 1 9 (row_upto 1 List_items ∷ row_upto 8 (Split (1 ∷ 3 ∷ [])) ∷ [])

pub no_descent_at_two : check_fault one_to_three ≡ Some (No_descent 2)
no_descent_at_two = refl

pub though_eight_has_two_shares : shares one_to_three 8 ≡ 2 ∷ 6 ∷ []
though_eight_has_two_shares = refl

pub a_split_of_nothing : check_fault (table_of 4 0 9 (row_upto 4 halves ∷ [])) ≡ Some (No_descent 0)
a_split_of_nothing = refl

-- certificates

abbrev pub all_counts : List ℕ
all_counts = 1 ∷ 2 ∷ 3 ∷ 4 ∷ 5 ∷ 6 ∷ 7 ∷ 8 ∷ []

pub bad_certificate : check_with_fault binary8 (1 ∷ 3 ∷ 4 ∷ 8 ∷ []) ≡ Some (Bad_certificate 3)
bad_certificate = refl

pub deep_certificate : check_with_fault binary8 all_counts ≡ Some (Too_deep 5 4)
deep_certificate = refl

pub deep_certificate_with_more_rounds : check_with_fault (binary 8 7) all_counts ≡ None
deep_certificate_with_more_rounds = refl

pub bound_of_a_deep_certificate : rank_by all_counts 8 + 2 ≡ 9
bound_of_a_deep_certificate = refl

pub certificate_beyond_the_cap : check_with_fault (binary 8 7) (1 ∷ 2 ∷ 4 ∷ 7 ∷ 100 ∷ []) ≡ None
certificate_beyond_the_cap = refl

pub no_steps : steps_fault [] ≡ Some 0
no_steps = refl

pub steps_that_do_not_rise : steps_fault (1 ∷ 3 ∷ 3 ∷ []) ≡ Some 3
steps_that_do_not_rise = refl

-- shares

abbrev pub three_one_one : Table
three_one_one = table_of 8 0 9 (row_upto 8 (Split (3 ∷ 1 ∷ 1 ∷ [])) ∷ [])

-- the sums of ever more shares
abbrev pub cut_at : ℕ → ℕ → ℕ
cut_at n j = sum (take j (shares three_one_one n))

pub cuts_of_seven : map (cut_at 7) (0 ∷ 1 ∷ 2 ∷ 3 ∷ []) ≡ 0 ∷ 4 ∷ 5 ∷ 7 ∷ []
cuts_of_seven = refl

pub one_share_of_one : length (shares three_one_one 1) ≡ 1
one_share_of_one = refl

pub no_share_of_nothing : length (shares three_one_one 0) ≡ 0
no_share_of_nothing = refl

-- rows that peel

pub peeling_by_threes : check_fault (peeling 3 3) ≡ None
peeling_by_threes = refl

pub peeling_by_threes_steps : found (peeling 3 3) ≡ Ok (3 ∷ 6 ∷ 9 ∷ 10 ∷ [])
peeling_by_threes_steps = refl

pub peeling_one_round_too_few : check_fault (peeling 2 3) ≡ Some (Too_deep 10 3)
peeling_one_round_too_few = refl

pub peeling_four_of_four : check_fault (peeling 3 4) ≡ Some (No_descent 4)
peeling_four_of_four = refl

pub peeling_is_two_wide : width (peeling 3 3) ≡ 2
peeling_is_two_wide = refl

pub halves_are_two_wide : width binary16 ≡ 2
halves_are_two_wide = refl
