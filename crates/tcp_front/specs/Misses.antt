-- Why an accept made no connection, by the number that Linux gives.
--     scarce, gone       no descriptor or no memory for one more; the connection or its network is gone
--     miss_for code
use Rattle.std.specs.Prelude.{ℕ, ℤ, pos, negsuc, Bool, false, ◌||◌, nat_eq, if◌then◌else◌, List, [], ◌∷◌, Option, Some}
use Rattle.std.specs.Prelude.{None}
use Rattle.tcp_front.specs.declared.trying.Miss.{Miss}
use Rattle.tcp_front.specs.declared.trying.Miss.TheVariants.{Gone, NoRoom, Failed}

abbrev pub scarce : List ℕ
scarce = 12 ∷ 23 ∷ 24 ∷ 105 ∷ []

abbrev pub gone : List ℕ
gone = 1 ∷ 64 ∷ 71 ∷ 92 ∷ 95 ∷ 100 ∷ 101 ∷ 103 ∷ 112 ∷ 113 ∷ []

abbrev pub is_one_of : ℕ → List ℕ → Bool
is_one_of n [] = false
is_one_of n (m ∷ ms) = nat_eq n m || is_one_of n ms

abbrev pub miss_for : Option ℤ → Miss
miss_for None = Failed
miss_for (Some (negsuc n)) = Failed
miss_for (Some (pos n)) = if is_one_of n scarce then NoRoom else if is_one_of n gone then Gone else Failed
