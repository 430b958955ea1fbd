-- What was appended in steps was appended as one: in two steps, in three, in four.
use Rattle.std.proofs.Common.{◌≡◌, ap, ◌∙◌, List, ◌++◌, append_assoc}

pub joined : {X : Type 0} (old a b text more : List X) → text ≡ old ++ a → more ≡ text ++ b → more ≡ old ++ (a ++ b)
joined old a b text more first second = second ∙ ap (λ t. t ++ b) first ∙ append_assoc old a b

pub joined_three : {X : Type 0} (old a b c one two three : List X) → one ≡ old ++ a → two ≡ one ++ b →
    three ≡ two ++ c → three ≡ old ++ (a ++ (b ++ c))
joined_three old a b c one two three first second third =
    joined old a (b ++ c) one three first (joined one b c two three second third)

pub joined_four : {X : Type 0} (old a b c d one two three four : List X) → one ≡ old ++ a → two ≡ one ++ b →
    three ≡ two ++ c → four ≡ three ++ d → four ≡ old ++ (a ++ (b ++ (c ++ d)))
joined_four old a b c d one two three four first second third fourth =
    joined old a (b ++ (c ++ d)) one four first (joined_three one b c d two three four second third fourth)
