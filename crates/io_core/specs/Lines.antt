-- Bytes as lines, each ending with a line feed.
--     feed                         the byte of a line feed
--     AreLines bytes               whole lines: the last byte, if there is one, is a line feed
--     HasNoFeed bytes              none of the bytes is a line feed
--     IsLine bytes                 one line: its only line feed is its last byte
--     Splits bytes whole torn      the bytes are whole lines, and then what has no line feed
--     line_count bytes             how many lines end in the bytes
--     AreSomeOf base lines bytes   base, and the first few of the lines
--     BeginningsAreWhole           a beginning of lines that were added one by one, cut after its last line feed, is
--                                  the first few of these lines, and no part of one
use Rattle.std.specs.Prelude.{◌≡◌, ◌≢◌, ℕ, ◌-◌, ◌<◌, ◌≤◌, ◌==◌, List, [], ◌∷◌, ◌++◌, length, take, All}
use Rattle.std.specs.Prelude.{slice_index, count_by}
use Rattle.std.specs.List.{AllByRecursion, concat}

abbrev pub feed : ℕ
feed = 10

abbrev pub AreLines : List ℕ → Type 0
AreLines bytes = 0 < length bytes → slice_index bytes (length bytes - 1) ≡ feed

abbrev pub HasNoFeed : List ℕ → Type 0
HasNoFeed bytes = All (λ byte. byte ≢ feed) bytes

pub record IsLine (bytes : List ℕ) : Type 0 where
  pub text : List ℕ
  pub one : HasNoFeed text
  pub is : bytes ≡ text ++ feed ∷ []

pub record Splits (bytes whole torn : List ℕ) : Type 0 where
  pub all : bytes ≡ whole ++ torn
  pub lines : AreLines whole
  pub rest : HasNoFeed torn

abbrev pub line_count : List ℕ → ℕ
line_count bytes = count_by (λ byte. byte == feed) bytes

pub record AreSomeOf (base : List ℕ) (lines : List (List ℕ)) (bytes : List ℕ) : Type 0 where
  pub j : ℕ
  pub within : j ≤ length lines
  pub are : bytes ≡ base ++ concat (take j lines)

abbrev pub BeginningsAreWhole : Type 0
BeginningsAreWhole = (base : List ℕ) (lines : List (List ℕ)) (n : ℕ) (whole torn : List ℕ)
    → AreLines base → AllByRecursion IsLine lines → length base ≤ n
    → Splits (take n (base ++ concat lines)) whole torn → AreSomeOf base lines whole
