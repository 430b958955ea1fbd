use Rattle.std.proofs.Common.{◌≡◌, ◌<◌, ℕ, List, length, None, Ok, Err, Result, arith, refl, rules}
use Rattle.hex.specs.Hex.{decode_of}
use Rattle.hex.specs.declared.error.FromHexError.{FromHexError}
use Rattle.hex.proofs.HexLemmas.{decode_of-ok}
use Rattle.item_files.specs.ItemFiles.{decoded}
use Rattle.item_files.proofs.item_file.item_of.Goals as goal

too_long : (digits : List ℕ) → 128 < length digits → None ≡ decoded (decode_of digits)
too_long digits long = given (decode_of digits) refl
  where
    given : (r : Result (List ℕ) FromHexError) → decode_of digits ≡ r → None ≡ decoded r
    given (Err e) is = refl
    given (Ok bytes) is = let twice = (decode_of-ok digits bytes is).2 in search (rules, twice, long)

pub returns-then-digits-gt128 : goal.returns-then-digits-gt128
returns-then-digits-gt128 c = too_long c.args.digits.now (let long = c.if-digits-gt128.true in omega arith)
