-- The name, b and the number of a selector of either kind are read back from its bytes, and from no others.
use Rattle.std.proofs.Common.{◌≡◌, ℕ, zero, suc, ◌+◌, ◌<◌, ◌≤◌, ◌^◌, Bool, true, false, ◌&&◌, ◌==◌, List, []}
use Rattle.std.proofs.Common.{◌∷◌, ◌++◌, length, get_or, take, drop, refl, sym, ap, subst, ◌∙◌, arith}
use Rattle.std.proofs.Common.{Option, Some, None, Ok, Err}
use Rattle.std.specs.Prelude.{nat_lt, ok_or, if◌then◌else◌}
use Rattle.std.specs.Int.{w16, to_be_bytes, from_be_bytes}
use Rattle.std.proofs.lemmas.Bool.{eq-eqb, eqb-true, and_parts, and_from, lt-ltb, ltb-true, ltb-false, le-ltb}
use Rattle.std.proofs.lemmas.List.{length-append, get_or-drop}
use Rattle.std.proofs.lemmas.Nat.{be_bytes_2, from_be_bytes-to_be_bytes_2}
use Rattle.std.proofs.Math.Pow.{pow_mono}
use Rattle.shard_core.specs.declared.selector.Which.{Which}
use Rattle.shard_core.specs.declared.selector.Which.TheVariants.{Shard, Directory}
use Rattle.shard_core.specs.declared.selector.Selecting.{Selecting}
use Rattle.shard_core.specs.declared.selector.Selecting.TheVariants.{More, WrongSet}
use Rattle.shard_core.specs.Selectors.{IsWhich, which_number, agree, is_own, which_of, number_at, which_in}
use Rattle.shard_core.proofs.Agreeing.{agree_none, agree_front, begins}
use Rattle.shard_core.proofs.Spelled.{if_not, if_so, Spelled, after_name, after_bits, after_number, spelled_length}

-- ---- the number

which_back : (b : ℕ) (w : Which) → b ≤ 12 → IsWhich b w → which_of b (which_number w) ≡ Some w
which_back b (Shard s) low below = if_so (nat_lt s (2 ^ b)) (Some (Shard s)) _ (lt-ltb s (2 ^ b) below)
which_back b Directory low some =
    let most : 2 ^ b ≤ 2 ^ 12 = pow_mono {i = b} {j = 12} low in
    if_not (nat_lt 0xFFFF (2 ^ b)) (Some (Shard 0xFFFF)) _ (le-ltb 0xFFFF (2 ^ b) (omega arith))
    ∙ if_so (nat_lt 0 b) (Some Directory) None (lt-ltb 0 b some)

directory_is : (b n : ℕ) (w : Which) (c : Bool) → ((n == 0xFFFF) && nat_lt 0 b) ≡ c →
    (if c then Some Directory else None) ≡ Some w → IsWhich b w × (which_number w ≡ n)
directory_is b n w true e is =
    let both = and_parts (n == 0xFFFF) (nat_lt 0 b) e in
    let which : Directory ≡ w = cc in
    subst (λ u. IsWhich b u × (which_number u ≡ n)) which (ltb-true 0 b both.1, sym (eqb-true n 0xFFFF both.0))
directory_is b n w false e is = absurd (cc)

which_is : (b n : ℕ) (w : Which) → which_of b n ≡ Some w → IsWhich b w × (which_number w ≡ n)
which_is b n w e =
    let rest : Option Which = if (n == 0xFFFF) && nat_lt 0 b then Some Directory else None in
    let either : (c : Bool) → nat_lt n (2 ^ b) ≡ c → (if c then Some (Shard n) else rest) ≡ Some w →
    IsWhich b w × (which_number w ≡ n) = elim [
      | true ↦ λ low is. (
          let which : Shard n ≡ w = cc in
          subst (λ u. IsWhich b u × (which_number u ≡ n)) which (ltb-true n (2 ^ b) low, refl)
          )
      | false ↦ λ high is. directory_is b n w ((n == 0xFFFF) && nat_lt 0 b) refl is
    ] in
    either (nat_lt n (2 ^ b)) refl e

which_fits : (b : ℕ) (w : Which) → b ≤ 12 → IsWhich b w → which_number w < 2 ^ 16
which_fits b (Shard s) low below =
    let most : 2 ^ b ≤ 2 ^ 12 = pow_mono {i = b} {j = 12} low in omega (arith, below, most)
which_fits b Directory low some = omega arith

-- ---- what is written is read back

own_spelled : (m : ℕ) (name : List ℕ) (b : ℕ) (after : List ℕ) → is_own name b (Spelled m name b after) ≡ true
own_spelled m name b after =
    let bits : Bool = agree (drop (5 + length name) (Spelled m name b after)) (b ∷ []) in
    and_from (agree (length name ∷ name ++ b ∷ after) (length name ∷ [])) (agree (name ++ b ∷ after) name && bits)
    (and_from (length name == length name) (agree (name ++ b ∷ after) []) (eq-eqb (length name) (length name) refl)
    (agree_none (name ++ b ∷ after)))
    (and_from (agree (name ++ b ∷ after) name) bits (agree_front name (b ∷ after))
    (ap (λ xs. agree xs (b ∷ [])) (after_name m (length name) name (b ∷ after))
    ∙ and_from (b == b) (agree after []) (eq-eqb b b refl) (agree_none after)))

spelled_which : (m : ℕ) (name : List ℕ) (b c d : ℕ) (later : List ℕ) →
    which_in name b (Spelled m name b (c ∷ d ∷ later)) ≡ ok_or (which_of b (from_be_bytes w16 (c ∷ d ∷ []))) WrongSet
spelled_which m name b c d later =
    let text : List ℕ = Spelled m name b (c ∷ d ∷ later) in
    let long = spelled_length m name b c d later in
    if_so (is_own name b text) _ (Err WrongSet) (own_spelled m name b (c ∷ d ∷ later))
    ∙ if_not (nat_lt (length text) (8 + length name)) (Err More) _
    (le-ltb (length text) (8 + length name) (omega arith))
    ∙ ap (λ xs. ok_or (which_of b (from_be_bytes w16 (take 2 xs))) WrongSet) (after_bits m name b (c ∷ d ∷ later))

pub which_written : (m : ℕ) (name : List ℕ) (b : ℕ) (w : Which) (later : List ℕ) → b ≤ 12 → IsWhich b w →
    which_in name b (Spelled m name b (to_be_bytes w16 (which_number w) ++ later)) ≡ Ok w
which_written m name b w later low is =
    spelled_which m name b _ _ later
    ∙ ap (λ k. ok_or (which_of b k) WrongSet) (from_be_bytes-to_be_bytes_2 (which_number w) (which_fits b w low is))
    ∙ ap (λ o. ok_or o WrongSet) (which_back b w low is)

-- ---- and nothing else is

two_of : (xs : List ℕ) → 2 ≤ length xs → (c : ℕ) × (d : ℕ) × (later : List ℕ) × (xs ≡ c ∷ d ∷ later)
two_of [] long = absurd (omega arith)
two_of (c ∷ []) long = absurd (omega arith)
two_of (c ∷ d ∷ later) long = (c, d, later, refl)

-- what follows the mark
after_mark : (m : ℕ) (name : List ℕ) (b : ℕ) (rest : List ℕ) →
    is_own name b (0x52 ∷ 0x52 ∷ 0x53 ∷ m ∷ rest) ≡ true → 4 + length name ≤ length rest →
    (c : ℕ) × (d : ℕ) × (later : List ℕ) × (rest ≡ length name ∷ name ++ b ∷ c ∷ d ∷ later)
after_mark m name b [] own long = absurd (omega arith)
after_mark m name b (l ∷ rest) own long =
    let last : Bool = agree (drop (5 + length name) (0x52 ∷ 0x52 ∷ 0x53 ∷ m ∷ l ∷ rest)) (b ∷ []) in
    let parts = and_parts ((l == length name) && agree rest []) (agree rest name && last) own in
    let count = and_parts (l == length name) (agree rest []) parts.0 in
    let both = and_parts (agree rest name) last parts.1 in
    let named = begins rest name (omega arith) both.0 in
    let left : drop (5 + length name) (0x52 ∷ 0x52 ∷ 0x53 ∷ m ∷ l ∷ rest) ≡ named.0 =
    ap (λ xs. drop (5 + length name) (0x52 ∷ 0x52 ∷ 0x53 ∷ m ∷ l ∷ xs)) named.1 ∙ after_name m l name named.0 in
    let many : length rest ≡ length name + length named.0 = ap length named.1 ∙ length-append name named.0 in
    let bits = begins named.0 (b ∷ []) (omega (arith, many)) (subst (λ xs. agree xs (b ∷ []) ≡ true) left both.1) in
    let more : length named.0 ≡ suc (length bits.0) = ap length bits.1 in
    let two = two_of bits.0 (omega (arith, many, more)) in (
      two.0,
      two.1,
      two.2,
      (λ i. eqb-true l (length name) count.0 i ∷ named.1 i)
          ∙ ap (λ xs. length name ∷ name ++ xs) (bits.1 ∙ ap (λ xs. b ∷ xs) two.3),
    )

-- bytes that fit are so spelled
spelled_from : (m : ℕ) (name : List ℕ) (b : ℕ) (bytes : List ℕ) → agree bytes (0x52 ∷ 0x52 ∷ 0x53 ∷ m ∷ []) ≡ true →
    is_own name b bytes ≡ true → 8 + length name ≤ length bytes →
    (c : ℕ) × (d : ℕ) × (later : List ℕ) × (bytes ≡ Spelled m name b (c ∷ d ∷ later))
spelled_from m name b bytes marked own long =
    let first = begins bytes (0x52 ∷ 0x52 ∷ 0x53 ∷ m ∷ []) (omega arith) marked in
    let many : length bytes ≡ suc (suc (suc (suc (length first.0)))) = ap length first.1 in
    let after =
    after_mark m name b first.0 (subst (λ xs. is_own name b xs ≡ true) first.1 own) (omega (arith, many)) in
    (after.0, after.1, after.2, first.1 ∙ ap (λ xs. 0x52 ∷ 0x52 ∷ 0x53 ∷ m ∷ xs) after.3)

both_small : (c d : ℕ) → c < 256 → d < 256 → (i : ℕ) → get_or (c ∷ d ∷ []) i 0 < 256
both_small c d low small zero = low
both_small c d low small (suc zero) = small
both_small c d low small (suc (suc i)) = omega arith

none_else : (o : Option Which) (r : Selecting) (w : Which) → ok_or o r ≡ Ok w → o ≡ Some w
none_else None r w e = absurd (cc)
none_else (Some v) r w e = cc

-- the tests that name, b and number passed
passed : (name : List ℕ) (b : ℕ) (bytes : List ℕ) (w : Which) (own short : Bool) →
    (if own then (
    if short then Err More else ok_or (which_of b (number_at bytes (6 + length name))) WrongSet
    ) else Err WrongSet) ≡ Ok w →
    (own ≡ true) × (short ≡ false) × (which_of b (number_at bytes (6 + length name)) ≡ Some w)
passed name b bytes w false short e = absurd (cc)
passed name b bytes w true true e = absurd (cc)
passed name b bytes w true false e =
    (refl, refl, none_else (which_of b (number_at bytes (6 + length name))) WrongSet w e)

-- what is read is so spelled
pub record IsRead (m : ℕ) (name : List ℕ) (b : ℕ) (bytes : List ℕ) (w : Which) : Type 0 where
  pub is : IsWhich b w
  pub text : bytes ≡ Spelled m name b (to_be_bytes w16 (which_number w) ++ drop (8 + length name) bytes)

pub which_only : (m : ℕ) (name : List ℕ) (b : ℕ) (bytes : List ℕ) (w : Which) →
    ((i : ℕ) → get_or bytes i 0 < 256) → agree bytes (0x52 ∷ 0x52 ∷ 0x53 ∷ m ∷ []) ≡ true →
    which_in name b bytes ≡ Ok w → IsRead m name b bytes w
which_only m name b bytes w small marked says =
    let tests = passed name b bytes w (is_own name b bytes) (nat_lt (length bytes) (8 + length name)) says in
    let is = spelled_from m name b bytes marked tests.0 (ltb-false (length bytes) (8 + length name) tests.1) in
    let n : ℕ = which_number w in
    let after : drop (6 + length name) bytes ≡ is.0 ∷ is.1 ∷ is.2 =
    ap (λ xs. drop (6 + length name) xs) is.3 ∙ after_bits m name b (is.0 ∷ is.1 ∷ is.2) in
    let first : is.0 ≡ get_or bytes (6 + length name + 0) 0 =
    ap (λ xs. get_or xs 0 0) (sym after) ∙ get_or-drop (6 + length name) bytes 0 0 in
    let second : is.1 ≡ get_or bytes (6 + length name + 1) 0 =
    ap (λ xs. get_or xs 1 0) (sym after) ∙ get_or-drop (6 + length name) bytes 1 0 in
    let one = small (6 + length name + 0) in
    let two = small (6 + length name + 1) in
    let digits : number_at bytes (6 + length name) ≡ from_be_bytes w16 (is.0 ∷ is.1 ∷ []) =
    ap (λ xs. from_be_bytes w16 (take 2 xs)) after in
    let which = which_is b (number_at bytes (6 + length name)) w tests.2 in
    let number : to_be_bytes w16 n ≡ is.0 ∷ is.1 ∷ [] =
    be_bytes_2 (is.0 ∷ is.1 ∷ []) n refl (both_small is.0 is.1 (omega (arith, first, one)) (omega (arith, second, two)))
    (which.1 ∙ digits) in
    let rest : drop (8 + length name) bytes ≡ is.2 =
    ap (λ xs. drop (8 + length name) xs) is.3 ∙ after_number m name b is.0 is.1 is.2 in record {
      is = which.0;
      text = is.3 ∙ ap (λ xs. Spelled m name b (is.0 ∷ is.1 ∷ xs)) (sym rest)
          ∙ ap (λ xs. Spelled m name b (xs ++ drop (8 + length name) bytes)) (sym number);
    }
