-- A call that refuses nothing is Ok.
use Rattle.std.proofs.Common.{◌≡◌, ℕ, Option, None, Result, Ok, Err, refl, sym}
use Rattle.std.specs.Prelude.{◌↔◌, IsOk}
use Rattle.place_core.specs.PlaceFaults.{fault_in}
use Rattle.place_core.specs.declared.fault.PlaceFault.{PlaceFault}

pub none_is_ok : {X : Type 0} (r : Result X PlaceFault) (fault : Option ℕ) (P : Type 0) → fault_in r ≡ fault →
    ((fault ≡ None) ↔ P) → IsOk r ↔ P
none_is_ok (Ok x) fault P e exact = ((λ _. exact.0 (sym e)), (λ _. refl))
none_is_ok (Err f) fault P e exact = ((λ no. absurd (cc)), (λ p. let none = exact.1 p in absurd (cc)))
