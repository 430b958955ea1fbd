use Rattle.std.proofs.Common.{◌∙◌, ◌++◌, ap, codes, refl, sym}
use Rattle.settings_core.proofs.addresses.address_of.Goals as goal

pub returns-in-Some : goal.returns-in-Some
returns-in-Some c =
    let cut = c.in-Some.ensures.cases in
    cut.1.1 ∙ ap (λ rest. codes "unix:" ++ rest) (sym cut.2)

pub returns-in-None : goal.returns-in-None
returns-in-None c = (refl, c.in-None.ensures.cases)
