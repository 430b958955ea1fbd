use Rattle.std.proofs.Common.{◌≡◌, ◌∙◌, inl, inr, refl, sym, ap, map, true, false, IfErr, IsSomeAnd, subst}
use Rattle.std.proofs.Common.{Result, Ok, Err}
use Rattle.clap.specs.Words.{IsAmong, fault_of, is_simple, is_simple_and_free, kind_of, subcommand_of}
use Rattle.clap.proofs.OnLiterals.{clap_on_literals}
use Rattle.settings_core.specs.Calls.{CallsFor}
use Rattle.settings_core.specs.Program.{program}
use Rattle.settings_core.proofs.words.read_words.Goals as goal

simple : is_simple program ≡ true
unfolding clap_on_literals
simple = refl

free : is_simple_and_free program ≡ true
unfolding clap_on_literals
free = refl

-- a claim that does not speak of the error
each_error : {X E : Type 0} (r : Result X E) (P : E → Type 0) (Q : Type 0) → Q → IfErr r (λ e. P e → Q)
each_error (Ok x) P Q q = tt
each_error (Err e) P Q q = λ _. q

pub returns-in-Some-clause-asked : goal.returns-in-Some-clause-asked
returns-in-Some-clause-asked g c =
    let is = c.in_ok-program_words.ensures.0 in
    let words = map g.W.AsStr.text c.args.words.now in
    let entered = (c.in-Ok.ensures.matches (ap is_simple is ∙ simple)).1 ∙ ap (λ a. subcommand_of a words) is in
    let taken = c.in-Ok.ensures.kinds (ap is_simple_and_free is ∙ free) in (
      ap (λ a. fault_of a words) (sym is) ∙ taken,
      subst (λ o. IsSomeAnd o (λ p. CallsFor p.0 p.1 c.in-Some.call))
          entered c.in-Some.ensures,
    )

pub returns-in-Err-clause-refused : goal.returns-in-Err-clause-refused
returns-in-Err-clause-refused g c =
    let is = c.in_ok-program_words.ensures.0 in
    let words = map g.W.AsStr.text c.args.words.now in
    let kinds = c.in-Err.ensures.kinds (ap is_simple_and_free is ∙ free) in
    λ known asked asks. elim kinds [
      | inl memory ↦ known (c.words_fault.ensures memory)
      | inr among ↦ subst (IsAmong (kind_of c.in-Err.error)) (ap (λ a. fault_of a words) is ∙ asks.0) among
    ]

pub returns-in_err-unasked_fault-in-None-clause-refused : goal.returns-in_err-unasked_fault-in-None-clause-refused
returns-in_err-unasked_fault-in-None-clause-refused g c =
    let is = c.in_ok-program_words.ensures.0 in
    let words = map g.W.AsStr.text c.args.words.now in
    let entered = (c.in-Ok.ensures.matches (ap is_simple is ∙ simple)).1 ∙ ap (λ a. subcommand_of a words) is in
    each_error c.from_residual-in_err-unasked_fault-in-None.result _ _
    (λ asked asks. c.in-None.ensures asked (subst (λ o. IsSomeAnd o (λ p. CallsFor p.0 p.1 asked)) (sym entered)
    asks.1))

pub returns-clause-refused : goal.returns-clause-refused
returns-clause-refused g c =
    let is = c.in_ok-program_words.ensures.0 in
    let words = map g.W.AsStr.text c.args.words.now in
    let entered = (c.in-Ok.ensures.matches (ap is_simple is ∙ simple)).1 ∙ ap (λ a. subcommand_of a words) is in
    λ known asked asks. c.in-None.ensures asked (subst (λ o. IsSomeAnd o (λ p. CallsFor p.0 p.1 asked)) (sym entered)
    asks.1)
