-- The set without a name has no bytes, and one shard.
use Rattle.std.proofs.Common.{◌≡◌, ◌∙◌, ap, sym, Bool, true, List, ℕ, [], cond}
use Rattle.definitions.specs.Items.{whole}
use Rattle.shard_core.specs.Selectors.{says_part, selecting}
use Rattle.shard_core.specs.declared.selector.Which.TheVariants.{Shard}
use Rattle.shard_core.specs.declared.selector.Selecting.TheVariants.{Selected}
use Rattle.peer_loops.specs.Fronts.{said_openly}
use Rattle.peer_loops.proofs.chosen.said_openly.Goals as goal

openly : (came : List ℕ) → says_part came ≡ true → selecting [] 0 came ≡ said_openly came
openly came said = sym (ap (λ (b : Bool). cond b (selecting [] 0 came) (Selected (Shard 0) whole 0)) said)

pub returns-then-says_part : goal.returns-then-says_part
returns-then-says_part c =
    c.read.ensures.tests
    ∙ (λ i. selecting (c.nameless.ensures.0 i) (c.nameless.ensures.1 i) c.args.came.now)
    ∙ openly c.args.came.now (sym c.says_part.ensures ∙ c.if-says_part.true)
