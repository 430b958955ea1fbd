use Rattle.std.proofs.Common.{◌≡◌, ℕ, List, ◌∷◌, true, false, length, nat_eq, rules, sym, ap, ◌∙◌}
use Rattle.std.specs.List.{list_all}
use Rattle.std.specs.Prelude.{if◌then◌else◌}
use Rattle.definitions.specs.Items.{Item}
use Rattle.definitions.specs.Compact.{common_length}
use Rattle.compact_core.proofs.items.common_length.Goals as goal

all_common : (items rest : List Item) (first : Item) (n : ℕ) → items ≡ first ∷ rest → n ≡ length first →
    list_all (λ y. nat_eq (length y) n) rest ≡ true → n ≡ common_length items
all_common items rest first n whole is all =
    let same : list_all (λ y. nat_eq (length y) (length first)) rest ≡ true =
    ap (λ (m : ℕ). list_all (λ y. nat_eq (length y) m) rest) (sym is) ∙ all in
    is ∙ sym (ap common_length whole ∙ ap (λ b. if b then length first else 0) same)

not_common : (items rest : List Item) (first : Item) (n : ℕ) → items ≡ first ∷ rest → n ≡ length first →
    list_all (λ y. nat_eq (length y) n) rest ≡ false → 0 ≡ common_length items
not_common items rest first n whole is all =
    let same : list_all (λ y. nat_eq (length y) (length first)) rest ≡ false =
    ap (λ (m : ℕ). list_all (λ y. nat_eq (length y) m) rest) (sym is) ∙ all in
    sym (ap common_length whole ∙ ap (λ b. if b then length first else 0) same)

pub returns-then-not-have_length-clause-length : goal.returns-then-not-have_length-clause-length
returns-then-not-have_length-clause-length c =
    let first = c.in-Some.first.now in
    let rest = c.in-Some.rest.now in
    let whole : c.args.items.now ≡ first ∷ rest = search rules in
    let all : list_all (λ y. nat_eq (length y) (length c.bytes-length.result.now)) rest ≡ false = search rules in
    not_common c.args.items.now rest first (length c.bytes-length.result.now) whole
    (ap length c.bytes-length.ensures.bytes) all

pub returns-clause-length : goal.returns-clause-length
returns-clause-length c =
    let first = c.in-Some.first.now in
    let rest = c.in-Some.rest.now in
    let whole : c.args.items.now ≡ first ∷ rest = search rules in
    let all : list_all (λ y. nat_eq (length y) (length c.bytes-length.result.now)) rest ≡ true = search rules in
    all_common c.args.items.now rest first (length c.bytes-length.result.now) whole
    (ap length c.bytes-length.ensures.bytes) all
