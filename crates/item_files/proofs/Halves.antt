-- A piece that is cut in front of a line feed, read by halves.
use Rattle.std.proofs.Common.{ℕ, ◌≡◌, ◌+◌, List, ◌∷◌, ◌++◌, arith, sym, ap, ◌∙◌}
use Rattle.std.specs.Prelude.{Ok, Err}
use Rattle.definitions.specs.Items.{Item}
use Rattle.item_files.specs.ItemFiles.{file_items}
use Rattle.item_files.specs.declared.form.ItemForm.{ItemForm}
use Rattle.item_files.specs.declared.bad_line.BadLine.{BadLine}
use Rattle.item_files.specs.declared.fault.SettingsFault.TheVariants as settings
use Rattle.item_files.specs.declared.load_fault.LoadFault.{LoadFault}
use Rattle.item_files.specs.declared.load_fault.LoadFault.TheVariants.{CannotRead, TooLong, BadItemLine, TooManyItems}
use Rattle.item_files.specs.declared.load_fault.LoadFault.TheVariants.{Memory}
use Rattle.item_files.specs.PieceTexts.{feeds, later_line, IsPieceFault}
use Rattle.item_files.proofs.Cuts.{then_lines, moved, cut}

-- a fault that is a bad line is not for memory
pub bad_is : (form : ItemForm) (p : List ℕ) (bad : BadLine)
    → ((settings.BadItemLine bad ≡ settings.Memory → ⊥) →
    (b : BadLine) × (settings.BadItemLine bad ≡ settings.BadItemLine b) × (file_items form p ≡ Err b)) →
    file_items form p ≡ Err bad
bad_is form p bad told =
    let (b, same, gives) = told (λ is. cc) in
    let back : b ≡ bad = cc in
    gives ∙ ap Err back

-- a bad line of the first piece has its number in the whole text
pub first_bad : (form : ItemForm) (p : List ℕ) (bad : BadLine) → IsPieceFault form p 0 (BadItemLine bad) →
    file_items form p ≡ Err bad
first_bad form p bad (b, is, same) =
    let none : b.number + 0 ≡ b.number = omega arith in
    is ∙ ap Err (sym (same ∙ (λ i. record { number = none i; front = b.front; flaw = b.flaw })))

later_twice : (b : BadLine) (k j : ℕ) → later_line (k + j) b ≡ later_line k (later_line j b)
later_twice b k j =
    let same : b.number + (k + j) ≡ (b.number + j) + k = omega arith in
    λ i. record { number = same i; front = b.front; flaw = b.flaw }

module _ (form : ItemForm) (text p back q : List ℕ) (k j : ℕ) (starts : back ≡ 10 ∷ q) (whole : text ≡ p ++ 10 ∷ q)
    (count : j ≡ k + feeds p) where
  gives : file_items form text
      ≡ then_lines (file_items form p) (moved (feeds p) (file_items form (10 ∷ q)))
  gives = ap (file_items form) whole ∙ cut form p q

  pub front_stops : (e : LoadFault) → IsPieceFault form p k e → IsPieceFault form text k e
  front_stops (BadItemLine bad) (b, is, same) =
      (b, gives ∙ ap (λ r. then_lines r (moved (feeds p) (file_items form (10 ∷ q)))) is, same)
  front_stops Memory is = tt
  front_stops (CannotRead f) is = absurd is
  front_stops TooLong is = absurd is
  front_stops (TooManyItems s) is = absurd is

  pub back_stops : (xs : List Item) (e : LoadFault) → file_items form p ≡ Ok xs → IsPieceFault form back j e →
      IsPieceFault form text k e
  back_stops xs (BadItemLine bad) first (b, is, same) = (
    later_line (feeds p) b,
    gives ∙ ap (λ r. then_lines r (moved (feeds p) (file_items form (10 ∷ q)))) first
        ∙ ap (λ r. then_lines (Ok xs) (moved (feeds p) r)) (ap (file_items form) (sym starts) ∙ is),
    same ∙ ap (λ n. later_line n b) count ∙ later_twice b k (feeds p),
  )
  back_stops xs Memory first is = tt
  back_stops xs (CannotRead f) first is = absurd is
  back_stops xs TooLong first is = absurd is
  back_stops xs (TooManyItems s) first is = absurd is

  pub both_read : (xs ys zs : List Item) → file_items form p ≡ Ok xs → file_items form back ≡ Ok ys → zs ≡ xs ++ ys →
      file_items form text ≡ Ok zs
  both_read xs ys zs first second all =
      gives ∙ ap (λ r. then_lines r (moved (feeds p) (file_items form (10 ∷ q)))) first
      ∙ ap (λ r. then_lines (Ok xs) (moved (feeds p) r)) (ap (file_items form) (sym starts) ∙ second)
      ∙ ap Ok (sym all)
