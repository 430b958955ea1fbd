-- What is known of a text whose pieces were read so far.
use Rattle.std.proofs.Common.{get_or, take, drop, true, ◌==◌, ◌<◌, length, subst}
use Rattle.std.proofs.lemmas.Bool.{eqb-true}
use Rattle.std.proofs.lemmas.List.{drop_more, take-append-drop}
use Rattle.std.proofs.Common.{ℕ, ◌≡◌, ◌+◌, Bool, List, [], ◌∷◌, ◌++◌, sym, refl, ap, ◌∙◌, append_assoc, append-nil}
use Rattle.std.proofs.Common.{arith}
use Rattle.std.specs.Prelude.{Result, Ok, Err, Vec}
use Rattle.std.specs.declared.alloc.Global.{Global}
use Rattle.definitions.specs.Items.{Item}
use Rattle.shard_core.specs.Spans.{Holds}
use Rattle.item_files.specs.ItemFiles.{file_items}
use Rattle.item_files.specs.declared.form.ItemForm.{ItemForm}
use Rattle.item_files.specs.declared.bad_line.BadLine.{BadLine}
use Rattle.item_files.specs.declared.options.LoadOptions.{LoadOptions}
use Rattle.item_files.specs.declared.load_fault.LoadFault.{LoadFault}
use Rattle.item_files.specs.declared.load_fault.LoadFault.TheVariants.{CannotRead, TooLong, BadItemLine, TooManyItems}
use Rattle.item_files.specs.declared.load_fault.LoadFault.TheVariants.{Memory}
use Rattle.item_files.specs.PieceTexts.{feeds, later_line, joined, Deals, IsDealt, IsLast, IsPieceFault}
use Rattle.item_files.specs.PieceTexts.{IsStopped, IsLastFault}
use Rattle.item_files.proofs.Cuts.{then_lines, moved, cut, joined_twice}

abbrev Lists : Type 0
Lists = List (Vec Item Global)

module _ (o : LoadOptions) (read waiting : List ℕ) (k : ℕ) (lists : Lists)
    (so_far : IsDealt o read waiting k lists) where
  -- bytes that wait
  pub read_on : (more : List ℕ) → IsDealt o (read ++ more) (waiting ++ more) k lists
  read_on more = record {
    items = so_far.items;
    goes_on = λ later. ap (file_items o.form) (append_assoc read more later) ∙ so_far.goes_on (more ++ later)
        ∙ ap (λ t. joined so_far.items k (file_items o.form t)) (sym (append_assoc waiting more later));
    lists = so_far.lists;
  }

  -- what waits is a piece: a line feed comes after it
  pub piece_done : (xs : List Item) (new : Lists) (q : List ℕ) → file_items o.form waiting ≡ Ok xs →
      Deals o lists new xs → IsDealt o (read ++ 10 ∷ q) (10 ∷ q) (k + feeds waiting) new
  piece_done xs new q is deals = record {
    items = so_far.items ++ xs;
    goes_on = λ later. ap (file_items o.form) (append_assoc read (10 ∷ q) later) ∙ so_far.goes_on (10 ∷ (q ++ later))
        ∙ ap (joined so_far.items k) (cut o.form waiting (q ++ later)
        ∙ ap (λ r. then_lines r (moved (feeds waiting) (file_items o.form (10 ∷ (q ++ later))))) is)
        ∙ joined_twice so_far.items xs k (feeds waiting) (file_items o.form (10 ∷ (q ++ later)));
    lists = deals so_far.items so_far.lists;
  }

  pub piece_bad : (bad : BadLine) (q later : List ℕ) → file_items o.form waiting ≡ Err bad →
      file_items o.form ((read ++ 10 ∷ q) ++ later) ≡ Err (later_line k bad)
  piece_bad bad q later is =
      ap (file_items o.form) (append_assoc read (10 ∷ q) later) ∙ so_far.goes_on (10 ∷ (q ++ later))
      ∙ ap (joined so_far.items k) (cut o.form waiting (q ++ later)
      ∙ ap (λ r. then_lines r (moved (feeds waiting) (file_items o.form (10 ∷ (q ++ later))))) is)

  -- nothing comes after it
  at_end : (r : Result (List Item) BadLine) → file_items o.form waiting ≡ r →
      file_items o.form read ≡ joined so_far.items k r
  at_end r is = ap (file_items o.form) (sym (append-nil read)) ∙ so_far.goes_on []
      ∙ ap (λ t. joined so_far.items k (file_items o.form t)) (append-nil waiting) ∙ ap (joined so_far.items k) is

  pub last_done : (xs : List Item) (new : Lists) → file_items o.form waiting ≡ Ok xs → Deals o lists new xs →
      IsLast o read new
  last_done xs new is deals = record {
    items = so_far.items ++ xs;
    lines = at_end (Ok xs) is;
    lists = deals so_far.items so_far.lists;
  }

  pub last_bad : (bad : BadLine) → file_items o.form waiting ≡ Err bad → file_items o.form read ≡ Err (later_line k bad)
  last_bad bad is = at_end (Err bad) is

  pub last_stop : (e : LoadFault) → IsPieceFault o.form waiting k e → IsLastFault o.form read e
  last_stop (BadItemLine bad) (b0, is, same) = last_bad b0 is ∙ ap Err (sym same)
  last_stop Memory is = tt
  last_stop (CannotRead f) is = absurd is
  last_stop TooLong is = absurd is
  last_stop (TooManyItems s) is = absurd is

-- ---- bytes with a line feed

pub front_is : (bytes front back : List ℕ) (end : ℕ) → end < length bytes → (get_or bytes end 0 == 10) ≡ true →
    front ≡ take end bytes → back ≡ drop end bytes →
    (back ≡ 10 ∷ drop (end + 1) bytes) × (bytes ≡ front ++ 10 ∷ drop (end + 1) bytes)
front_is bytes front back end inside at front_at back_at =
    let feed : get_or bytes end 0 ≡ 10 = eqb-true (get_or bytes end 0) 10 at in
    let rest : drop end bytes ≡ 10 ∷ drop (end + 1) bytes =
    drop_more bytes end 0 inside ∙ ap (λ x. x ∷ drop (end + 1) bytes) feed in
    (back_at ∙ rest, sym (take-append-drop end bytes) ∙ (λ j. sym front_at j ++ rest j))

module _ (o : LoadOptions) (read waiting : List ℕ) (k : ℕ) (lists : Lists)
    (so_far : IsDealt o read waiting k lists) (bytes front q : List ℕ) (cut_is : bytes ≡ front ++ 10 ∷ q)
    (p : List ℕ) (p_is : p ≡ waiting ++ front) where
  whole : (read ++ front) ++ 10 ∷ q ≡ read ++ bytes
  whole = append_assoc read front (10 ∷ q) ∙ ap (λ t. read ++ t) (sym cut_is)

  pub add_done : (xs : List Item) (new : Lists) (j : ℕ) (w : List ℕ) → file_items o.form p ≡ Ok xs →
      Deals o lists new xs → j ≡ k + feeds p → w ≡ 10 ∷ q → IsDealt o (read ++ bytes) w j new
  add_done xs new j w is deals j_is w_is =
      let done : IsDealt o ((read ++ front) ++ 10 ∷ q) (10 ∷ q) (k + feeds (waiting ++ front)) new =
      piece_done o (read ++ front) (waiting ++ front) k lists
      (read_on o read waiting k lists so_far front) xs new q (ap (file_items o.form) (sym p_is) ∙ is) deals in
      subst (λ r. IsDealt o r w j new) whole
      (subst (λ v. IsDealt o ((read ++ front) ++ 10 ∷ q) v j new) (sym w_is)
      (subst (λ n. IsDealt o ((read ++ front) ++ 10 ∷ q) (10 ∷ q) n new) (sym (j_is ∙ ap (λ t. k + feeds t) p_is))
      done))

  pub add_stop : (e : LoadFault) → IsPieceFault o.form p k e → IsStopped o.form (read ++ bytes) e
  add_stop (BadItemLine bad) (b0, is, same) = λ later.
      ap (λ r. file_items o.form (r ++ later)) (sym whole)
      ∙ piece_bad o (read ++ front) (waiting ++ front) k lists
      (read_on o read waiting k lists so_far front) b0 q later (ap (file_items o.form) (sym p_is) ∙ is)
      ∙ ap Err (sym same)
  add_stop Memory is = tt
  add_stop (CannotRead f) is = absurd is
  add_stop TooLong is = absurd is
  add_stop (TooManyItems s) is = absurd is

-- ---- before anything was read

joined_none : (r : Result (List Item) BadLine) → r ≡ joined [] 0 r
joined_none (Ok ys) = refl
joined_none (Err bad) =
    let same : bad.number ≡ bad.number + 0 = omega arith in
    λ i. Err (record { number = same i; front = bad.front; flaw = bad.flaw })

pub nothing_read : (o : LoadOptions) (waiting : List ℕ) (k : ℕ) (lists : Lists) → waiting ≡ [] → k ≡ 0 →
    Holds o.bits o.first o.last lists [] → IsDealt o [] waiting k lists
nothing_read o waiting k lists none zero is = record {
  items = [];
  goes_on = λ later. joined_none (file_items o.form later)
      ∙ (λ i. joined [] (sym zero i) (file_items o.form (sym none i ++ later)));
  lists = is;
}
