-- How lines come to be kept in a file.
-- A text that was made and told is told (`told_line`). One item more is told after the others (`kept_next`). Lines
-- that were told, then written, then synced are stored (`stored`): each step keeps what was told, the write ends with
-- all of it on the device, and the sync saves that.
use Rattle.std.proofs.Common.{◌≡◌, ℕ, suc, ◌+◌, ◌<◌, Bool, true, List, [], ◌∷◌, ◌++◌, length, take, get_or, Option}
use Rattle.std.proofs.Common.{arith}
use Rattle.std.proofs.Common.{sym, ap, subst, ◌∙◌, append_assoc, append-nil, flat_map, Result, Ok, Err, false}
use Rattle.std.specs.Prelude.{OnOk, IfOk, IfErr, IsErr, is_err}
use Rattle.std.proofs.lemmas.Grind.{flat_map-append}
use Rattle.std.proofs.Math.Seq.{take-suc}
use Rattle.definitions.specs.Items.{Item}
use Rattle.item_files.specs.declared.form.ItemForm.{ItemForm}
use Rattle.io_core.specs.Devices.{Holds}
use Rattle.io_core.specs.Keeping.{Kept, IsKept}
use Rattle.printing_core.specs.ItemTexts.{item_line}
use Rattle.loading.specs.Rewriting.{lines_of}
use Rattle.server.specs.Keeping.{IsStored}

-- what was told of the first file, and these lines, are told of the second
abbrev pub Tells : {D : Type 0} → (D → Option (List ℕ)) → List ℕ → Kept D → Kept D → Type 0
Tells held lines f g = (base told : List ℕ) → IsKept held base told f → IsKept held base (told ++ lines) g

abbrev pub Keeps : {D : Type 0} → (D → Option (List ℕ)) → Kept D → Kept D → Type 0
Keeps held f g = (base told : List ℕ) → IsKept held base told f → IsKept held base told g

pub tells_none : {D : Type 0} (held : D → Option (List ℕ)) (f : Kept D) → Tells held [] f f
tells_none held f base told kept = subst (λ (l : List ℕ). IsKept held base l f) (sym (append-nil told)) kept

lines_next : (form : ItemForm) (xs : List Item) (n : ℕ) (x : Item) → n < length xs → x ≡ get_or xs n x →
    lines_of form (take (n + 1) xs) ≡ lines_of form (take n xs) ++ item_line form x
lines_next form xs n x within is =
    let next : n + 1 ≡ suc n = omega arith in
    let front : take (n + 1) xs ≡ take n xs ++ x ∷ [] =
    ap (λ (k : ℕ). take k xs) next ∙ take-suc xs n x within ∙ ap (λ (y : Item). take n xs ++ y ∷ []) (sym is) in
    ap (lines_of form) front ∙ flat_map-append (item_line form) (take n xs) (x ∷ [])
    ∙ ap (λ (l : List ℕ). lines_of form (take n xs) ++ l) (append-nil (item_line form x))

pub tells_next : {D : Type 0} (held : D → Option (List ℕ)) (form : ItemForm) (xs : List Item) (n : ℕ) (x : Item)
    (f g h : Kept D) → n < length xs → x ≡ get_or xs n x → Tells held (lines_of form (take n xs)) f g →
    Tells held (item_line form x) g h → Tells held (lines_of form (take (n + 1) xs)) f h
tells_next held form xs n x f g h within is first later base told kept =
    subst (λ (l : List ℕ). IsKept held base l h)
    (append_assoc told (lines_of form (take n xs)) (item_line form x)
    ∙ ap (λ (l : List ℕ). told ++ l) (sym (lines_next form xs n x within is)))
    (later base (told ++ lines_of form (take n xs)) (first base told kept))

pub stored : {D : Type 0} (held saved : D → Option (List ℕ)) (durable : Bool) (lines : List ℕ) (f g h k : Kept D) →
    Tells held lines f g → Keeps held g h →
    ((base told : List ℕ) → IsKept held base told g → Holds (held h.device) (base ++ told)) → Keeps held h k →
    held k.device ≡ held h.device → (durable ≡ true → saved k.device ≡ held k.device) →
    IsStored held saved durable lines f k
stored held saved durable lines f g h k tells writes whole syncs same safe = record {
  told = λ base told kept. syncs base (told ++ lines) (writes base (told ++ lines) (tells base told kept));
  written = λ base told kept. subst (λ (b : Option (List ℕ)). Holds b (base ++ (told ++ lines))) (sym same)
      (whole base (told ++ lines) (tells base told kept));
  synced = safe;
}

pub told_line : {D T E F : Type 0} (held : D → Option (List ℕ)) (bytes : T → List ℕ) (line : List ℕ)
    (text : Result T E) (result : Result Unit F) (f g : Kept D) →
    OnOk result (IfOk text (λ t. Tells held (bytes t) f g)) → IfErr text (λ _. IsErr result) →
    IfOk text (λ t. bytes t ≡ line) → is_err result ≡ false → Tells held line f g
told_line held bytes line (Ok t) (Ok u) f g tells read is fine = subst (λ (l : List ℕ). Tells held l f g) is tells
told_line held bytes line (Ok t) (Err e) f g tells read is fine = absurd cc
told_line held bytes line (Err e) (Ok u) f g tells read is fine = absurd cc
told_line held bytes line (Err e) (Err d) f g tells read is fine = absurd cc
