-- A file that was replaced by the lines of what is kept was rewritten.
use Rattle.std.proofs.Common.{◌≡◌, ◌∙◌, ℕ, true, List, [], ◌∷◌, Option, Some, None, Ok, Err, sym, ap, subst}
use Rattle.std.proofs.Common.{inl, inr, ⊎_elim}
use Rattle.std.specs.Prelude.{option_map, IfSome, ◌⊎◌}
use Rattle.shard_core.specs.declared.floor.Floor.{Floor}
use Rattle.item_files.specs.declared.form.ItemForm.{ItemForm}
use Rattle.loading.specs.Folders.{FolderState, Lifts, Replaces, CouldLeave}
use Rattle.loading.specs.Rewriting.{IsShorter, Rewrites}
use Rattle.loading.specs.declared.replacing.ReplaceFault.{ReplaceFault}

module _ (form : ItemForm) (floor : Floor) where
  old_or_shorter : (old lines bytes : List ℕ) (Before : Type 0) → IsShorter form floor old lines →
      Before ⊎ (bytes ≡ lines) → Before ⊎ IsShorter form floor old bytes
  old_or_shorter old lines bytes Before short either =
      ⊎_elim (λ before. inl before) (λ is. inr (subst (IsShorter form floor old) (sym is) short)) either

  done : (p q : FolderState) (lines : List ℕ) → IsShorter form floor p.there lines → Replaces lines p q (Ok tt) →
      Rewrites form floor p q (Ok true)
  done p q lines short r = record {
    there = old_or_shorter p.there lines q.there (q.there ≡ p.there) short r.there;
    found = λ bytes left. old_or_shorter p.there lines bytes (CouldLeave p bytes) short (r.found bytes left);
    done = λ is. (
      subst (IsShorter form floor p.there) (sym r.done.0) short,
      r.done.1 ∙ ap (λ (l : List ℕ). l ∷ []) (sym r.done.0),
    );
    left = λ is. absurd cc;
    refused = tt;
  }

  undone : (p q : FolderState) (lines : List ℕ) (fault : ReplaceFault) → IsShorter form floor p.there lines →
      Replaces lines p q (Err fault) → Rewrites form floor p q (Err fault)
  undone p q lines fault short r = record {
    there = old_or_shorter p.there lines q.there (q.there ≡ p.there) short r.there;
    found = λ bytes left. old_or_shorter p.there lines bytes (CouldLeave p bytes) short (r.found bytes left);
    done = λ is. absurd cc;
    left = λ is. absurd cc;
    refused = inl r.refused;
  }

  pub all_done : (text lines : List ℕ) (a b c : Option FolderState) → IfSome a (λ p. text ≡ p.there) →
      b ≡ option_map (λ (p : FolderState). p) a → IsShorter form floor text lines →
      Lifts (λ p q. Replaces lines p q (Ok tt)) b c → Lifts (λ p q. Rewrites form floor p q (Ok true)) a c
  all_done text lines None b c there same short r = tt
  all_done text lines (Some p) b c there same short r =
      last c (subst (λ o. Lifts (λ p q. Replaces lines p q (Ok tt)) o c) same r)
    where
      last : (c : Option FolderState) → Lifts (λ p q. Replaces lines p q (Ok tt)) (Some p) c →
          Lifts (λ p q. Rewrites form floor p q (Ok true)) (Some p) c
      last None r = absurd r
      last (Some q) r = done p q lines (subst (λ (l : List ℕ). IsShorter form floor l lines) there short) r

  pub all_undone : (text lines : List ℕ) (fault : ReplaceFault) (a b c : Option FolderState) →
      IfSome a (λ p. text ≡ p.there) → b ≡ option_map (λ (p : FolderState). p) a → IsShorter form floor text lines →
      Lifts (λ p q. Replaces lines p q (Err fault)) b c → Lifts (λ p q. Rewrites form floor p q (Err fault)) a c
  all_undone text lines fault None b c there same short r = tt
  all_undone text lines fault (Some p) b c there same short r =
      last c (subst (λ o. Lifts (λ p q. Replaces lines p q (Err fault)) o c) same r)
    where
      last : (c : Option FolderState) → Lifts (λ p q. Replaces lines p q (Err fault)) (Some p) c →
          Lifts (λ p q. Rewrites form floor p q (Err fault)) (Some p) c
      last None r = absurd r
      last (Some q) r = undone p q lines fault (subst (λ (l : List ℕ). IsShorter form floor l lines) there short) r
