-- What is known of a reader's bytes as they are read.
use Rattle.std.proofs.Common.{ℕ, ◌≡◌, ◌+◌, ◌≤◌, ◌<◌, Bool, List, [], ◌∷◌, ◌++◌, length, arith, sym, ap, ◌∙◌, subst}
use Rattle.std.proofs.Common.{inl, inr}
use Rattle.std.proofs.Common.{Option, refl}
use Rattle.std.specs.Prelude.{Vec, IsTrue}
use Rattle.std.specs.declared.alloc.Global.{Global}
use Rattle.std.specs.Io.KnownBytes.{Consumes, IsAtEnd}
use Rattle.std.proofs.lemmas.List.{length-append}
use Rattle.io_core.proofs.Streams.{consumes_nothing, consumes_more}
use Rattle.definitions.specs.Items.{Item}
use Rattle.definitions.specs.Sets.{set_of}
use Rattle.shard_core.specs.Shards.{shards}
use Rattle.shard_core.specs.Splits.{held, IsFull, IsAbove}
use Rattle.shard_core.specs.declared.fault.SplitFault.{SplitFault}
use Rattle.shard_core.specs.declared.fault.SplitFault.TheVariants as splits
use Rattle.item_files.specs.declared.options.LoadOptions.{LoadOptions}
use Rattle.item_files.specs.declared.dealing.Dealing.{Dealing}
use Rattle.item_files.specs.declared.load_fault.LoadFault.{LoadFault}
use Rattle.item_files.specs.declared.load_fault.LoadFault.TheVariants.{CannotRead, TooLong, BadItemLine, TooManyItems}
use Rattle.item_files.specs.declared.load_fault.LoadFault.TheVariants.{Memory}
use Rattle.item_files.specs.PieceTexts.{most_bytes, kept_by, IsDealt, IsStopped, IsLast, IsLastFault, of_split}
use Rattle.item_files.specs.Loads.{loaded_of, IsReading, IsLoaded, IsUnloaded, AreLists, IsFailed}

pub begun : (o : LoadOptions) (unread : Option (List ℕ)) (d : Dealing) → d.taken ≡ 0 →
    IsDealt o [] d.waiting.items d.feeds d.lists.items → IsReading o unread unread d
begun o unread d none dealt =
    record { read = []; consumed = consumes_nothing unread; count = none; dealt = dealt }

pub failed_is : (o : LoadOptions) (unread left : Option (List ℕ)) (failed : Bool) (e : LoadFault) → IsFailed failed e →
    IsUnloaded o unread left failed e
failed_is o unread left failed (CannotRead f) is = is
failed_is o unread left failed TooLong is = absurd is
failed_is o unread left failed (BadItemLine bad) is = absurd is
failed_is o unread left failed (TooManyItems s) is = absurd is
failed_is o unread left failed Memory is = absurd is

pub memory_is : (o : LoadOptions) (unread left : Option (List ℕ)) (failed : Bool) (e : LoadFault) → e ≡ Memory →
    IsUnloaded o unread left failed e
memory_is o unread left failed e is = subst (λ f. IsUnloaded o unread left failed f) (sym is) tt

module _ (o : LoadOptions) (unread left : Option (List ℕ)) (d : Dealing) (so_far : IsReading o unread left d) where
  -- more comes
  module _ (next : Option (List ℕ)) (more : List ℕ) (reads : Consumes left next more) where
    all : Consumes unread next (so_far.read ++ more)
    all = consumes_more unread left next so_far.read more so_far.consumed reads

    pub took_more : (new : Dealing) → new.taken ≡ d.taken + length more →
        IsDealt o (so_far.read ++ more) new.waiting.items new.feeds new.lists.items →
        IsReading o unread next new
    took_more new count dealt = record {
      read = so_far.read ++ more;
      consumed = all;
      count = count ∙ ap (λ n. n + length more) so_far.count ∙ sym (length-append so_far.read more);
      dealt = dealt;
    }

    pub too_long : (failed : Bool) → most_bytes o.bits < d.taken + length more → IsUnloaded o unread next failed TooLong
    too_long failed long = (
      so_far.read ++ more,
      all,
      (let count = so_far.count in omega (arith, length-append so_far.read more)),
    )

    pub stopped : (failed : Bool) (e : LoadFault) → IsStopped o.form (so_far.read ++ more) e →
        IsUnloaded o unread next failed e
    stopped failed (BadItemLine bad) is = (so_far.read ++ more, all, inr is)
    stopped failed Memory is = tt
    stopped failed (CannotRead f) is = absurd is
    stopped failed TooLong is = absurd is
    stopped failed (TooManyItems s) is = absurd is

  -- nothing comes
  module _ (end : IsAtEnd left) where
    pub last : (lists : List (Vec Item Global)) → d.taken ≤ most_bytes o.bits → IsLast o so_far.read lists →
        AreLists o unread left lists
    last lists short is = record {
      items = is.items;
      text = record {
        text = so_far.read;
        read = so_far.consumed;
        whole = end;
        short = subst (λ n. n ≤ most_bytes o.bits) so_far.count short;
        lines = is.lines;
      };
      lists = is.lists;
    }

    pub last_fault : (failed : Bool) (e : LoadFault) → IsLastFault o.form so_far.read e →
        IsUnloaded o unread left failed e
    last_fault failed (BadItemLine bad) is = (so_far.read, so_far.consumed, inl (end, is))
    last_fault failed Memory is = tt
    last_fault failed (CannotRead f) is = absurd is
    last_fault failed TooLong is = absurd is
    last_fault failed (TooManyItems s) is = absurd is

-- ---- sets

module _ (o : LoadOptions) (unread left : Option (List ℕ)) (lists : List (Vec Item Global))
    (are : AreLists o unread left lists) where
  pub loaded : (Xs : List (List Item)) → Xs ≡ loaded_of o (set_of are.items) → IsLoaded o unread left Xs
  loaded Xs is = (are.items, are.text, is)

  pub full : (failed : Bool) (e : SplitFault) → IsFull o.cap (shards o.bits (kept_by o (set_of are.items))) e →
      IsUnloaded o unread left failed (of_split e)
  full failed (splits.TooManyItems s) is = (are.items, are.text, is)
  full failed splits.Memory is = tt
