use Rattle.std.proofs.Common.{rules, refl, sym, subst, ap, ◌≡◌, ◌∙◌, arith, ◌+◌, ◌++◌, ◌∷◌, [], cond, drop, length}
use Rattle.std.proofs.Common.{List, ℕ, Err}
use Rattle.std.specs.Prelude.{IfErr}
use Rattle.shard_core.specs.Choices.{told, has_shard, found_list, holders_from, holders, IsUnheld}
use Rattle.shard_core.proofs.Holders.{holders_more, two_found}
use Rattle.shard_core.proofs.choice.holder.Goals as goal

pub loop-server-preserved : goal.loop-server-preserved
loop-server-preserved c = record {
  so_far = holders_more c.args.directories.now c.loop-server.server c.args.shard c.index-directories-server.result
      c.has_shard-has_it.result (found_list c.loop-server.found) (found_list c.in_ok-found.found)
      (omega arith) c.index-directories-server.is
      (c.has_shard-has_it.ensures ∙ ap (λ us. has_shard us c.args.shard) c.deref.ensures.value)
      c.loop-server.invariant.so_far c.in_ok-found.ensures.one;
  within = c.in_ok-found.ensures.place (length c.args.directories.now) (omega arith)
      c.loop-server.invariant.within;
}

pub returns-in_err-found-clause-none : goal.returns-in_err-found-clause-none
returns-in_err-found-clause-none c =
    let is : c.from_residual.result ≡ Err c.in_err-found.field-0.0 = search rules in
    let both : List ℕ = found_list c.loop-server.found
    ++ cond c.has_shard-has_it.result (c.loop-server.server ∷ []) [] in
    let all = holders_more c.args.directories.now c.loop-server.server c.args.shard c.index-directories-server.result
    c.has_shard-has_it.result (found_list c.loop-server.found) both (omega arith) c.index-directories-server.is
    (c.has_shard-has_it.ensures ∙ ap (λ us. has_shard us c.args.shard) c.deref.ensures.value)
    c.loop-server.invariant.so_far refl in
    subst (λ r. IfErr r (λ e. IsUnheld (told c.args.directories.now) c.args.shard e)) (sym is)
    (subst (λ e. IsUnheld (told c.args.directories.now) c.args.shard e) (sym c.in_err-found.ensures.two.0) (
      refl,
      two_found both (holders_from (c.loop-server.server + 1) (drop (c.loop-server.server + 1)
          (told c.args.directories.now)) c.args.shard) (holders (told c.args.directories.now) c.args.shard)
          c.in_err-found.ensures.two.1 all,
    ))
