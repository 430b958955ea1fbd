use Rattle.std.proofs.Common.{◌≡◌, List, ℕ, Ok, Err, string_bytes, subst, sym, rules}
use Rattle.loading.specs.Folders.{Lifts, Replaces}
use Rattle.loading.specs.Rewriting.{IsShorter, Rewrites}
use Rattle.loading.proofs.Rewritten.{all_done, all_undone}
use Rattle.loading.proofs.rewriting.rewrite.Goals as goal

pub returns-in-Ok-Some : goal.returns-in-Ok-Some
returns-in-Ok-Some g c =
    let lines = string_bytes c.in-Ok-Some.lines in
    let read : IsShorter c.args.form c.args.floor.now c.deref.result.now lines
    = rw c.in-Ok-Some.field-0-is at c.in-Ok-Some.ensures in
    let short : IsShorter c.args.form c.args.floor.now c.in-Ok.text.items lines
    = subst (λ (l : List ℕ). IsShorter c.args.form c.args.floor.now l lines) c.deref.ensures.value read in
    all_done c.args.form c.args.floor.now c.in-Ok.text.items lines (g.F.Folder.state c.args.folder.now)
    (g.F.Folder.state c.read.new.self) (g.F.Folder.state c.replace.new.folder) c.in-Ok.ensures.bytes
    c.in-Ok.ensures.step short
    (subst (λ (l : List ℕ). Lifts (λ p q. Replaces l p q (Ok tt)) (g.F.Folder.state c.read.new.self)
    (g.F.Folder.state c.replace.new.folder)) c.as_bytes.ensures.value c.in_ok-replace-in-Ok-Some.ensures)

pub returns-in_err-replace-in-Ok-Some : goal.returns-in_err-replace-in-Ok-Some
returns-in_err-replace-in-Ok-Some g c =
    let lines = string_bytes c.in-Ok-Some.lines in
    let fault = c.in_err-replace-in-Ok-Some.field-0.0 in
    let read : IsShorter c.args.form c.args.floor.now c.deref.result.now lines
    = rw c.in-Ok-Some.field-0-is at c.in-Ok-Some.ensures in
    let short : IsShorter c.args.form c.args.floor.now c.in-Ok.text.items lines
    = subst (λ (l : List ℕ). IsShorter c.args.form c.args.floor.now l lines) c.deref.ensures.value read in
    let is : c.from_residual.result ≡ Err fault = search rules in
    subst (λ r. Lifts (λ p q. Rewrites c.args.form c.args.floor.now p q r) (g.F.Folder.state c.args.folder.now)
    (g.F.Folder.state c.replace.new.folder)) (sym is)
    (all_undone c.args.form c.args.floor.now c.in-Ok.text.items lines fault (g.F.Folder.state c.args.folder.now)
    (g.F.Folder.state c.read.new.self) (g.F.Folder.state c.replace.new.folder) c.in-Ok.ensures.bytes
    c.in-Ok.ensures.step short
    (subst (λ (l : List ℕ). Lifts (λ p q. Replaces l p q (Err fault)) (g.F.Folder.state c.read.new.self)
    (g.F.Folder.state c.replace.new.folder)) c.as_bytes.ensures.value c.in_err-replace-in-Ok-Some.ensures))
