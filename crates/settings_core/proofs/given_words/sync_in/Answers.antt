-- Where the number of bytes is none that fits, no command is asked for: each that is asked for has one.
use Rattle.std.proofs.Common.{rules, ◌≡◌, ℕ, List, Some, None, false, refl, sym, subst}
use Rattle.std.proofs.lemmas.Slice.Eq.{bytes_eq-Decides}
use Rattle.std.specs.Prelude.{bytes_eq, codes}
use Rattle.clap.specs.Words.{Row, found_of, rows_of}
use Rattle.settings_core.specs.Calls.{AsksFor, Finds, IsNumber}
use Rattle.settings_core.specs.Spans.{IsWithin}
use Rattle.settings_core.specs.declared.commands.Command.{Command}
use Rattle.settings_core.specs.declared.commands.Command.TheVariants as commands
use Rattle.settings_core.proofs.given_words.sync_in.Goals as goal

apart : (a b : List ℕ) → bytes_eq a b ≡ false → a ≡ b → ⊥
apart a b differ same = let equal = (bytes_eq-Decides a b).1 same in cc

never : (rows : List Row) → ((n : ℕ) → IsNumber (codes "most-bytes") rows (Some n) × IsWithin 1024 4294967295 n → ⊥)
    → (x : Command) → AsksFor (codes "sync") rows x → ⊥
never rows missing (commands.Answer w) asks = apart (codes "answer") (codes "sync") refl asks.0
never rows missing (commands.Check w) asks = apart (codes "check") (codes "sync") refl asks.0
never rows missing (commands.Plan w) asks = apart (codes "plan") (codes "sync") refl asks.0
never rows missing commands.Sim asks = apart (codes "sim") (codes "sync") refl asks.0
never rows missing (commands.Serve w) asks = apart (codes "serve") (codes "sync") refl asks.0
never rows missing (commands.Sync w) asks = missing w.most_bytes (asks.1.14, asks.2.3)
never rows missing (commands.Put w) asks = apart (codes "put") (codes "sync") refl asks.0
never rows missing (commands.News w) asks = apart (codes "news") (codes "sync") refl asks.0
never rows missing (commands.Stop w) asks = apart (codes "stop") (codes "sync") refl asks.0
never rows missing (commands.Status w) asks = apart (codes "status") (codes "sync") refl asks.0

pub returns-in_err-default_in-2 : goal.returns-in_err-default_in-2
returns-in_err-default_in-2 c =
    let none : c.from_residual-in_err-default_in-2.result ≡ None = search rules in
    let rows : List Row = rows_of (found_of c.args.matches.now) in
    subst (λ r. Finds (AsksFor (codes "sync") rows) r) (sym none) (never rows c.in_err-default_in-2.ensures)
