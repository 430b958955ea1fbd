-- What the other side is told of which set a command speaks.
--     letter form         the byte that says how items stand
--     name_in command     the name that a command is given, if it is given one, and the form of its items
--     name_told command   this name, and one byte more for the form; no bytes without a name
use Rattle.std.specs.Prelude.{ℕ, List, [], ◌∷◌, ◌++◌, Option, Some, None, option_map}
use Rattle.item_files.specs.declared.form.ItemForm.{ItemForm}
use Rattle.item_files.specs.declared.form.ItemForm.TheVariants as forms
use Rattle.settings_core.specs.declared.commands.Command.{Command}
use Rattle.settings_core.specs.declared.commands.Command.TheVariants as commands

-- h, t, s
abbrev pub letter : ItemForm → ℕ
letter forms.Hex = 104
letter forms.Text = 116
letter forms.Hash = 115

abbrev pub with_form : ItemForm → Option (List ℕ) → Option (List ℕ × ItemForm)
with_form form None = None
with_form form (Some name) = Some (name, form)

abbrev pub name_in : Command → Option (List ℕ × ItemForm)
name_in (commands.Serve words) = with_form words.form (option_map (λ text. text.now) words.set)
name_in (commands.Sync words) = with_form words.form (option_map (λ text. text.now) words.set)
name_in command = None

abbrev pub told_as : Option (List ℕ × ItemForm) → List ℕ
told_as None = []
told_as (Some (name, form)) = name ++ letter form ∷ []

abbrev pub name_told : Command → List ℕ
name_told command = told_as (name_in command)
