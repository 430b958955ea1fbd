use Rattle.std.proofs.lemmas.List.{drop-replicate}
use Rattle.item_files.proofs.bad_line.padded.Goals as goal

pub returns-clause-padded : goal.returns-clause-padded
returns-clause-padded c = rw (c.copy_from_slice.ensures.after, drop-replicate)
