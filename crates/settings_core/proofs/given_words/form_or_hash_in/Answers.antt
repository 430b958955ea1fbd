use Rattle.settings_core.proofs.given_words.form_or_hash_in.Goals as goal

pub returns-else-flag_in : goal.returns-else-flag_in
returns-else-flag_in c = (
  (λ is. absurd (cc (c.flag_in.ensures.0 is, c.if-flag_in.false)), λ is. c.form_in.ensures.whole),
  λ is. c.form_in.ensures.text,
)
