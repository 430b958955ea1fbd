-- When a session is told that its input is over: by one call, and by one after another. A session that is told so goes
-- no further, so nothing more is read of its peer, and what the last read did stays.
use Rattle.std.proofs.Common.{◌≡◌, ◌∙◌, true, false, ◌⊎◌, inl, inr, sym}
use Rattle.session_core.specs.Overs.{EndsBy, Rests}
use Rattle.session_core.specs.Sessions.{SessionState, is_open}
use Rattle.session_core.specs.declared.polled.Last.{Last}
use Rattle.session_core.specs.declared.polled.Last.TheVariants as lasts

pub ends-both : {F : Type 0} (c d e : SessionState F) (mid last : Last) → EndsBy c d mid → EndsBy d e last →
    Rests d e mid last → EndsBy c e last
ends-both c d e mid last first second rests = λ is. elim (second is) [
  | inr here ↦ inr here
  | inl before ↦ elim (first before) [
    | inl start ↦ inl start
    | inr end ↦ let on = rests end.1 in inr (on.2 ∙ end.0, on.1)
  ]
]

pub rests-both : {F : Type 0} (c d e : SessionState F) (before mid last : Last) → Rests c d before mid →
    Rests d e mid last → Rests c e before last
rests-both c d e before mid last first second = λ closed.
    let one = first closed in
    let two = second one.1 in
    (two.0 ∙ one.0, two.1, two.2 ∙ one.2)

-- a call that leaves both as they are
pub ends-same : {F : Type 0} (c d : SessionState F) (last : Last) → d.over ≡ c.over → EndsBy c d last
ends-same c d last same = λ is. inl (sym same ∙ is)
