-- Which messages were taken whole, of all that a side says.
--     IsTold W Ms at                 the text up to the end of these has so many bytes at most
--     IsCut W whole left at          the first message after those ends further on
--     IsWritten W said taken n       just the first n messages end within the bytes taken
--     IsLaid W said at o             where each message is, once so many bytes were taken: taken whole, made or later
use Rattle.std.specs.Prelude.{◌≡◌, ℕ, ◌+◌, ◌<◌, ◌≤◌, ◌⊎◌, List, [], ◌∷◌, ◌++◌, length, map, ⊤}
use Rattle.definitions.specs.Messages.{Message}
use Rattle.definitions.specs.Wire.{Profile, session_text}
use Rattle.session_core.specs.Outboxes.{OutboxState, ends_from}

module _ {F : Type 0} (W : Profile F) where
  -- where there is none, the hello may be cut
  abbrev pub IsTold : List (Message F) → ℕ → Type 0
  IsTold [] at = ⊤
  IsTold (M ∷ Ms) at = length (session_text W (M ∷ Ms)) ≤ at

  abbrev pub IsCut : List (Message F) → List (Message F) → ℕ → Type 0
  IsCut whole [] at = ⊤
  IsCut whole (M ∷ left) at = at < length (session_text W (whole ++ M ∷ []))

  pub record IsWritten (said : List (Message F)) (taken : List ℕ) (n : ℕ) : Type 0 where
    pub whole : List (Message F)
    pub left : List (Message F)
    pub split : said ≡ whole ++ left
    pub count : length whole ≡ n
    pub within : IsTold whole (length taken)
    pub cut : IsCut whole left (length taken)

  pub record IsLaid (said : List (Message F)) (at : ℕ) (o : OutboxState F) : Type 0 where
    pub whole : List (Message F)
    -- their text is made and not taken whole
    pub made : List (Message F)
    pub split : said ≡ (whole ++ made) ++ o.later
    pub within : IsTold whole at
    pub ends : map (λ e. at + e) o.ends ≡ ends_from W (length (session_text W whole)) made
    pub cut : IsCut whole made at
    -- and where the first of the others will begin
    pub placed : (o.later ≡ []) ⊎ (at + length o.ready ≡ length (session_text W (whole ++ made)))
