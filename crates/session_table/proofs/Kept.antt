-- What holds of each table holds after a message was noted, and after a session was closed.
use Rattle.std.proofs.Common.{◌≡◌, ◌⊎◌, ℕ, ◌+◌, ◌<◌, ◌≤◌, Option, Some, None, cond, is_some, refl, ap, sym, ◌∙◌, inl}
use Rattle.std.proofs.Common.{inr, arith, true}
use Rattle.std.proofs.lemmas.Bool.{cases_eq}
use Rattle.std.proofs.lemmas.List.Sums.{sum_by-set}
use Rattle.slab.specs.Slab.{Slab, get, slab_len, with_value, Updates}
use Rattle.slab.proofs.SlabLemmas.{ContainsKey-within, Updates-with_value}
use Rattle.session_table.specs.Sessions.{LiveSession, with_one_more}
use Rattle.session_table.specs.Counts.{with_message, with_closed, closed_count}
use Rattle.session_table.specs.Tables.{IsTable}
use Rattle.session_table.specs.Views.{table_of}
use Rattle.session_table.specs.declared.totals.Totals.{Totals}
use Rattle.session_table.specs.declared.totals.CloseKind.{CloseKind}
use Rattle.session_table.specs.declared.totals.CloseKind.TheVariants.{Ended, Refused, Io, Memory}

-- a close counts one session more as closed, and none as opened
with_closed-count : (kind : CloseKind) (T : Totals) → closed_count (with_closed kind T) ≡ closed_count T + 1
with_closed-count Ended T = omega arith
with_closed-count Refused T = omega arith
with_closed-count Io T = omega arith
with_closed-count Memory T = omega arith

with_closed-opened : (kind : CloseKind) (T : Totals) → (with_closed kind T).opened ≡ T.opened
with_closed-opened Ended T = refl
with_closed-opened Refused T = refl
with_closed-opened Io T = refl
with_closed-opened Memory T = refl

with_closed-messages : (kind : CloseKind) (T : Totals) → (with_closed kind T).messages ≡ T.messages
with_closed-messages Ended T = refl
with_closed-messages Refused T = refl
with_closed-messages Io T = refl
with_closed-messages Memory T = refl

-- this session stood under the key before, but for the messages that it has sent
pub record Was (old : Slab LiveSession) (key : ℕ) (s : LiveSession) : Type 0 where
  pub session : LiveSession
  pub there : get old key ≡ Some session
  pub serial : session.serial ≡ s.serial

module _ (capacity : ℕ) (next : Option ℕ) (T : Totals) where
  there_before : (old new : Slab LiveSession) (key : ℕ) → Updates old new key None → (k : ℕ) (s : LiveSession) →
      get new k ≡ Some s → get old k ≡ Some s
  there_before old new key updates k s at = elim (cases_eq k key) [
    | inl same ↦ let none : get new k ≡ None = ap (get new) same ∙ updates.changed in cc
    | inr differs ↦ sym (updates.others k differs) ∙ at
  ]

  pub IsTable-closed : (old new : Slab LiveSession) (key : ℕ) (kind : CloseKind) →
      IsTable (table_of capacity next old T) → Updates old new key None → slab_len new + 1 ≡ slab_len old →
      IsTable (table_of capacity next new (with_closed kind T))
  IsTable-closed old new key kind t updates len =
      let opened = with_closed-opened kind T in
      let messages = with_closed-messages kind T in
      let counted = with_closed-count kind T in
      record {
        capacity = t.capacity;
        fits = omega (arith, t.fits);
        first = omega (arith, t.first);
        next = t.next;
        totals = omega (arith, t.totals);
        messages = omega (arith, t.messages);
        live = λ k s at.
            let l = t.live k s (there_before old new key updates k s at) in
            record { within = l.within; before_next = l.before_next; from_first = omega (arith, l.from_first) };
        once = λ k other s u at there same.
            t.once k other s u (there_before old new key updates k s at)
            (there_before old new key updates other u there) same;
      }

  noted_len : (old : Slab LiveSession) (key : ℕ) (s u : LiveSession) → get old key ≡ Some s →
      slab_len (with_value old key u) ≡ slab_len old
  noted_len old key s u found =
      let present : is_some (get old key) ≡ true = ap is_some found in
      let counts : cond (is_some (get old key)) 1 0 + 0 ≡ 1 = rw present in
      omega (
        arith,
        counts,
        sum_by-set (λ o. cond (is_some o) 1 0) old.slots key (Some u) None (ContainsKey-within old key present),
      )

  noted_cases : (old : Slab LiveSession) (key : ℕ) (s : LiveSession) → get old key ≡ Some s →
      (k : ℕ) (u : LiveSession) → get (with_value old key (with_one_more s)) k ≡ Some u →
      ((k ≡ key) × (with_one_more s ≡ u)) ⊎ (get old k ≡ Some u)
  noted_cases old key s found k u at =
      let updates = Updates-with_value old key (with_one_more s) (ap is_some found) in
      elim (cases_eq k key) [
        | inl same ↦
            let now : get (with_value old key (with_one_more s)) k ≡ Some (with_one_more s) =
            ap (get (with_value old key (with_one_more s))) same ∙ updates.changed in
            inl (same, cc)
        | inr differs ↦ inr (sym (updates.others k differs) ∙ at)
      ]

  noted_was : (old : Slab LiveSession) (key : ℕ) (s : LiveSession) → get old key ≡ Some s → (k : ℕ) (u : LiveSession) →
      get (with_value old key (with_one_more s)) k ≡ Some u → Was old k u
  noted_was old key s found k u at = elim (noted_cases old key s found k u at) [
    | inl here ↦ record { session = s; there = ap (get old) here.0 ∙ found; serial = ap (λ v. v.serial) here.1 }
    | inr before ↦ record { session = u; there = before; serial = refl }
  ]

  noted_within : (old : Slab LiveSession) (key : ℕ) (s : LiveSession) → IsTable (table_of capacity next old T) →
      get old key ≡ Some s → s.sent < s.bound → (k : ℕ) (u : LiveSession) →
      get (with_value old key (with_one_more s)) k ≡ Some u → u.sent ≤ u.bound
  noted_within old key s t found below k u at = elim (noted_cases old key s found k u at) [
    | inl here ↦ rw (← here.1) (omega arith)
    | inr before ↦ (t.live k u before).within
  ]

  pub IsTable-noted : (old : Slab LiveSession) (key : ℕ) (s : LiveSession) →
      IsTable (table_of capacity next old T) → get old key ≡ Some s → s.sent < s.bound →
      IsTable (table_of capacity next (with_value old key (with_one_more s)) (with_message T))
  IsTable-noted old key s t found below =
      let len = noted_len old key s (with_one_more s) found in
      record {
        capacity = t.capacity;
        fits = omega (arith, t.fits, len);
        first = t.first;
        next = t.next;
        totals = omega (arith, t.totals, len);
        messages = omega (arith, t.messages);
        live = λ k u at.
            let w = noted_was old key s found k u at in
            let l = t.live k w.session w.there in
            record {
              within = noted_within old key s t found below k u at;
              before_next = omega (arith, l.before_next, w.serial);
              from_first = omega (arith, l.from_first, w.serial);
            };
        once = λ k other u v at there same.
            let w = noted_was old key s found k u at in
            let x = noted_was old key s found other v there in
            t.once k other w.session x.session w.there x.there (omega (arith, w.serial, x.serial));
      }
