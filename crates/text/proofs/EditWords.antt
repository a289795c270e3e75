-- The words of an edit, one after another.
use Rattle.std.proofs.Common.{◌≡◌, ℕ, ◌<◌, ◌^◌, List, ℤ, pos, negsuc, nat_abs, Some, None, Option, Ok, Err, Result, arith, sym, refl, ap, ◌∙◌, subst, w32, SFits, to_z, of_z}
use Rattle.std.proofs.lemmas.Int.{to_z-of_z}
use Rattle.std.proofs.lemmas.Bool.{true≢false}
use Rattle.std.specs.Int.{FitsUnsignedBits}
use Rattle.std.specs.Option.{is_some, unwrap_or}
use Rattle.std.specs.Result.{OkIff, result_ok}
use Rattle.sheet.specs.declared.types.Edit.{Edit}
use Rattle.text.specs.Words.{Finds, Visible, Before, Both, Word, SignedKind, FromRow, SignedEditIn}
use Rattle.text.specs.Numerals.{word_visible, word_sole}
use Rattle.text.proofs.Splits.{after, together}

-- the words of an edit after its row, and after its size
abbrev pub FromSize : Edit → List ℕ → Type 0
FromSize e = Both (Word e.size) (Both (Word e.a) (Word e.q))

abbrev pub FromA : Edit → List ℕ → Type 0
FromA e = Both (Word e.a) (Word e.q)

-- what is left of an edit's text after its row, its size and a
pub after_row_of : (e : Edit) (row : ℤ) (bs t : List ℕ) → Before (Word row) t bs → FromRow e bs → FromSize e t
after_row_of e row = after Word word_visible row e.row (FromSize e)

pub after_size_of : (e : Edit) (size : ℤ) (bs t : List ℕ) → Before (Word size) t bs → FromSize e bs → FromA e t
after_size_of e size = after Word word_visible size e.size (FromA e)

pub after_a_of : (e : Edit) (a : ℤ) (bs t : List ℕ) → Before (Word a) t bs → FromA e bs → Word e.q t
after_a_of e a = after Word word_visible a e.a (Word e.q)

-- a signed number that was stored
pub kept : (bs : List ℕ) (z : ℤ) → Word z bs → Word (to_z w32 (of_z w32 z)) bs
kept bs z w = record { no_plus = w.no_plus; digits = w.digits; fits = w.fits; value = to_z-of_z w32 z (subst (SFits w32) (sym w.value) w.fits) ∙ w.value }

-- a kind before the words of an edit, where a text writes one kind
module _ (Writes : ℕ → List ℕ → Type 0) (visible : (n : ℕ) (bs : List ℕ) → Writes n bs → Visible bs)
    (sole : (m n : ℕ) (bs : List ℕ) → Writes m bs → Writes n bs → m ≡ n) where
  pub with_kind : (kind : ℕ) (bs rest : List ℕ) → Before (Writes kind) rest bs → (r : Option Edit)
      → Finds r (λ e. (e.kind ≡ kind) × FromRow e rest) → Finds r (λ e. Both (Writes e.kind) (FromRow e) bs)
  with_kind kind bs rest b (Some e) f = (b.0, rest, b.1, subst (λ n. Writes n b.0) (sym f.0) b.2, f.1)
  with_kind kind bs rest b None f = λ e w.
      let s = together Writes visible e.kind kind (FromRow e) (λ t. t ≡ rest) bs w (b.0, rest, b.1, b.2, refl) in
      f e (sole e.kind kind s.0 s.2 s.3, subst (FromRow e) s.5 s.4)

pub signed_kind_visible : (n : ℕ) (bs : List ℕ) → SignedKind n bs → Visible bs
signed_kind_visible n bs w = word_visible (pos n) bs w.0

pub signed_kind_sole : (m n : ℕ) (bs : List ℕ) → SignedKind m bs → SignedKind n bs → m ≡ n
signed_kind_sole m n bs w v = ap nat_abs (word_sole (pos m) (pos n) bs w.0 v.0)

-- a signed number of which 16 bits hold as much as is none
pub held : {E : Type 0} (r : Result ℕ E) (z : ℤ) (k : ℕ) → OkIff r (FitsUnsignedBits 16 z) (nat_abs z) → Some k ≡ result_ok r → (z ≡ pos k) × (k < 2 ^ 16)
held (Ok n) (pos m) k h e = let p : k ≡ m = ap (λ o. unwrap_or o 0) e ∙ h.1 in (ap pos (sym p), omega (arith, p, h.0))
held (Ok n) (negsuc m) k h e = absurd h.0
held (Err x) z k h e = absurd (true≢false (ap is_some e))

pub not_held : {E : Type 0} (r : Result ℕ E) (z : ℤ) → OkIff r (FitsUnsignedBits 16 z) (nat_abs z) → None ≡ result_ok r → (k : ℕ) → z ≡ pos k → k < 2 ^ 16 → ⊥
not_held (Ok n) z h e k p l = true≢false (sym (ap is_some e))
not_held (Err x) z h e k p l = h (subst (FitsUnsignedBits 16) (sym p) l)

-- the same of the number before a space, as it was stored
stored : (bs : List ℕ) (z : ℤ) → Word z bs → to_z w32 (of_z w32 z) ≡ z
stored bs z w = to_z-of_z w32 z (subst (SFits w32) (sym w.value) w.fits)

pub kind_first : {E : Type 0} (r : Result ℕ E) (z : ℤ) (k : ℕ) (rest bs : List ℕ) → Before (Word z) rest bs
    → OkIff r (FitsUnsignedBits 16 (to_z w32 (of_z w32 z))) (nat_abs (to_z w32 (of_z w32 z))) → Some k ≡ result_ok r → Before (SignedKind k) rest bs
kind_first r z k rest bs b h e =
    let s = stored b.0 z b.2 in
    let p = held r (to_z w32 (of_z w32 z)) k h e in
    (b.0, b.1, (subst (λ (y : ℤ). Word y b.0) (sym s ∙ p.0) b.2, p.1))

pub no_kind_first : {E : Type 0} (r : Result ℕ E) (z : ℤ) (rest bs : List ℕ) → Before (Word z) rest bs
    → OkIff r (FitsUnsignedBits 16 (to_z w32 (of_z w32 z))) (nat_abs (to_z w32 (of_z w32 z))) → None ≡ result_ok r → (e : Edit) → SignedEditIn e bs → ⊥
no_kind_first r z rest bs b h o e w =
    let s = stored b.0 z b.2 in
    let t = together Word word_visible z (pos e.kind) (λ t. t ≡ rest) (FromRow e) bs (b.0, rest, b.1, b.2, refl) (w.0, w.1, w.2, w.3.0, w.4) in
    not_held r (to_z w32 (of_z w32 z)) h o e.kind (s ∙ word_sole z (pos e.kind) t.0 t.2 t.3) w.3.1
