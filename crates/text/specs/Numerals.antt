-- The laws of the kinds of number that a text writes.
use Rattle.std.proofs.Common.{◌≡◌, ℕ, ◌<◌, zero, suc, Bool, true, false, cond, eqb, List, [], ◌∷◌, length, get_or, drop, ℤ, Ok, Err, Result, MatchResult, sym, ◌∙◌, subst, arith, true-eqb, refl, w32}
use Rattle.std.specs.Str.Parse.{AllDigits, ParsesUnsigned, ParsesSigned}
use Rattle.std.specs.Int.{IsInRange}
use Rattle.std.proofs.lemmas.Str.Parse.{digit_at, without_leading_plus_none}
use Rattle.text.specs.Words.{Visible, Number, Kind, Word}

-- no plus sign stands first
abbrev pub NoPlus : List ℕ → Type 0
NoPlus bs = get_or bs 0 0 ≡ 43 → ⊥

-- the parsed number, or none where the text writes none
abbrev pub Parsed : {N E : Type 0} → Result N E → (N → List ℕ → Type 0) → List ℕ → Type 0
Parsed {N} r writes bs = MatchResult r (λ n. writes n bs) (λ _. (n : N) → writes n bs → ⊥)

pub visible_cons : (a : ℕ) (cs : List ℕ) → IsInRange 33 126 a → Visible cs → Visible (a ∷ cs)
visible_cons a cs h t zero l = h
visible_cons a cs h t (suc i) l = t i (omega arith)

digits_visible : (ds : List ℕ) → AllDigits 10 ds → Visible ds
digits_visible ds d i h = let p : IsInRange 48 57 (get_or ds i 0) = digit_at ds i d h in (omega (arith, p.0), omega (arith, p.1))

signs : (a : ℕ) (cs : List ℕ) (p q : Bool) → p ≡ eqb a 45 → q ≡ eqb a 43 → AllDigits 10 (cond p cs (drop (cond q 1 0) (a ∷ cs))) → Visible (a ∷ cs)
signs a cs true q hp hq d = visible_cons a cs (omega (arith, true-eqb a 45 hp), omega (arith, true-eqb a 45 hp)) (digits_visible cs d)
signs a cs false true hp hq d = visible_cons a cs (omega (arith, true-eqb a 43 hq), omega (arith, true-eqb a 43 hq)) (digits_visible cs d)
signs a cs false false hp hq d = digits_visible (a ∷ cs) d

-- a signed number
pub word_parsed : {E : Type 0} (bs : List ℕ) (r : Result ℤ E) → ParsesSigned w32 10 bs r → NoPlus bs → Parsed r Word bs
word_parsed bs (Ok z) h p = record { no_plus = p; digits = h.0.0; fits = h.0.1; value = h.1 }
word_parsed bs (Err e) h p = λ z w. h (w.digits, w.fits)

pub word_visible : (z : ℤ) (bs : List ℕ) → Word z bs → Visible bs
word_visible z [] w = λ i l. omega arith
word_visible z (a ∷ cs) w = signs a cs (eqb a 45) (eqb a 43) refl refl w.digits.1

pub word_filled : (z : ℤ) (bs : List ℕ) → Word z bs → 0 < length bs
word_filled z [] w = w.digits.0
word_filled z (a ∷ cs) w = omega arith

pub word_sole : (y z : ℤ) (bs : List ℕ) → Word y bs → Word z bs → y ≡ z
word_sole y z bs w v = w.value ∙ sym v.value

-- an unsigned number
pub number_parsed : {E : Type 0} (bs : List ℕ) (r : Result ℕ E) → ParsesUnsigned 32 10 bs r → NoPlus bs → Parsed r Number bs
number_parsed bs (Ok n) h p = record { no_plus = p; digits = h.0.0; fits = h.0.1; value_is = h.1 }
number_parsed bs (Err e) h p = λ n w. h (w.digits, w.fits)

pub number_visible : (n : ℕ) (bs : List ℕ) → Number n bs → Visible bs
number_visible n bs w = digits_visible bs (subst (AllDigits 10) (without_leading_plus_none bs w.no_plus) w.digits.1)

pub number_filled : (n : ℕ) (bs : List ℕ) → Number n bs → 0 < length bs
number_filled n [] w = w.digits.0
number_filled n (a ∷ cs) w = omega arith

pub number_sole : (m n : ℕ) (bs : List ℕ) → Number m bs → Number n bs → m ≡ n
number_sole m n bs w v = w.value_is ∙ sym v.value_is

-- an unsigned number of 16 bits
pub kind_parsed : {E : Type 0} (bs : List ℕ) (r : Result ℕ E) → ParsesUnsigned 16 10 bs r → NoPlus bs → Parsed r Kind bs
kind_parsed bs (Ok n) h p = (record { no_plus = p; digits = h.0.0; fits = omega (arith, h.0.1); value_is = h.1 }, omega (arith, h.0.1, h.1))
kind_parsed bs (Err e) h p = λ n w. h (w.0.digits, omega (arith, w.1, w.0.value_is))

pub kind_visible : (n : ℕ) (bs : List ℕ) → Kind n bs → Visible bs
kind_visible n bs w = number_visible n bs w.0

pub kind_filled : (n : ℕ) (bs : List ℕ) → Kind n bs → 0 < length bs
kind_filled n bs w = number_filled n bs w.0

pub kind_sole : (m n : ℕ) (bs : List ℕ) → Kind m bs → Kind n bs → m ≡ n
kind_sole m n bs w v = number_sole m n bs w.0 v.0
