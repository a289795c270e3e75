-- Visible characters, and texts that are made of them.
use Rattle.std.proofs.Common.{◌≡◌, ℕ, zero, suc, ◌<◌, Bool, true, false, cond, leb, List, [], ◌∷◌, ◌++◌, IsAscii, sym, refl, subst, arith}
use Rattle.std.specs.Int.{IsInRange}
use Rattle.std.proofs.lemmas.Bool.{false≢true}
use Rattle.std.proofs.lemmas.Str.{IsAscii-append}
use Rattle.text.specs.Words.{Visible, Both}
use Rattle.text.specs.Numerals.{visible_cons}

ascii_cons : (a : ℕ) (cs : List ℕ) → a < 128 → IsAscii cs → IsAscii (a ∷ cs)
ascii_cons a cs h t zero = h
ascii_cons a cs h t (suc i) = t i

pub written_ascii : (bs : List ℕ) → Visible bs → IsAscii bs
written_ascii [] h = λ i. omega arith
written_ascii (a ∷ cs) h = let p : IsInRange 33 126 a = h 0 (omega arith) in ascii_cons a cs (omega (arith, p.1)) (written_ascii cs (λ i l. h (suc i) (omega arith)))

-- the same as a test, for words that are written out
abbrev pub all_visible : List ℕ → Bool
all_visible [] = true
all_visible (x ∷ xs) = cond (leb 33 x) (cond (leb x 126) (all_visible xs) false) false

visible_more : (x : ℕ) (xs : List ℕ) (a b : Bool) → a ≡ leb 33 x → b ≡ leb x 126 → (all_visible xs ≡ true → Visible xs) → cond a (cond b (all_visible xs) false) false ≡ true → Visible (x ∷ xs)
visible_more x xs true true p q k h = visible_cons x xs (grind arith, grind arith) (k h)
visible_more x xs true false p q k h = absurd (false≢true h)
visible_more x xs false b p q k h = absurd (false≢true h)

pub visible_from : (xs : List ℕ) → all_visible xs ≡ true → Visible xs
visible_from [] h = λ i l. omega arith
visible_from (x ∷ xs) h = visible_more x xs (leb 33 x) (leb x 126) refl refl (visible_from xs) h

-- two ASCII texts with a space between
pub joined_ascii : (bs m n : List ℕ) → bs ≡ m ++ (32 ∷ n) → IsAscii m → IsAscii n → IsAscii bs
joined_ascii bs m n e p q = subst IsAscii (sym e) (IsAscii-append m (32 ∷ n) p (ascii_cons 32 n (omega arith) q))

pub both_ascii : (P Q : List ℕ → Type 0) → ((m : List ℕ) → P m → IsAscii m) → ((n : List ℕ) → Q n → IsAscii n) → (bs : List ℕ) → Both P Q bs → IsAscii bs
both_ascii P Q p q bs w = joined_ascii bs w.0 w.1 w.2 (p w.0 w.3) (q w.1 w.4)
