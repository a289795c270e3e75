-- The leader's commit: the last number that may be committed.
use Rattle.std.proofs.Common.{◌≡◌, ℕ, zero, suc, ◌+◌, ◌-◌, ◌<◌, Bool, true, false, cond, ◌&&◌, eqb, List, [], ◌∷◌, Some, None, Option, MatchOption, refl, ◌∙◌, ap, arith}
use Rattle.std.specs.List.{find}
use Rattle.std.specs.Iterator.{AlwaysYields}
use Rattle.std.specs.declared.iter.Rev.{Rev}
use Rattle.std.specs.declared.ops.Range.{Range}
use Rattle.std.proofs.lemmas.Iterator.{YieldsList}
use Rattle.protocol.specs.declared.ServerId.{ServerId}
use Rattle.protocol.specs.State.{Server, term_at}
use Rattle.protocol.specs.AppendEntries.{top, two_hold}

-- the numbers below n, the last first
abbrev pub downward : ℕ → List ℕ
downward zero = []
downward (suc n) = n ∷ downward n

-- a call of a range's reverse
abbrev pub steps_down : Rev (Range ℕ) → Option ℕ → Rev (Range ℕ) → Type 0
steps_down s r t = (t.iter.start ≡ s.iter.start) × MatchOption r ((s.iter.end - s.iter.start ≡ 0) × (t.iter.end ≡ s.iter.end))
    (λ x. (0 < s.iter.end - s.iter.start) × (x ≡ t.iter.end) × (s.iter.end ≡ t.iter.end + 1))

falls : (n : ℕ) (s : Rev (Range ℕ)) → s.iter.start ≡ 0 → s.iter.end ≡ n → AlwaysYields steps_down (λ x. x) s (downward n)
falls zero s a b = λ x j p. omega (arith, a, b, p.1.0)
falls (suc n) s a b = (
  (λ j p. omega (arith, a, b, p.1.0)),
  (λ x j p. (omega (arith, b, p.1.1, p.1.2), falls n j (p.0 ∙ a) (omega (arith, b, p.1.2)))),
)

pub yields_down : (n : ℕ) (s : Rev (Range ℕ)) → s.iter.start ≡ 0 → s.iter.end ≡ n → YieldsList steps_down (λ x. x) s (downward n)
yields_down n s a b = record { runs = falls n s a b }

abbrev pub may : ServerId → Server → ℕ → Bool
may j s i = eqb (term_at s.log i) s.term && two_hold j s (suc i)

-- the number after the one that is found, or 0
abbrev pub after : Option ℕ → ℕ
after None = 0
after (Some i) = suc i

after_cond : (b : Bool) (x y : Option ℕ) → after (cond b x y) ≡ cond b (after x) (after y)
after_cond true x y = refl
after_cond false x y = refl

pub top_found : (j : ServerId) (s : Server) (n : ℕ) → after (find (may j s) (downward n)) ≡ top j s n
unfolding top
top_found j s zero = refl
top_found j s (suc n) = after_cond (may j s n) (Some n) (find (may j s) (downward n)) ∙ ap (cond (may j s n) (suc n)) (top_found j s n)
