-- The search for the commit, counted down: what a loop over it needs.
use Rattle.std.proofs.Common.{◌≡◌, ℕ, zero, suc, ◌-◌, ◌<◌, true, false, eqb, refl, ap, ◌∙◌, arith}
use Rattle.std.proofs.lemmas.Bool.{cond-true, cond-false, and_from, and_left, and_right, eq-eqb, ne_eqb}
use Rattle.protocol.specs.ServerIds.{ServerId}
use Rattle.protocol.specs.State.{term_at, Server}
use Rattle.protocol.specs.AppendEntries.{two_hold, top}

pub top_none : (j : ServerId) (s : Server) (n : ℕ) → n ≡ 0 → top j s n ≡ 0
unfolding top
top_none j s n e = rw e refl

pub top_yes : (j : ServerId) (s : Server) (n : ℕ) → 0 < n → term_at s.log (n - 1) ≡ s.term → two_hold j s n ≡ true → top j s n ≡ n
unfolding top
top_yes j s zero h e t = absurd (omega arith)
top_yes j s (suc i) h e t =
    let z : suc i - 1 ≡ i = omega arith in
    cond-true _ _ _ (and_from _ _ (eq-eqb (term_at s.log i) s.term (rw z at e)) t)

pub top_old : (j : ServerId) (s : Server) (n : ℕ) → 0 < n → (term_at s.log (n - 1) ≡ s.term → ⊥) → top j s n ≡ top j s (n - 1)
unfolding top
top_old j s zero h e = absurd (omega arith)
top_old j s (suc i) h e =
    let z : suc i - 1 ≡ i = omega arith in
    rw z (cond-false _ _ _ (and_left (eqb (term_at s.log i) s.term) _ (ne_eqb _ _ (λ k. e (ap (λ (x : ℕ). term_at s.log x) z ∙ k)))))

pub top_few : (j : ServerId) (s : Server) (n : ℕ) → 0 < n → two_hold j s n ≡ false → top j s n ≡ top j s (n - 1)
unfolding top
top_few j s zero h e = absurd (omega arith)
top_few j s (suc i) h e =
    let z : suc i - 1 ≡ i = omega arith in
    rw z (cond-false _ _ _ (and_right (eqb (term_at s.log i) s.term) (two_hold j s (suc i)) e))
