-- Bytes that are put one after another.
use Rattle.std.proofs.Common.{◌≡◌, ℕ, ◌+◌, ◌/◌, ◌^◌, ◌<◌, ◌≤◌, List, [], ◌∷◌, ◌++◌, length, vec_items, vec_len, vec_capacity, decimal, codes, cond, true, false, Vec, get_or, refl, ap, ◌∙◌, append_assoc, arith, lit<, lit≤, length-append}
use Rattle.std.proofs.lemmas.Fmt.{decimal_step, length-decimal-le}
use Rattle.protocol.specs.declared.Role.{Role}
use Rattle.protocol.specs.declared.Role.TheVariants.{Follower, Candidate, Leader}
use Rattle.protocol.specs.declared.Standing.{Standing}
use Rattle.protocol.specs.declared.Standing.TheVariants.{Kept, Gone, Open, Unknown}
use Rattle.protocol.specs.declared.Status.{Status}
use Rattle.protocol.specs.Shown.{role_shown, standing_shown, state_shown, server_shown}
use Rattle.command.specs.Shown.{servers_before}
use Rattle.command.specs.Writing.{Put}

module _ {Z : Type 0} where
  -- one byte
  pub put_one : (v w : Vec ℕ Z) {b : ℕ} → vec_items w ≡ vec_items v ++ (b ∷ []) → vec_len w ≡ vec_len v + 1 → vec_capacity w ≡ vec_capacity v → Put 1 v (b ∷ []) w
  put_one v w i l e = record { items = i; len = l; few = lit≤ tt; capacity = e }

  -- one text, and another behind it
  pub put_then : {j k : ℕ} {u v w : Vec ℕ Z} {xs ys : List ℕ} → Put j u xs v → Put k v ys w → Put (j + k) u (xs ++ ys) w
  put_then {u = u} {xs = xs} {ys = ys} p q =
      record {
        items = q.items ∙ ap (λ zs. zs ++ ys) p.items ∙ append_assoc (vec_items u) xs ys;
        len = simp length-append (omega (arith, p.len, q.len));
        few = simp length-append (omega (arith, p.few, q.few));
        capacity = q.capacity ∙ p.capacity;
      }

  -- the same text, written otherwise
  pub put_is : {k : ℕ} {v w : Vec ℕ Z} {xs ys : List ℕ} → Put k v xs w → xs ≡ ys → Put k v ys w
  put_is {v = v} p e =
      record {
        items = p.items ∙ ap (λ zs. vec_items v ++ zs) e;
        len = p.len ∙ ap (λ zs. vec_len v + length zs) e;
        few = omega (arith, p.few, ap length e);
        capacity = p.capacity;
      }

  -- the same text, with another bound
  pub put_within : {j k : ℕ} {v w : Vec ℕ Z} {xs : List ℕ} → Put j v xs w → length xs ≤ k → Put k v xs w
  put_within p h = record { items = p.items; len = p.len; few = h; capacity = p.capacity }

-- a number of 32 bits has at most ten digits
pub decimal_few : (n : ℕ) → n < 2 ^ 32 → length (decimal n) ≤ 10
decimal_few n h = length-decimal-le 10 n (lit< tt) (omega arith) (omega arith)

-- and nine before its last one
pub decimal_front_few : (n : ℕ) → 10 ≤ n → n < 2 ^ 32 → length (decimal (n / 10)) ≤ 9
decimal_front_few n l h =
    let e : length (decimal n) ≡ length (decimal (n / 10)) + 1 = ap length (decimal_step n l (omega arith)) ∙ length-append (decimal (n / 10)) _ in
    omega (arith, e, decimal_few n h)

-- a space and the word of a standing
pub standing_few : (s : Standing) → length (32 ∷ standing_shown s) ≤ 11
standing_few Kept = lit≤ tt
standing_few Gone = lit≤ tt
standing_few Open = lit≤ tt
standing_few Unknown = lit≤ tt

-- a role is one letter, and so is a server's state
role_few : (r : Role) → length (role_shown r) ≤ 1
role_few Follower = lit≤ tt
role_few Candidate = lit≤ tt
role_few Leader = lit≤ tt

pub state_few : (s : Status) → length (state_shown s) ≤ 1
state_few s = elim s.up as (λ u. length (cond u (role_shown s.role) (codes "d")) ≤ 1) [ true ↦ role_few s.role | false ↦ lit≤ tt ]

-- three servers, one by one
pub three_before : (rest : List ℕ) (ss : List Status) → length ss ≡ 3 → (d : Status)
    → servers_before rest ss ≡ 32 ∷ (server_shown (get_or ss 0 d) ++ (32 ∷ (server_shown (get_or ss 1 d) ++ (32 ∷ (server_shown (get_or ss 2 d) ++ rest)))))
three_before rest (a ∷ b ∷ c ∷ []) e d = refl
three_before rest [] e d = absurd (omega arith)
three_before rest (a ∷ []) e d = absurd (omega arith)
three_before rest (a ∷ b ∷ []) e d = absurd (omega arith)
three_before rest (a ∷ b ∷ c ∷ x ∷ ss) e d = absurd (omega arith)
