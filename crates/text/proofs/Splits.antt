-- A text is cut at its first space in one way.
use Rattle.std.proofs.Common.{◌≡◌, ℕ, suc, List, [], ◌∷◌, ◌++◌, get_or, drop, sym, refl, ap, ◌∙◌, subst, arith}
use Rattle.std.specs.Int.{IsInRange}
use Rattle.text.specs.Words.{Visible, NoSpace, Before, Both}

pub visible_no_space : (bs : List ℕ) → Visible bs → NoSpace bs
visible_no_space bs h i l e = let p : IsInRange 33 126 (get_or bs i 0) = h i l in omega (arith, p.0, e)

-- the first space is where the other cut has it
pub same_cut : (a b m n : List ℕ) → NoSpace a → NoSpace m → a ++ (32 ∷ b) ≡ m ++ (32 ∷ n) → (a ≡ m) × (b ≡ n)
same_cut [] b [] n ha hm e = (refl, ap (drop 1) e)
same_cut [] b (y ∷ m) n ha hm e = absurd (hm 0 (omega arith) (sym (ap (λ l. get_or l 0 0) e)))
same_cut (x ∷ a) b [] n ha hm e = absurd (ha 0 (omega arith) (ap (λ l. get_or l 0 0) e))
same_cut (x ∷ a) b (y ∷ m) n ha hm e =
    let h : x ≡ y = ap (λ l. get_or l 0 0) e in
    let p = same_cut a b m n (λ i l. ha (suc i) (omega arith)) (λ i l. hm (suc i) (omega arith)) (ap (drop 1) e) in
    ((λ i. h i ∷ p.0 i), p.1)

none : (m n : List ℕ) → NoSpace (m ++ (32 ∷ n)) → ⊥
none [] n h = h 0 (omega arith) refl
none (x ∷ m) n h = none m n (λ i l. h (suc i) (omega arith))

pub none_cut : (bs m n : List ℕ) → NoSpace bs → bs ≡ m ++ (32 ∷ n) → ⊥
none_cut bs m n h e = none m n (subst NoSpace e h)

-- what each number is written as is made of visible characters
module _ {N : Type 0} (Writes : N → List ℕ → Type 0) (visible : (n : N) (bs : List ℕ) → Writes n bs → Visible bs) where
  no_space : (n : N) (bs : List ℕ) → Writes n bs → NoSpace bs
  no_space n bs w = visible_no_space bs (visible n bs w)

  -- what stands before the first space is what the grammar has there
  pub first_part : (n : N) (bs a b rest : List ℕ) → bs ≡ a ++ (32 ∷ b) → NoSpace a → Before (Writes n) rest bs → Writes n a
  first_part n bs a b rest e na w = subst (Writes n) (sym (same_cut a b w.0 rest na (no_space n w.0 w.2) (sym e ∙ w.1)).0) w.2

  -- what stands after the first space is what the grammar has there
  pub after : (m n : N) (Q : List ℕ → Type 0) (bs rest : List ℕ) → Before (Writes m) rest bs → Both (Writes n) Q bs → Q rest
  after m n Q bs rest f w = subst Q (sym (same_cut f.0 rest w.0 w.1 (no_space m f.0 f.2) (no_space n w.0 w.3) (sym f.1 ∙ w.2)).1) w.4

  -- two readings of a text have the same parts
  pub together : (m n : N) (P Q : List ℕ → Type 0) (bs : List ℕ) → Both (Writes m) P bs → Both (Writes n) Q bs
      → (front : List ℕ) × (rest : List ℕ) × Writes m front × Writes n front × P rest × Q rest
  together m n P Q bs w v =
      let s = same_cut w.0 w.1 v.0 v.1 (no_space m w.0 w.3) (no_space n v.0 v.3) (sym w.2 ∙ v.2) in
      (w.0, w.1, w.3, subst (Writes n) (sym s.0) v.3, w.4, subst Q (sym s.1) v.4)
