-- Cells in their range: one that is set, a whole row of them, and numbers of which one is out of range.
use Rattle.std.proofs.Common.{◌≡◌, ℕ, zero, suc, ◌+◌, ◌<◌, ◌≤◌, true, false, ◌≢◌, List, [], ◌∷◌, map, length, get_or, set, ℤ, pos, nat_abs, Some, None, sym, refl, ap, ◌∙◌, subst, arith, below_more}
use Rattle.std.specs.List.{range_with_len}
use Rattle.std.proofs.lemmas.Bool.{and_from, and_left, and_right, le-leb, cond-true, cond-false}
use Rattle.std.proofs.lemmas.List.{ext_get_or, length-set, map-set, length-map, get_or-map, get_or-set_same, get_or-set_other}
use Rattle.std.proofs.lemmas.List.FromFn.{length-map-range_with_len, get_or-map-range_with_len}
use Rattle.sheet.specs.Rules.{in_range, all_in_range, fitted}

pub ranged_set : (cs : List ℕ) (j v : ℕ) → v ≤ 30000 → ((k : ℕ) → get_or cs k 0 ≤ 30000) → (k : ℕ) → get_or (set cs j v) k 0 ≤ 30000
ranged_set [] j v h all k = all k
ranged_set (x ∷ xs) zero v h all zero = h
ranged_set (x ∷ xs) zero v h all (suc k) = all (suc k)
ranged_set (x ∷ xs) (suc j) v h all zero = all zero
ranged_set (x ∷ xs) (suc j) v h all (suc k) = ranged_set xs j v h (λ i. all (suc i)) k

all_in_range_by : (cs : List ℕ) → ((k : ℕ) → get_or cs k 0 ≤ 30000) → all_in_range (map pos cs) ≡ true
all_in_range_by [] all = refl
all_in_range_by (x ∷ xs) all = and_from _ _ (and_from _ _ (le-leb 0 x (omega arith)) (le-leb x 30000 (all 0))) (all_in_range_by xs (λ i. all (suc i)))

one_out : (zs : List ℤ) (k : ℕ) → k < length zs → in_range (get_or zs k (pos 0)) ≡ false → all_in_range zs ≡ false
one_out [] k h e = absurd (omega arith)
one_out (z ∷ zs) zero h e = and_left _ _ e
one_out (z ∷ zs) (suc k) h e = and_right _ _ (one_out zs k (omega arith) e)

-- the cells are the numbers that f gives, where each is
pub row_is : (cs : List ℕ) (f : ℕ → ℤ) → length cs ≡ 12 → ((k : ℕ) → k < 12 → pos (get_or cs k 0) ≡ f (k + 1)) → map pos cs ≡ map f (range_with_len 1 12)
row_is cs f l h = ext_get_or (pos 0) (map pos cs) (map f (range_with_len 1 12)) (length-map cs pos ∙ l ∙ sym (length-map-range_with_len f 1 12)) (λ k b.
    let b1 : k < length cs = subst (λ (n : ℕ). k < n) (length-map cs pos) b in
    let b2 : k < 12 = omega arith in
    get_or-map pos cs k 0 (pos 0) b1 ∙ h k b2 ∙ sym (get_or-map-range_with_len f 1 12 k (k + 1) (pos 0) b2 (omega arith)))

pub graded_out : (f : ℕ → ℤ) (i : ℕ) → i < 12 → in_range (f (i + 1)) ≡ false → all_in_range (map f (range_with_len 1 12)) ≡ false
graded_out f i h e =
    let l : i < length (map f (range_with_len 1 12)) = h in
    one_out (map f (range_with_len 1 12)) i l (ap in_range (get_or-map-range_with_len f 1 12 i (i + 1) (pos 0) h (omega arith)) ∙ e)

pub graded_more : (cs : List ℕ) (i v : ℕ) (g : ℕ → ℤ) → i < length cs → ((k : ℕ) → k < i → pos (get_or cs k 0) ≡ g k) → pos v ≡ g i
    → (k : ℕ) → k < i + 1 → pos (get_or (set cs i v) k 0) ≡ g k
graded_more cs i v g l below here =
    below_more (λ k. pos (get_or (set cs i v) k 0) ≡ g k) i
    (λ k h. let ne : k ≢ i = omega arith in ap pos (get_or-set_other cs i k v 0 ne) ∙ below k h)
    (ap pos (get_or-set_same cs i v 0 l) ∙ here)

naturals : (cs : List ℕ) → map nat_abs (map pos cs) ≡ cs
naturals [] = refl
naturals (x ∷ xs) = ap (λ ys. x ∷ ys) (naturals xs)

-- cells in range make a row, and numbers of which one is out of range none
pub fitted_cells : (cs : List ℕ) (zs : List ℤ) → ((k : ℕ) → get_or cs k 0 ≤ 30000) → map pos cs ≡ zs → Some cs ≡ fitted zs
fitted_cells cs zs all e = ap Some (sym (naturals cs) ∙ ap (map nat_abs) e) ∙ sym (cond-true (all_in_range zs) (Some (map nat_abs zs)) None (ap all_in_range (sym e) ∙ all_in_range_by cs all))

pub fitted_none : (zs : List ℤ) → all_in_range zs ≡ false → None ≡ fitted zs
fitted_none zs e = sym (cond-false (all_in_range zs) (Some (map nat_abs zs)) None e)

pub set_fits : (old : List ℕ) (i v : ℕ) (a : ℤ) → ((k : ℕ) → get_or old k 0 ≤ 30000) → pos v ≡ a → v ≤ 30000 → Some (set old i v) ≡ fitted (set (map pos old) i a)
set_fits old i v a all e h = fitted_cells (set old i v) (set (map pos old) i a) (ranged_set old i v h all) (map-set pos old i v ∙ ap (set (map pos old) i) e)

pub set_out : (old : List ℕ) (i : ℕ) (a : ℤ) → i < length old → in_range a ≡ false → None ≡ fitted (set (map pos old) i a)
set_out old i a h e =
    let m : i < length (map pos old) = subst (λ (n : ℕ). i < n) (sym (length-map old pos)) h in
    let l : i < length (set (map pos old) i a) = subst (λ (n : ℕ). i < n) (sym (length-set (map pos old) i a)) m in
    fitted_none (set (map pos old) i a) (one_out (set (map pos old) i a) i l (ap in_range (get_or-set_same (map pos old) i a (pos 0) m) ∙ e))
