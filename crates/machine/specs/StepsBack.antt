-- Replaced rows put back, one after the other.
use Rattle.std.specs.Prelude.{◌≡◌, ℕ, suc, ◌+◌, ◌-◌, true, List, [], ◌∷◌, ◌++◌, reverse, length, take, drop, ℤ, Some, None, Option, slice_index_or, slice_set, refl}
use Rattle.std.proofs.Common.{sym, ap, ◌∙◌, inl, inr, arith}
use Rattle.std.proofs.lemmas.List.{set-set, set-get_or, reverse-append, length-reverse}
use Rattle.std.proofs.lemmas.Bool.{cases_Bool, cond-true, cond-false}
use Rattle.sheet.specs.declared.types.Edit.{Edit}
use Rattle.sheet.specs.Rules.{is_row, place, row_at, of_kind, new_row, replaced_by, next}
use Rattle.machine.specs.declared.undo.Replaced.{Replaced}
use Rattle.machine.specs.States.{newest}
use Rattle.machine.specs.Sheets.{put_back, steps_back}

-- the row that was there, put back over another or over itself
over : (s : List (List ℕ)) (n : ℤ) (o : Option (List ℕ)) → is_row n ≡ true → replaced_by (replaced_by s n o) n (Some (slice_index_or s (place n) [])) ≡ s
over s n None r = cond-true _ _ _ r ∙ set-get_or s (place n) []
over s n (Some x) r =
    cond-true _ _ _ r ∙ ap (λ (t : List (List ℕ)). slice_set t (place n) (slice_index_or s (place n) [])) (cond-true _ _ _ r)
    ∙ set-set s (place n) x (slice_index_or s (place n) []) ∙ set-get_or s (place n) []

-- the sheet after an edit, with the row that the edit named put back, is the sheet before
pub back_from_next : (s : List (List ℕ)) (e : Edit) (o : Option (List ℕ)) → o ≡ row_at s e.row → replaced_by (next s e) e.row o ≡ s
unfolding next
back_from_next s e o h =
    elim (cases_Bool (is_row e.row)) [
      | inl r ↦ ap (replaced_by (next s e) e.row) (h ∙ cond-true _ _ None r) ∙ over s e.row (new_row s e) r
      | inr r ↦
          let none : row_at s e.row ≡ None = cond-false _ (Some (slice_index_or s (place e.row) [])) None r in
          ap (replaced_by (next s e) e.row) (h ∙ none) ∙ ap (λ (x : Option (List ℕ)). replaced_by s e.row (of_kind s e x)) none
    ]

length_back : (s : List (List ℕ)) (us : List Replaced) → length (steps_back s us) ≡ length us + 1
length_back s [] = refl
length_back s (u ∷ us) = ap suc (length_back (put_back s u) us) ∙ omega arith

pub back_count : (s : List (List ℕ)) (rs : List Replaced) → length (steps_back s (reverse rs)) ≡ length rs + 1
back_count s rs = length_back s (reverse rs) ∙ ap (λ (k : ℕ). k + 1) (length-reverse rs)

pub back_newest : (d s : List (List ℕ)) (us : List Replaced) → newest d (steps_back s us) ≡ s
back_newest d s [] = refl
back_newest d s (u ∷ us) = refl

-- one replaced row more is one state more
pub back_more : (t : List (List ℕ)) (rs : List Replaced) (u : Replaced) → steps_back t (reverse (rs ++ u ∷ [])) ≡ t ∷ steps_back (put_back t u) (reverse rs)
back_more t rs u = ap (steps_back t) (reverse-append rs (u ∷ []))

-- without the oldest replaced row, all states but the oldest
front : (s : List (List ℕ)) (us : List Replaced) (u : Replaced) → steps_back s us ≡ take (suc (length us)) (steps_back s (us ++ u ∷ []))
front s [] u = refl
front s (v ∷ us) u = ap (λ (ss : List (List (List ℕ))). s ∷ ss) (front (put_back s v) us u)

pub back_settled : (s : List (List ℕ)) (r : Replaced) (rs : List Replaced) → steps_back s (reverse rs) ≡ take (suc (length rs)) (steps_back s (reverse (r ∷ rs)))
back_settled s r rs =
    front s (reverse rs) r
    ∙ ap (λ (k : ℕ). take (suc k) (steps_back s (reverse rs ++ r ∷ []))) (length-reverse rs)
    ∙ ap (λ (us : List Replaced). take (suc (length rs)) (steps_back s us)) (sym (reverse-append (r ∷ []) rs))

-- the same by the rows before: left without the oldest of them, all states but the oldest
pub back_oldest : (s : List (List ℕ)) (rs left : List Replaced) (r : Replaced) → rs ≡ r ∷ left
    → steps_back s (reverse left) ≡ take (length (steps_back s (reverse rs)) - 1) (steps_back s (reverse rs))
back_oldest s rs left r e =
    let n : suc (length left) ≡ length (steps_back s (reverse (r ∷ left))) - 1 = omega (arith, back_count s (r ∷ left)) in
    back_settled s r left
    ∙ ap (λ (k : ℕ). take k (steps_back s (reverse (r ∷ left)))) n
    ∙ sym (ap (λ (us : List Replaced). take (length (steps_back s (reverse us)) - 1) (steps_back s (reverse us))) e)

-- the newest replaced row put back is all states but the newest
pub back_undone : (s t : List (List ℕ)) (rs left : List Replaced) (u : Replaced) → rs ≡ left ++ u ∷ [] → t ≡ put_back s u
    → steps_back t (reverse left) ≡ drop 1 (steps_back s (reverse rs))
back_undone s t rs left u e p =
    ap (λ (x : List (List ℕ)). steps_back x (reverse left)) p
    ∙ sym (ap (λ (us : List Replaced). drop 1 (steps_back s (reverse us))) e ∙ ap (drop 1) (back_more s left u))
