-- Several edits applied, and taken back.
use Rattle.std.proofs.Common.{◌≡◌, ℕ, zero, suc, ◌+◌, ◌-◌, ◌<◌, ◌≤◌, min, Bool, true, false, cond, ltb, List, [], ◌∷◌, ◌++◌, length, get_or, take, drop, is_ok, Ok, Err, Result, sym, refl, ap, ◌∙◌, inl, inr, add-one, arith}
use Rattle.std.proofs.lemmas.List.{take_more, drop-drop, length-drop}
use Rattle.std.proofs.lemmas.Bool.{cases_Bool, cases_lt, lt-ltb, le-ltb, cond-true, cond-false}
use Rattle.refusal.specs.declared.Refusal.{Refusal}
use Rattle.refusal.specs.Numbers.{told}
use Rattle.sheet.specs.declared.types.Edit.{Edit}
use Rattle.machine.specs.States.{newest, apply_answer, applied, applied_all, undone, undone_times}

module _ {X : Type 0} (opening : X) (next : X → Edit → X) where
  all_push : (es : List Edit) (e : Edit) (xs : List X) → applied_all opening next (es ++ e ∷ []) xs ≡ applied opening next e (applied_all opening next es xs)
  all_push [] e xs = refl
  all_push (x ∷ es) e xs = all_push es e (applied opening next x xs)

  pub all_more : (es : List Edit) (i : ℕ) (d : Edit) (xs : List X) → i < length es
      → applied opening next (get_or es i d) (applied_all opening next (take i es) xs) ≡ applied_all opening next (take (i + 1) es) xs
  all_more es i d xs h = sym (ap (λ (ys : List Edit). applied_all opening next ys xs) (take_more es i d h) ∙ all_push (take i es) (get_or es i d) xs)

  -- how many states there are then, and that those from before are the last of them
  pub length_all : (es : List Edit) (xs : List X) → length xs ≤ 17 → length (applied_all opening next es xs) ≡ length xs + min (length es) (17 - length xs)
  length_all [] xs h = omega arith
  length_all (e ∷ es) xs h =
      elim (cases_lt (length xs) 17) [
        | inl l ↦
            let a : applied opening next e xs ≡ next (newest opening xs) e ∷ xs = cond-true _ _ xs (lt-ltb (length xs) 17 l) in
            ap (λ (ys : List X). length (applied_all opening next es ys)) a ∙ length_all es (next (newest opening xs) e ∷ xs) (omega arith) ∙ omega arith
        | inr l ↦
            let a : applied opening next e xs ≡ xs = cond-false _ (next (newest opening xs) e ∷ xs) xs (le-ltb (length xs) 17 l) in
            ap (λ (ys : List X). length (applied_all opening next es ys)) a ∙ length_all es xs h ∙ omega arith
      ]

  pub drop_all : (es : List Edit) (xs : List X) → length xs ≤ 17 → drop (min (length es) (17 - length xs)) (applied_all opening next es xs) ≡ xs
  drop_all [] xs h = let z : min 0 (17 - length xs) ≡ 0 = omega arith in ap (λ (k : ℕ). drop k xs) z
  drop_all (e ∷ es) xs h =
      elim (cases_lt (length xs) 17) [
        | inl l ↦
            let a : applied opening next e xs ≡ next (newest opening xs) e ∷ xs = cond-true _ _ xs (lt-ltb (length xs) 17 l) in
            let ys : List X = next (newest opening xs) e ∷ xs in
            let k : min (length (e ∷ es)) (17 - length xs) ≡ min (length es) (17 - length ys) + 1 = omega arith in
            ap (λ (zs : List X). drop (min (length (e ∷ es)) (17 - length xs)) (applied_all opening next es zs)) a
            ∙ ap (λ (n : ℕ). drop n (applied_all opening next es ys)) k
            ∙ sym (drop-drop 1 (min (length es) (17 - length ys)) (applied_all opening next es ys))
            ∙ ap (drop 1) (drop_all es ys (omega arith))
        | inr l ↦
            let a : applied opening next e xs ≡ xs = cond-false _ (next (newest opening xs) e ∷ xs) xs (le-ltb (length xs) 17 l) in
            let k : min (length (e ∷ es)) (17 - length xs) ≡ min (length es) (17 - length xs) = omega arith in
            ap (λ (zs : List X). drop (min (length (e ∷ es)) (17 - length xs)) (applied_all opening next es zs)) a
            ∙ ap (λ (n : ℕ). drop n (applied_all opening next es xs)) k
            ∙ drop_all es xs h
      ]

-- undone as often as that, where a state is left, drops as many
pub times_is : {X : Type 0} (k : ℕ) (xs : List X) → k < length xs → undone_times k xs ≡ drop k xs
times_is zero xs h = refl
times_is {X} (suc k) xs h =
    let l : length (drop k xs) ≡ length xs - k = length-drop k xs in
    let b : ltb 1 (length (drop k xs)) ≡ true = lt-ltb 1 (length (drop k xs)) (omega arith) in
    ap undone (times_is k xs (omega arith)) ∙ cond-true _ _ _ b ∙ drop-drop 1 k xs ∙ ap (λ (n : ℕ). drop n xs) (add-one k)

pub no_trace : {X : Type 0} (opening : X) (next : X → Edit → X) (es : List Edit) (xs : List X) → 1 ≤ length xs → length xs ≤ 17
    → undone_times (min (length es) (17 - length xs)) (applied_all opening next es xs) ≡ xs
no_trace opening next es xs some few =
    let l = length_all opening next es xs few in
    times_is (min (length es) (17 - length xs)) (applied_all opening next es xs) (omega arith) ∙ drop_all opening next es xs few

-- an edit that is told as applied is one state more, and one that is refused none
ok_told : (r : Result (Unit {0}) Refusal) (b : Bool) → told r ≡ cond b (Ok tt) (Err 15) → is_ok r ≡ b
ok_told (Ok u) true e = refl
ok_told (Ok u) false e = ap is_ok e
ok_told (Err x) true e = ap is_ok e
ok_told (Err x) false e = refl

pub one_more : {X : Type 0} (opening : X) (next : X → Edit → X) (e : Edit) (xs ys : List X) (r : Result (Unit {0}) Refusal)
    → told r ≡ apply_answer xs → ys ≡ applied opening next e xs → length ys ≡ length xs + cond (is_ok r) 1 0
one_more {X} opening next e xs ys r a h =
    let o : is_ok r ≡ ltb (length xs) 17 = ok_told r (ltb (length xs) 17) a in
    elim (cases_Bool (ltb (length xs) 17)) [
      | inl t ↦
          let k : ◌≡◌ {A = ℕ} (cond (is_ok r) 1 0) 1 = cond-true _ 1 0 (o ∙ t) in
          let l : length ys ≡ suc (length xs) = ap length (h ∙ cond-true _ (next (newest opening xs) e ∷ xs) xs t) in omega arith
      | inr t ↦
          let k : ◌≡◌ {A = ℕ} (cond (is_ok r) 1 0) 0 = cond-false _ 1 0 (o ∙ t) in
          let l : length ys ≡ length xs = ap length (h ∙ cond-false _ (next (newest opening xs) e ∷ xs) xs t) in omega arith
    ]
