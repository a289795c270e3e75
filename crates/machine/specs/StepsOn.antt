-- Open edits applied to the oldest sheet, one after the other.
use Rattle.std.specs.Prelude.{◌≡◌, ℕ, ◌+◌, ◌<◌, List, [], ◌∷◌, ◌++◌, length, take, drop, slice_index_or, refl}
use Rattle.std.proofs.Common.{sym, ap, ◌∙◌, arith, add-one}
use Rattle.std.proofs.lemmas.List.{take_more, take_at}
use Rattle.sheet.specs.declared.types.Edit.{Edit}
use Rattle.sheet.specs.Rules.{next}
use Rattle.machine.specs.States.{newest}
use Rattle.machine.specs.Sheets.{steps_on}

length_on : (s : List (List ℕ)) (ss : List (List (List ℕ))) (es : List Edit) → length (steps_on (s ∷ ss) es) ≡ length ss + length es + 1
length_on s ss [] = omega arith
length_on s ss (e ∷ es) = length_on (next s e) (s ∷ ss) es ∙ omega arith

pub on_count : (s : List (List ℕ)) (es : List Edit) → length (steps_on (s ∷ []) es) ≡ length es + 1
on_count s es = length_on s [] es ∙ omega arith

-- one edit more is one state more
on_push : (d s : List (List ℕ)) (ss : List (List (List ℕ))) (es : List Edit) (e : Edit)
    → steps_on (s ∷ ss) (es ++ e ∷ []) ≡ next (newest d (steps_on (s ∷ ss) es)) e ∷ steps_on (s ∷ ss) es
on_push d s ss [] e = refl
on_push d s ss (x ∷ es) e = on_push d (next s x) (s ∷ ss) es e

pub on_more : (d s : List (List ℕ)) (es : List Edit) (e : Edit) → steps_on (s ∷ []) (es ++ e ∷ []) ≡ next (newest d (steps_on (s ∷ []) es)) e ∷ steps_on (s ∷ []) es
on_more d s es e = on_push d s [] es e

pub newest_more : (d s t : List (List ℕ)) (es : List Edit) (i : ℕ) (x : Edit) → i < length es → t ≡ newest d (steps_on (s ∷ []) (take i es))
    → next t (slice_index_or es i x) ≡ newest d (steps_on (s ∷ []) (take (i + 1) es))
newest_more d s t es i x h e =
    ap (λ (u : List (List ℕ)). next u (slice_index_or es i x)) e
    ∙ sym (ap (newest d) (ap (steps_on (s ∷ [])) (take_more es i x h) ∙ on_more d s (take i es) (slice_index_or es i x)))

-- from the oldest but one on, the same states without the oldest
on_base : (t : List (List ℕ)) (us oldest : List (List (List ℕ))) (es : List Edit) → steps_on (t ∷ (us ++ oldest)) es ≡ steps_on (t ∷ us) es ++ oldest
on_base t us oldest [] = refl
on_base t us oldest (e ∷ es) = on_base (next t e) (t ∷ us) oldest es

settled_tail : (s : List (List ℕ)) (e : Edit) (es : List Edit) → steps_on (next s e ∷ []) es ≡ take (length es + 1) (steps_on (s ∷ []) (e ∷ es))
settled_tail s e es =
    sym (take_at (steps_on (next s e ∷ []) es) (s ∷ []) (length es + 1) (on_count (next s e) es))
    ∙ ap (take (length es + 1)) (sym (on_base (next s e) [] (s ∷ []) es))

pub on_settled : (s : List (List ℕ)) (es : List Edit) (first : Edit) → 0 < length es → first ≡ slice_index_or es 0 first
    → steps_on (next s first ∷ []) (drop 1 es) ≡ take (length es) (steps_on (s ∷ []) es)
on_settled s [] first h f = absurd (omega arith)
on_settled s (e ∷ es) first h f =
    ap (λ (x : Edit). steps_on (next s x ∷ []) es) f ∙ settled_tail s e es ∙ ap (λ (k : ℕ). take k (steps_on (s ∷ []) (e ∷ es))) (add-one (length es))

pub on_undone : (s : List (List ℕ)) (es left : List Edit) (e : Edit) → es ≡ left ++ e ∷ [] → steps_on (s ∷ []) left ≡ drop 1 (steps_on (s ∷ []) es)
on_undone s es left e h = sym (ap (λ (xs : List Edit). drop 1 (steps_on (s ∷ []) xs)) h ∙ ap (drop 1) (on_more s s left e))
