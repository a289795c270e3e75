-- What a buffer holds after one more record.
use Rattle.std.proofs.Common.{◌≡◌, ℕ, ◌+◌, ◌*◌, ◌<◌, ◌≤◌, true, false, leb, List, [], ◌∷◌, ◌++◌, length, get_or, take, drop, Ok, Err, sym, refl, ap, ◌∙◌, append_assoc, append-nil, arith, length-append, length-take-le}
use Rattle.std.proofs.lemmas.List.{drop-drop, take_at, drop_at, take_more, take_all}
use Rattle.record.specs.declared.entry.Entry.{Entry}
use Rattle.record.specs.declared.kinds.Ballot.{Ballot}
use Rattle.record.specs.declared.kinds.Record.TheVariants.{Opening, Logged}
use Rattle.record.specs.Format.{two, four, encode}
use Rattle.std.proofs.lemmas.Bool.{le-leb, lt-leb, cond-true, cond-false, and_from, and_left, and_right}
use Rattle.image.specs.declared.fault.WriteFault.TheVariants.{OutOfRange, TooShort}
use Rattle.image.specs.Rules.{in_range}
use Rattle.image.specs.Images.{entries_in, image}
use Rattle.image.specs.Writing.{write_answer, write_after}
use Rattle.image.proofs.Reading.{length_entry, length_opening}

pub entries_more : (es : List Entry) (e : Entry) → entries_in (es ++ (e ∷ [])) ≡ entries_in es ++ encode (Logged e)
entries_more [] e = append-nil (encode (Logged e))
entries_more (x ∷ es) e = ap (λ l. encode (Logged x) ++ l) (entries_more es e) ∙ sym (append_assoc (encode (Logged x)) (entries_in es) (encode (Logged e)))

put_step : (b cur out front x : List ℕ) (at : ℕ) → cur ≡ front ++ drop at b → length front ≡ at → out ≡ take at cur ++ (x ++ drop (at + 26) cur) → out ≡ (front ++ x) ++ drop (at + 26) b
put_step b cur out front x at h n o =
    let t : take at cur ≡ front = ap (take at) h ∙ take_at front (drop at b) at n in
    let d : drop (at + 26) cur ≡ drop (at + 26) b = sym (drop-drop 26 at cur) ∙ ap (drop 26) (ap (drop at) h ∙ drop_at front (drop at b) at n) ∙ drop-drop 26 at b in
    o ∙ (λ i. t i ++ (x ++ d i)) ∙ sym (append_assoc front x (drop (at + 26) b))

length_entries : (es : List Entry) → length (entries_in es) ≡ 26 * length es
length_entries [] = refl
length_entries (e ∷ es) = omega (arith, length_entries es, length_entry e (entries_in es))

pub length_image : (b : Ballot) (es : List Entry) → length (image b es) ≡ 10 + 26 * length es
length_image b es = omega (arith, length_entries es, length_opening b (entries_in es))

entries_next : (es : List Entry) (i : ℕ) (d : Entry) → i < length es → entries_in (take (i + 1) es) ≡ entries_in (take i es) ++ encode (Logged (get_or es i d))
entries_next es i d h = ap entries_in (take_more es i d h) ∙ entries_more (take i es) (get_or es i d)

pub put_again : (b cur out : List ℕ) (es : List Entry) (i : ℕ) (d : Entry) → 10 + 26 * length es ≤ length b → i < length es → cur ≡ (take 10 b ++ entries_in (take i es)) ++ drop (10 + 26 * i) b → out ≡ take (10 + 26 * i) cur ++ (encode (Logged (get_or es i d)) ++ drop (10 + 26 * i + 26) cur) → out ≡ (take 10 b ++ entries_in (take (i + 1) es)) ++ drop (10 + 26 * (i + 1)) b
put_again b cur out es i d long h inv o =
    let at : ℕ = 10 + 26 * i in
    let next : at + 26 ≡ 10 + 26 * (i + 1) = omega arith in
    let n : length (take 10 b ++ entries_in (take i es)) ≡ at = omega (arith, length-append (take 10 b) (entries_in (take i es)), length-take-le 10 b (omega arith), length_entries (take i es), length-take-le i es (omega arith)) in
    put_step b cur out (take 10 b ++ entries_in (take i es)) (encode (Logged (get_or es i d))) at inv n o
    ∙ (λ j. (append_assoc (take 10 b) (entries_in (take i es)) (encode (Logged (get_or es i d))) ∙ ap (λ l. take 10 b ++ l) (sym (entries_next es i d h))) j ++ drop (next j) b)

pub write_law : (b mid ys out : List ℕ) (f : Ballot) (es : List Entry) → mid ≡ ys ++ drop 10 b → ys ≡ encode (Opening f) → out ≡ (take 10 mid ++ entries_in es) ++ drop (10 + 26 * length es) mid → out ≡ image f es ++ drop (length (image f es)) b
unfolding encode two four
write_law b mid ys out f es m y o =
    let k : ℕ = 26 * length es in
    let w : mid ≡ encode (Opening f) ++ drop 10 b = m ∙ ap (λ l. l ++ drop 10 b) y in
    let t : take 10 mid ≡ encode (Opening f) = ap (take 10) w ∙ take_at (encode (Opening f)) (drop 10 b) 10 refl in
    let d : drop (10 + k) mid ≡ drop (10 + k) b = sym (drop-drop k 10 mid) ∙ ap (drop k) (ap (drop 10) w ∙ drop_at (encode (Opening f)) (drop 10 b) 10 refl) ∙ drop-drop k 10 b in
    o ∙ (λ i. (t i ++ entries_in es) ++ d i) ∙ ap (λ n. image f es ++ drop n b) (sym (length_image f es))

-- what writing answers and leaves, by its three ways
module _ (b : Ballot) (es : List Entry) (buffer : List ℕ) where
  pub unfit_law : in_range b es ≡ false → (Err OutOfRange ≡ write_answer b es (length buffer)) × (buffer ≡ write_after b es buffer)
  unfit_law r = (sym (cond-false _ _ _ r), sym (cond-false _ _ _ (and_left _ _ r)))

  pub short_law : in_range b es ≡ true → length buffer < length (image b es) → (Err TooShort ≡ write_answer b es (length buffer)) × (buffer ≡ write_after b es buffer)
  short_law r h =
      let t : leb (length (image b es)) (length buffer) ≡ false = lt-leb _ _ h in
      (sym (cond-true _ _ _ r ∙ cond-false _ _ _ t), sym (cond-false _ _ _ (and_right (in_range b es) _ t)))

  pub written_law : in_range b es ≡ true → length (image b es) ≤ length buffer → (Ok (length (image b es)) ≡ write_answer b es (length buffer)) × (image b es ++ drop (length (image b es)) buffer ≡ write_after b es buffer)
  written_law r h =
      let t : leb (length (image b es)) (length buffer) ≡ true = le-leb _ _ h in
      (sym (cond-true _ _ _ r ∙ cond-true _ _ _ t), sym (cond-true _ _ _ (and_from _ _ r t)))
