-- Numbers in bytes and back.
use Rattle.std.proofs.Common.{inl, inr, refl, ◌≡◌, ℕ, ◌+◌, ◌-◌, ◌*◌, ◌/◌, ◌%◌, ◌^◌, ◌<◌, ◌≤◌, List, [], ◌∷◌, ◌++◌, length, get_or, take, drop, ℤ, sym, ap, ◌∙◌, subst, append-nil, arith, length-drop, get_or-drop, w8, w32, Fits, SFits, to_z, of_z}
use Rattle.std.proofs.lemmas.List.{drop-drop, get_or-take, get_or_past, length-take, nil_from_length}
use Rattle.std.proofs.lemmas.Bool.{cases_lt}
use Rattle.std.proofs.lemmas.Int.{of_z-to_z, to_z-of_z}
use Rattle.std.proofs.lemmas.Slice.{between_to_end}
use Rattle.std.proofs.lemmas.Nat.{from_le_bytes-to_le_bytes_2, from_le_bytes-to_le_bytes_4, le_bytes_2, le_bytes_4}
use Rattle.record.specs.Format.{two, four, word}

-- what the bytes of a number say
pub of_two : (n : ℕ) → n < 2 ^ 16 → n % 256 + n / 256 % 256 * 256 ≡ n
of_two n h = from_le_bytes-to_le_bytes_2 n h

pub of_four : (n : ℕ) → n < 2 ^ 32 → n % 256 + n / 256 % 256 * 256 + n / 65536 % 256 * 65536 + n / 16777216 % 256 * 16777216 ≡ n
of_four n h = from_le_bytes-to_le_bytes_4 n h

-- every element is a byte
abbrev pub Bytes : List ℕ → Type 0
Bytes bs = (i : ℕ) → Fits w8 (get_or bs i 0)

byte : (n : ℕ) → Fits w8 n → n < 256
byte n f = omega arith

pub bytes_take : (n : ℕ) (bs : List ℕ) → Bytes bs → Bytes (take n bs)
bytes_take n bs f i =
    elim (cases_lt i n) [
      | inl h ↦ subst (Fits w8) (sym (get_or-take n bs i 0 h)) (f i)
      | inr h ↦ subst (Fits w8) (sym (get_or_past (take n bs) i 0 (omega (arith, length-take n bs)))) (omega arith)
    ]

pub bytes_drop : (k : ℕ) (bs : List ℕ) → Bytes bs → Bytes (drop k bs)
bytes_drop k bs f i = subst (Fits w8) (sym (get_or-drop k bs i 0)) (f (k + i))

-- the number that stands at a place
abbrev pub pair_at : List ℕ → ℕ → ℕ
pair_at bs k = get_or bs (k + 0) 0 + get_or bs (k + 1) 0 * 256

abbrev pub quad_at : List ℕ → ℕ → ℕ
quad_at bs k = get_or bs (k + 0) 0 + get_or bs (k + 1) 0 * 256 + get_or bs (k + 2) 0 * 65536 + get_or bs (k + 3) 0 * 16777216

front_two : (bs : List ℕ) → 2 ≤ length bs → Bytes bs → bs ≡ two (pair_at bs 0) ++ drop 2 bs
unfolding two
front_two [] h f = absurd (omega arith)
front_two (a ∷ []) h f = absurd (omega arith)
front_two (a ∷ b ∷ bs) h f = sym (ap (λ l. l ++ bs) (le_bytes_2 (a ∷ b ∷ []) (pair_at (a ∷ b ∷ bs) 0) refl (λ i. byte _ (bytes_take 2 (a ∷ b ∷ bs) f i)) refl))

front_four : (bs : List ℕ) → 4 ≤ length bs → Bytes bs → bs ≡ four (quad_at bs 0) ++ drop 4 bs
unfolding four
front_four [] h f = absurd (omega arith)
front_four (a ∷ []) h f = absurd (omega arith)
front_four (a ∷ b ∷ []) h f = absurd (omega arith)
front_four (a ∷ b ∷ c ∷ []) h f = absurd (omega arith)
front_four (a ∷ b ∷ c ∷ d ∷ bs) h f = sym (ap (λ l. l ++ bs) (le_bytes_4 (a ∷ b ∷ c ∷ d ∷ []) (quad_at (a ∷ b ∷ c ∷ d ∷ bs) 0) refl (λ i. byte _ (bytes_take 4 (a ∷ b ∷ c ∷ d ∷ bs) f i)) refl))

module _ (bs : List ℕ) (f : Bytes bs) (k : ℕ) where
  at : (i : ℕ) → get_or (drop k bs) i 0 ≡ get_or bs (k + i) 0
  at i = get_or-drop k bs i 0

  pub two_at : (n : ℕ) → k + 2 ≤ length bs → n ≡ pair_at bs k → drop k bs ≡ two n ++ drop (k + 2) bs
  two_at n h p =
      let same : pair_at (drop k bs) 0 ≡ n = (λ i. at 0 i + at 1 i * 256) ∙ sym p in
      front_two (drop k bs) (omega (arith, length-drop k bs)) (bytes_drop k bs f) ∙ (λ i. two (same i) ++ drop-drop 2 k bs i)

  pub four_at_bytes : (n : ℕ) → k + 4 ≤ length bs → n ≡ quad_at bs k → drop k bs ≡ four n ++ drop (k + 4) bs
  four_at_bytes n h p =
      let same : quad_at (drop k bs) 0 ≡ n = (λ i. at 0 i + at 1 i * 256 + at 2 i * 65536 + at 3 i * 16777216) ∙ sym p in
      front_four (drop k bs) (omega (arith, length-drop k bs)) (bytes_drop k bs f) ∙ (λ i. four (same i) ++ drop-drop 4 k bs i)

  pub word_at : (z : ℤ) → k + 4 ≤ length bs → z ≡ to_z w32 (quad_at bs k) → drop k bs ≡ word z ++ drop (k + 4) bs
  unfolding word
  word_at z h p =
      let small : quad_at bs k < 2 ^ 32 = omega (arith, byte _ (f (k + 0)), byte _ (f (k + 1)), byte _ (f (k + 2)), byte _ (f (k + 3))) in
      four_at_bytes (of_z w32 z) h (ap (of_z w32) p ∙ of_z-to_z w32 (quad_at bs k) small)

pub rest_is : (bs : List ℕ) (k : ℕ) → take (length bs - k) (drop k bs) ≡ drop k bs
rest_is bs k = between_to_end bs k (length bs) (omega arith)

ends : (bs xs : List ℕ) (k : ℕ) → length bs ≡ k → xs ++ drop k bs ≡ xs
ends bs xs k h = ap (λ l. xs ++ l) (nil_from_length (drop k bs) (omega (arith, length-drop k bs))) ∙ append-nil xs

-- what the code reads: a head, and the fields of each kind
pub head_law : (bs : List ℕ) (l k : ℕ) → 4 ≤ length bs → Bytes bs → l ≡ pair_at bs 0 → k ≡ pair_at bs 2 → bs ≡ two l ++ (two k ++ take (length bs - 4) (drop 4 bs))
head_law bs l k h f p q =
    two_at bs f 0 l (omega arith) p
    ∙ ap (λ t. two l ++ t) (two_at bs f 2 k (omega arith) q ∙ ap (λ t. two k ++ t) (sym (rest_is bs 4)))

pub ballot_law : (bs : List ℕ) (t v : ℕ) → length bs ≡ 6 → Bytes bs → t ≡ quad_at bs 0 → v ≡ pair_at bs 4 → bs ≡ four t ++ two v
ballot_law bs t v h f p q =
    four_at_bytes bs f 0 t (omega arith) p ∙ ap (λ l. four t ++ l) (two_at bs f 4 v (omega arith) q ∙ ends bs (two v) 6 h)

pub edit_law : (bs : List ℕ) (k : ℕ) (row size a q : ℤ) → length bs ≡ 18 → Bytes bs → k ≡ pair_at bs 0
    → row ≡ to_z w32 (quad_at bs 2) → size ≡ to_z w32 (quad_at bs 6) → a ≡ to_z w32 (quad_at bs 10) → q ≡ to_z w32 (quad_at bs 14)
    → bs ≡ two k ++ (word row ++ (word size ++ (word a ++ word q)))
edit_law bs k row size a q h f pk pr ps pa pq =
    let eq = word_at bs f 14 q (omega arith) pq ∙ ends bs (word q) 18 h in
    let ea = word_at bs f 10 a (omega arith) pa ∙ ap (λ l. word a ++ l) eq in
    let es = word_at bs f 6 size (omega arith) ps ∙ ap (λ l. word size ++ l) ea in
    let er = word_at bs f 2 row (omega arith) pr ∙ ap (λ l. word row ++ l) es in
    two_at bs f 0 k (omega arith) pk ∙ ap (λ l. two k ++ l) er

pub entry_law : (bs edit : List ℕ) (t : ℕ) → 4 ≤ length bs → Bytes bs → t ≡ quad_at bs 0 → take (length bs - 4) (drop 4 bs) ≡ edit → bs ≡ four t ++ edit
entry_law bs edit t h f p e = four_at_bytes bs f 0 t h p ∙ ap (λ l. four t ++ l) (sym (rest_is bs 4) ∙ e)

-- a signed value shows as `to_z w32 (of_z w32 z)` where it was stored
pub stored : (z : ℤ) → SFits w32 z → four (of_z w32 (to_z w32 (of_z w32 z))) ≡ word z
unfolding word
stored z f = ap (λ y. four (of_z w32 y)) (to_z-of_z w32 z f)
