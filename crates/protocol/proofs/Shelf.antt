-- Logs that agree through n; three servers; maps changed at one place.
use Rattle.std.proofs.Common.{◌≡◌, ℕ, suc, ◌<◌, ◌≤◌, Bool, true, ◌&&◌, eqb, ◌⊎◌, [], ◌∷◌, ◌++◌, length, take, sym, refl, ap, ◌∙◌, inl, inr, arith}
use Rattle.std.proofs.lemmas.List.{length_push, get_or_append_left, get_or-take, length-take-le}
use Rattle.std.proofs.lemmas.Bool.{both_ways, cases_Bool, cases_lt, cases_eq, eqb-true, and_parts, and_from, or_cases, cond-true, cond-false, eq-eqb, ne_eqb}
use Rattle.record.specs.declared.entry.Entry.{Entry}
use Rattle.protocol.specs.ServerIds.{ServerId, one, two, three, same, put, number_of}
use Rattle.protocol.specs.State.{blank, Log, at, term_at}
use Rattle.protocol.specs.Elections.{two_of}
use Rattle.protocol.proofs.History.{put_t, put2, Pre}

pub pre_refl : (a : Log) (n : ℕ) → n ≤ length a → Pre n a a
pre_refl a n h = record { left = h; right = h; same = λ i k. refl }

pub pre_sym : {n : ℕ} {a b : Log} → Pre n a b → Pre n b a
pre_sym p = record { left = p.right; right = p.left; same = λ i k. sym (p.same i k) }

pub pre_trans : {n : ℕ} {a b c : Log} → Pre n a b → Pre n b c → Pre n a c
pre_trans p q = record { left = p.left; right = q.right; same = λ i k. p.same i k ∙ q.same i k }

pub pre_less : {m n : ℕ} {a b : Log} → m ≤ n → Pre n a b → Pre m a b
pre_less h p = record { left = omega arith; right = omega arith; same = λ i k. p.same i (omega arith) }

pub pre_none : (a b : Log) → Pre 0 a b
pre_none a b = record { left = omega arith; right = omega arith; same = λ i k. absurd (omega arith) }

pub pre_push : (a : Log) (x : Entry) → Pre (length a) a (a ++ x ∷ [])
pre_push a x = record {
  left = omega arith;
  right = omega (arith, length_push a x);
  same = λ i k. sym (get_or_append_left a (x ∷ []) blank i k);
}

pub pre_take : (a : Log) (n c : ℕ) → n ≤ c → c ≤ length a → Pre n (take c a) a
pre_take a n c h k = record {
  left = omega (arith, length-take-le c a k);
  right = omega arith;
  same = λ i l. get_or-take c a i blank (omega arith);
}

pub pre_more : {n : ℕ} {a b : Log} → Pre n a b → n < length a → n < length b → at a n ≡ at b n → Pre (suc n) a b
pre_more {n} {a} {b} p h k e = record { left = h; right = k; same = go }
  where
    go : (i : ℕ) → i < suc n → at a i ≡ at b i
    go i l = elim (cases_lt i n) [ inl m ↦ p.same i m | inr m ↦ let z : i ≡ n = omega arith in rw z e ]

pub pre_term : {n : ℕ} {a b : Log} → Pre n a b → (i : ℕ) → i < n → term_at a i ≡ term_at b i
pre_term p i h = ap (λ (x : Entry). x.term) (p.same i h)

pub same_from_bool : (i j : ServerId) → same i j ≡ true → i ≡ j
same_from_bool one one e = refl
same_from_bool one two e = cc
same_from_bool one three e = cc
same_from_bool two one e = cc
same_from_bool two two e = refl
same_from_bool two three e = cc
same_from_bool three one e = cc
same_from_bool three two e = cc
same_from_bool three three e = refl

pub same_self : (i : ServerId) → same i i ≡ true
same_self one = refl
same_self two = refl
same_self three = refl

pub cases_id : (i j : ServerId) → (i ≡ j) ⊎ (i ≡ j → ⊥)
cases_id i j = elim (cases_Bool (same i j)) [
  | inl e ↦ inl (same_from_bool i j e)
  | inr e ↦ inr (λ k. both_ways (same i j) e (rw (← k) (same_self i)))
]

pub number_range : (i : ServerId) → (0 < number_of i) × (number_of i < 4)
number_range one = (omega arith, omega arith)
number_range two = (omega arith, omega arith)
number_range three = (omega arith, omega arith)

pub number_inj : (i j : ServerId) → number_of i ≡ number_of j → i ≡ j
number_inj one one e = refl
number_inj one two e = absurd (omega arith)
number_inj one three e = absurd (omega arith)
number_inj two one e = absurd (omega arith)
number_inj two two e = refl
number_inj two three e = absurd (omega arith)
number_inj three one e = absurd (omega arith)
number_inj three two e = absurd (omega arith)
number_inj three three e = refl

-- two pairs of three meet
pub data Meet (a b c d : ServerId) : Type 0 where
  ac : a ≡ c → Meet a b c d
  ad : a ≡ d → Meet a b c d
  bc : b ≡ c → Meet a b c d
  bd : b ≡ d → Meet a b c d

apart_num : {i j : ServerId} → (i ≡ j → ⊥) → number_of i ≡ number_of j → ⊥
apart_num {i} {j} h e = h (number_inj i j e)

pub meet : (a b c d : ServerId) → (a ≡ b → ⊥) → (c ≡ d → ⊥) → Meet a b c d
meet a b c d h k =
    elim (cases_id a c) [
      | inl e ↦ ac e
      | inr m ↦
          elim (cases_id a d) [
            | inl e ↦ ad e
            | inr n ↦
                elim (cases_id b c) [
                  | inl e ↦ bc e
                  | inr o ↦
                      elim (cases_id b d) [
                        | inl e ↦ bd e
                        | inr p ↦
                            absurd (omega (arith, number_range a, number_range b, number_range c, number_range d, apart_num h, apart_num k, apart_num m, apart_num n, apart_num o, apart_num p))
                      ]
                ]
          ]
    ]

-- a map changed at one place: what it holds at i, and elsewhere
pub put_here : {A : Type 0} (f : ServerId → A) (i : ServerId) (x : A) → put f i x i ≡ x
put_here f i x = cond-true (same i i) x (f i) (same_self i)

pub put_there : {A : Type 0} (f : ServerId → A) (i : ServerId) (x : A) (j : ServerId) → (j ≡ i → ⊥) → put f i x j ≡ f j
put_there f i x j h =
    elim (cases_Bool (same j i)) [ inl e ↦ absurd (h (same_from_bool j i e)) | inr e ↦ cond-false (same j i) x (f j) e ]

pub put_all : {A : Type 0} (f : ServerId → A) (i : ServerId) (x : A) (P : ServerId → A → Type 0)
    → P i x → ((j : ServerId) → (j ≡ i → ⊥) → P j (f j)) → (j : ServerId) → P j (put f i x j)
put_all f i x P h k j = elim (cases_id j i) [
  | inl e ↦ rw e (rw (put_here f i x) h)
  | inr n ↦ rw (put_there f i x j n) (k j n)
]

pub put_t_here : {A : Type 0} (f : ℕ → A) (T : ℕ) (x : A) → put_t f T x T ≡ x
put_t_here f T x = cond-true (eqb T T) x (f T) (eq-eqb T T refl)

pub put_t_there : {A : Type 0} (f : ℕ → A) (T : ℕ) (x : A) (U : ℕ) → (U ≡ T → ⊥) → put_t f T x U ≡ f U
put_t_there f T x U h = cond-false (eqb U T) x (f U) (ne_eqb U T h)

pub put_t_all : {A : Type 0} (f : ℕ → A) (T : ℕ) (x : A) (P : ℕ → A → Type 0)
    → P T x → ((U : ℕ) → (U ≡ T → ⊥) → P U (f U)) → (U : ℕ) → P U (put_t f T x U)
put_t_all f T x P h k U = elim (cases_eq U T) [
  | inl e ↦ rw e (rw (put_t_here f T x) h)
  | inr n ↦ rw (put_t_there f T x U n) (k U n)
]

abbrev pub Off : ServerId → ℕ → ServerId → ℕ → Type 0
Off i T j U = (j ≡ i) × (U ≡ T) → ⊥

pub put2_here : {A : Type 0} (f : ServerId → ℕ → A) (i : ServerId) (T : ℕ) (x : A) → put2 f i T x i T ≡ x
put2_here f i T x = cond-true (same i i && eqb T T) x (f i T) (and_from (same i i) (eqb T T) (same_self i) (eq-eqb T T refl))

pub put2_there : {A : Type 0} (f : ServerId → ℕ → A) (i : ServerId) (T : ℕ) (x : A) (j : ServerId) (U : ℕ) → Off i T j U → put2 f i T x j U ≡ f j U
put2_there f i T x j U h = elim (cases_Bool (same j i && eqb U T)) [
  | inl e ↦ absurd (h (same_from_bool j i (and_parts (same j i) (eqb U T) e).0, eqb-true U T (and_parts (same j i) (eqb U T) e).1))
  | inr e ↦ cond-false (same j i && eqb U T) x (f j U) e
]

pub cases_off : (i : ServerId) (T : ℕ) (j : ServerId) (U : ℕ) → ((j ≡ i) × (U ≡ T)) ⊎ Off i T j U
cases_off i T j U = elim (cases_id j i) [
  | inl e ↦ elim (cases_eq U T) [ inl k ↦ inl (e, k) | inr n ↦ inr (λ h. n h.1) ]
  | inr n ↦ inr (λ h. n h.0)
]

pub put2_all : {A : Type 0} (f : ServerId → ℕ → A) (i : ServerId) (T : ℕ) (x : A) (P : ServerId → ℕ → A → Type 0)
    → P i T x → ((j : ServerId) (U : ℕ) → Off i T j U → P j U (f j U)) → (j : ServerId) (U : ℕ) → P j U (put2 f i T x j U)
put2_all f i T x P h k j U = elim (cases_off i T j U) [
  | inl e ↦ rw e.0 (rw e.1 (rw (put2_here f i T x) h))
  | inr n ↦ rw (put2_there f i T x j U n) (k j U n)
]

pub apart12 : one ≡ two → ⊥
apart12 e = let z : ◌≡◌ {A = ℕ} 0 1 = cc in omega arith

pub apart13 : one ≡ three → ⊥
apart13 e = let z : ◌≡◌ {A = ℕ} 0 1 = cc in omega arith

pub apart23 : two ≡ three → ⊥
apart23 e = let z : ◌≡◌ {A = ℕ} 0 1 = cc in omega arith

-- two of which P holds
pub record TwoOf (P : ServerId → Type 0) : Type 0 where
  pub x : ServerId
  pub y : ServerId
  pub apart : x ≡ y → ⊥
  pub hasx : P x
  pub hasy : P y

pub two_of_them : (f : ServerId → Bool) (P : ServerId → Type 0) → ((k : ServerId) → f k ≡ true → P k) → two_of f ≡ true → TwoOf P
two_of_them f P h e = elim (or_cases _ _ e) [
  | inl a ↦ let p = and_parts _ _ a in record { x = one; y = two; apart = apart12; hasx = h one p.0; hasy = h two p.1 }
  | inr b ↦ elim (or_cases _ _ b) [
    | inl a ↦ let p = and_parts _ _ a in record { x = one; y = three; apart = apart13; hasx = h one p.0; hasy = h three p.1 }
    | inr a ↦ let p = and_parts _ _ a in record { x = two; y = three; apart = apart23; hasx = h two p.0; hasy = h three p.1 }
  ]
]
