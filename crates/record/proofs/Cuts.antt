-- A record that was taken apart into its head, its fields and what follows; and what is wrong with it.
use Rattle.std.proofs.Common.{◌≡◌, ℕ, ◌+◌, ◌^◌, ◌<◌, ◌≤◌, false, ◌||◌, ltb, ◌⊎◌, List, ◌++◌, length, Some, sym, ap, ◌∙◌, inl, inr, arith, length-append}
use Rattle.std.proofs.lemmas.Bool.{lt-ltb, le-ltb, eq-eqb, ne_eqb, or_left, or_right, or_from}
use Rattle.record.specs.declared.entry.Entry.{Entry}
use Rattle.record.specs.declared.kinds.Ballot.{Ballot}
use Rattle.record.specs.declared.kinds.Record.TheVariants.{Opening, Logged}
use Rattle.record.specs.declared.fault.RecordFault.TheVariants.{Field, WrongLength, UnknownKind}
use Rattle.record.specs.Format.{two, four, word, ballot_fields, entry_fields, encode, length_in, kind_in, fault_at}
use Rattle.record.proofs.Bytes.{of_two}

-- what the head bytes say
pub head_says : (bs rest : List ℕ) (l k : ℕ) → bs ≡ two l ++ (two k ++ rest) → l < 2 ^ 16 → k < 2 ^ 16 → (length_in bs ≡ l) × (kind_in bs ≡ k) × (length bs ≡ 4 + length rest)
unfolding two
head_says bs rest l k e hl hk = (ap length_in e ∙ of_two l hl, ap kind_in e ∙ of_two k hk, ap length e ∙ omega arith)

pub record Cut (bs fields after : List ℕ) (k : ℕ) : Type 0 where
  pub len_in : length_in bs ≡ length fields
  pub kind_in_record : kind_in bs ≡ k
  pub long : 4 + length_in bs ≤ length bs
  pub whole : bs ≡ two (length fields) ++ (two k ++ (fields ++ after))

pub cut : (bs rest fields after : List ℕ) (l k : ℕ) → bs ≡ two l ++ (two k ++ rest) → l < 2 ^ 16 → k < 2 ^ 16 → rest ≡ fields ++ after → length fields ≡ l → Cut bs fields after k
cut bs rest fields after l k e hl hk s n =
    let h = head_says bs rest l k e hl hk in
    record {
      len_in = h.0 ∙ sym n;
      kind_in_record = h.1;
      long = omega (arith, h.0, h.2, ap length s, length-append fields after);
      whole = e ∙ (λ i. two (sym n i) ++ (two k ++ s i));
    }

pub whole_ballot : (bs fields after : List ℕ) (k : ℕ) (b : Ballot) → Cut bs fields after k → k ≡ 1 → fields ≡ ballot_fields b → bs ≡ encode (Opening b) ++ after
unfolding encode two four
whole_ballot bs fields after k b c h e = c.whole ∙ (λ i. two (length (e i)) ++ (two (h i) ++ (e i ++ after)))

pub whole_entry : (bs fields after : List ℕ) (k : ℕ) (x : Entry) → Cut bs fields after k → k ≡ 2 → fields ≡ entry_fields x → bs ≡ encode (Logged x) ++ after
unfolding encode two four word
whole_entry bs fields after k x c h e = c.whole ∙ (λ i. two (length (e i)) ++ (two (h i) ++ (e i ++ after)))

pub short : (bs : List ℕ) (off : ℕ) → (length bs < 4) ⊎ (length bs < 4 + length_in bs) → fault_at off bs ≡ Some (Field (record { offset = off }))
unfolding fault_at
short bs off (inl h) = simp (or_left (ltb (length bs) 4) (ltb (length bs) (4 + length_in bs)) (lt-ltb _ _ h))
short bs off (inr h) = simp (or_right (ltb (length bs) 4) (ltb (length bs) (4 + length_in bs)) (lt-ltb _ _ h))

pub enough : (bs : List ℕ) → 4 + length_in bs ≤ length bs → (ltb (length bs) 4 || ltb (length bs) (4 + length_in bs)) ≡ false
enough bs h = or_from _ _ (le-ltb (length bs) 4 (omega arith)) (le-ltb (length bs) (4 + length_in bs) h)

pub wrong_ballot : (bs fields after : List ℕ) (k off : ℕ) → Cut bs fields after k → k ≡ 1 → (length fields ≡ 6 → ⊥) → fault_at off bs ≡ Some (WrongLength off)
unfolding fault_at
wrong_ballot bs fields after k off c h n =
    simp (enough bs c.long, eq-eqb (kind_in bs) 1 (c.kind_in_record ∙ h), ne_eqb (length_in bs) 6 (λ e. n (sym c.len_in ∙ e)))

pub wrong_entry : (bs fields after : List ℕ) (k off : ℕ) → Cut bs fields after k → k ≡ 2 → (length fields ≡ 22 → ⊥) → fault_at off bs ≡ Some (WrongLength off)
unfolding fault_at
wrong_entry bs fields after k off c h n =
    simp (enough bs c.long, ne_eqb (kind_in bs) 1 (omega (arith, c.kind_in_record)), eq-eqb (kind_in bs) 2 (c.kind_in_record ∙ h), ne_eqb (length_in bs) 22 (λ e. n (sym c.len_in ∙ e)))

pub wrong_kind : (bs fields after : List ℕ) (k off : ℕ) → Cut bs fields after k → (k ≡ 1 → ⊥) → (k ≡ 2 → ⊥) → fault_at off bs ≡ Some (UnknownKind off)
unfolding fault_at
wrong_kind bs fields after k off c h n =
    simp (enough bs c.long, ne_eqb (kind_in bs) 1 (λ e. h (sym c.kind_in_record ∙ e)), ne_eqb (kind_in bs) 2 (λ e. n (sym c.kind_in_record ∙ e)))
