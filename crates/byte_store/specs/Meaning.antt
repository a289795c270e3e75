-- What the bytes say, place by place and as a whole.
use Rattle.std.specs.Prelude.{◌≡◌, ℕ, zero, suc, ◌+◌, ◌*◌, ◌<◌, ◌≤◌, List, [], ◌∷◌, ◌++◌, length, take, drop, slice_index_or}
use Rattle.std.proofs.Common.{sym, ap, ◌∙◌, append-nil, append_assoc, add-one, arith}
use Rattle.std.proofs.lemmas.List.FromFn.{length-map-range_with_len, get_or-map-range_with_len, take-map-range_with_len, map-range_with_len_more, fill_by_all}
use Rattle.std.proofs.lemmas.List.{take-append-drop, take-take, drop-take}
use Rattle.record.specs.declared.entry.Entry.{Entry}
use Rattle.record.specs.declared.kinds.Record.TheVariants.{Opening, Logged}
use Rattle.record.specs.Format.{encode}
use Rattle.image.specs.Images.{image}
use Rattle.image.specs.Images as images
use Rattle.image.proofs.Writes as images-written
use Rattle.byte_store.specs.Bytes.{opening_part, place_part, ballot_in, entry_in, entries_in, Opened, Placed}

abbrev entry_of : List ℕ → ℕ → Entry
entry_of bs k = entry_in (place_part k bs)

pub length_entries : (n : ℕ) (bs : List ℕ) → length (entries_in n bs) ≡ n
unfolding entries_in
length_entries n bs = length-map-range_with_len (entry_of bs) 0 n

pub entry_at : (n : ℕ) (bs : List ℕ) (k : ℕ) (d : Entry) → k < n → slice_index_or (entries_in n bs) k d ≡ entry_in (place_part k bs)
unfolding entries_in
entry_at n bs k d h = get_or-map-range_with_len (entry_of bs) 0 n k k d h (omega arith)

pub take_entries : (n : ℕ) (bs : List ℕ) (k : ℕ) → k ≤ n → take k (entries_in n bs) ≡ entries_in k bs
unfolding entries_in
take_entries n bs k h = take-map-range_with_len (entry_of bs) 0 n k h

pub entries_more : (n : ℕ) (bs : List ℕ) → entries_in (n + 1) bs ≡ entries_in n bs ++ entry_in (place_part n bs) ∷ []
unfolding entries_in
entries_more n bs = map-range_with_len_more (entry_of bs) 0 n n (omega arith)

-- the same bytes in the first places say the same entries
pub same_entries : (n : ℕ) (bs out : List ℕ) → ((k : ℕ) → k < n → place_part k out ≡ place_part k bs) → entries_in n out ≡ entries_in n bs
unfolding entries_in
same_entries n bs out h =
    fill_by_all (entry_of bs) (entries_in n out) n (entry_of bs 0) (length_entries n out)
    (λ k l. entry_at n out k (entry_of bs 0) l ∙ ap entry_in (h k l))

take_add : (bs : List ℕ) (i j : ℕ) → take (i + j) bs ≡ take i bs ++ take j (drop i bs)
take_add bs i j =
    sym (take-append-drop i (take (i + j) bs)) ∙ (λ t. take-take i (i + j) bs (omega arith) t ++ drop-take i j bs t)

-- the bytes in use are the image of what they say
pub image_said : (n : ℕ) (bs : List ℕ) → Opened bs → Placed n bs → take (10 + 26 * n) bs ≡ image (ballot_in (opening_part bs)) (entries_in n bs)
unfolding opening_part place_part entries_in
image_said zero bs o p = o ∙ sym (append-nil (encode (Opening (ballot_in (opening_part bs)))))
image_said (suc n) bs o p =
    let b = ballot_in (opening_part bs) in
    ap (λ k. take k bs) (let s : 10 + 26 * suc n ≡ 10 + 26 * n + 26 = omega arith in s)
    ∙ take_add bs (10 + 26 * n) 26
    ∙ (λ i. image_said n bs o (λ k h. p k (omega arith)) i ++ p n (omega arith) i)
    ∙ append_assoc (encode (Opening b)) (images.entries_in (entries_in n bs)) (encode (Logged (entry_of bs n)))
    ∙ ap (λ l. encode (Opening b) ++ l) (sym (images-written.entries_more (entries_in n bs) (entry_of bs n)))
    ∙ ap (image b) (sym (entries_more n bs) ∙ ap (λ k. entries_in k bs) (add-one n))
