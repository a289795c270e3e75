-- Each machine has the states of the last applied edits, newest first.
use Rattle.std.proofs.Common.{◌≡◌, ℕ, zero, suc, ◌+◌, ◌-◌, ◌<◌, ◌≤◌, min, Bool, true, false, not, ◌&&◌, ltb, List, [], ◌∷◌, map, length, take, drop, fold, sym, refl, ap, ◌∙◌, subst, inl, inr, add-one, arith, take_all, take-take}
use Rattle.std.proofs.lemmas.List.{length-take-le}
use Rattle.std.proofs.lemmas.List.Sums.{fold_more}
use Rattle.std.proofs.lemmas.Bool.{cases_lt, cond-true, cond-false, lt-ltb, le-ltb, cases_Bool, both_ways}
use Rattle.sheet.specs.declared.types.Edit.{Edit}
use Rattle.record.specs.declared.entry.Entry.{Entry}
use Rattle.machine.specs.States.{newest, settled, undone_times}
use Rattle.machine.proofs.Several.{times_is}
use Rattle.protocol.specs.State.{blank, Log, at, Server, Machine}
use Rattle.protocol.specs.Rules.{settled_times, moved}
use Rattle.protocol.specs.Promises.{applied_edits, through}
use Rattle.protocol.proofs.History.{Pre}
use Rattle.protocol.proofs.Shelf.{pre_less}
use Rattle.protocol.proofs.Logs.{take_same}
use Rattle.protocol.proofs.Moves.{Falls, Moves, falls, sleeps, wakes, rises}

-- the opening state through the edits of l
abbrev pub up_to : {X : Type 0} → Machine X → Log → X
up_to M l = fold (λ s (e : Entry). M.next s e.edit) M.opening l

-- settled as often as that, where a state is left, drops as many of the oldest
settled_is : {X : Type 0} (k : ℕ) (xs : List X) → k < length xs → settled_times k xs ≡ take (length xs - k) xs
settled_is zero xs h = sym (take_all (length xs - 0) xs (omega arith))
settled_is (suc k) xs h =
    let l : length (take (length xs - k) xs) ≡ length xs - k = length-take-le (length xs - k) xs (omega arith) in
    let b : ltb 1 (length (take (length xs - k) xs)) ≡ true = lt-ltb 1 (length (take (length xs - k) xs)) (omega arith) in
    let z : length (take (length xs - k) xs) - 1 ≡ length xs - suc k = omega arith in
    ap settled (settled_is k xs (omega arith)) ∙ (cond-true _ _ _ b ∙ (ap (λ n. take n (take (length xs - k) xs)) z ∙ take-take (length xs - suc k) (length xs - k) xs (omega arith)))

-- the states after the first a edits of l, and after each of the o before
unfoldable pub states : {X : Type 0} → Machine X → Log → ℕ → ℕ → List X
states M l a zero = up_to M (take a l) ∷ []
states M l a (suc o) = up_to M (take a l) ∷ states M l (a - 1) o

states_head : {X : Type 0} (M : Machine X) (l : Log) (a o : ℕ) (d : X) → newest d (states M l a o) ≡ up_to M (take a l)
unfolding states
states_head M l a zero d = refl
states_head M l a (suc o) d = refl

states_take : {X : Type 0} (M : Machine X) (l : Log) (a o p : ℕ) → p ≤ o → take (suc p) (states M l a o) ≡ states M l a p
unfolding states
states_take M l a zero zero h = refl
states_take M l a zero (suc p) h = absurd (omega arith)
states_take M l a (suc o) zero h = refl
states_take M l a (suc o) (suc p) h = ap (λ r. up_to M (take a l) ∷ r) (states_take M l (a - 1) o p (omega arith))

states_drop : {X : Type 0} (M : Machine X) (l : Log) (k a o : ℕ) → k ≤ o → drop k (states M l a o) ≡ states M l (a - k) (o - k)
unfolding states
states_drop M l zero a o h = let x : a - 0 ≡ a = omega arith in let y : o - 0 ≡ o = omega arith in rw (x, y)
states_drop M l (suc k) a zero h = absurd (omega arith)
states_drop M l (suc k) a (suc o) h =
    let x : a - 1 - k ≡ a - suc k = omega arith in
    let y : o - k ≡ suc o - suc k = omega arith in
    states_drop M l k (a - 1) o (omega arith) ∙ rw (x, y)

states_pre : {X : Type 0} (M : Machine X) (l m : Log) (a o : ℕ) → Pre a l m → states M l a o ≡ states M m a o
unfolding states
states_pre M l m a zero p = ap (λ x. up_to M x ∷ []) (take_same p)
states_pre M l m a (suc o) p =
    let e = take_same p in
    let r = states_pre M l m (a - 1) o (pre_less (omega arith) p) in cc

states_more : {X : Type 0} (M : Machine X) (l : Log) (a o : ℕ) → a < length l
    → M.next (up_to M (take a l)) (at l a).edit ∷ states M l a o ≡ states M l (suc a) (suc o)
unfolding states
states_more M l a o h =
    let e = rw add-one at (fold_more (λ s (x : Entry). M.next s x.edit) M.opening l a blank h) in
    let k : suc a - 1 ≡ a = omega arith in
    rw (k, e)

states_none : {X : Type 0} (M : Machine X) (l : Log) → states M l 0 0 ≡ M.opening ∷ []
unfolding states
states_none M l = refl

pub record StatesOk {X : Type 0} (M : Machine X) (s : Server) (ms : List X) : Type 0 where
  pub is : ms ≡ states M s.log s.applied (s.applied - s.commit)
  pub down : s.up ≡ false → s.applied ≡ 0
  pub few : s.applied ≤ s.commit + 16

pub blank_ok : {X : Type 0} (M : Machine X) (s : Server) → s.applied ≡ 0 → StatesOk M s (M.opening ∷ [])
blank_ok M s a =
    let z : s.applied - s.commit ≡ 0 = omega arith in
    record { is = rw (z, a) (sym (states_none M s.log)); down = λ _. a; few = omega arith }

states_length : {X : Type 0} (M : Machine X) (l : Log) (a o : ℕ) → length (states M l a o) ≡ suc o
unfolding states
states_length M l a zero = refl
states_length M l a (suc o) = ap suc (states_length M l (a - 1) o)

-- all but the newest p and one are settled
states_settled : {X : Type 0} (M : Machine X) (l : Log) (a o p n : ℕ) → p ≤ o → n ≡ o - p → settled_times n (states M l a o) ≡ states M l a p
states_settled M l a o p n h e =
    let z : length (states M l a o) - n ≡ suc p = omega (arith, states_length M l a o) in
    settled_is n (states M l a o) (omega (arith, states_length M l a o)) ∙ (ap (λ k. take k (states M l a o)) z ∙ states_take M l a o p h)

not_both : (b : Bool) → (b && not b) ≡ false
not_both true = refl
not_both false = refl

-- the machine of a server that does not stop and applies nothing more
moved_back : {X : Type 0} (M : Machine X) (s s' : Server) (ms : List X) → (s.up && not s'.up) ≡ false → s'.applied ≤ s.applied
    → moved M s s' ms ≡ settled_times (min s'.applied s'.commit - min s.applied s.commit) (undone_times (s.applied - s'.applied) ms)
moved_back M s s' ms u l = cond-false (s.up && not s'.up) _ _ u
    ∙ ap (settled_times (min s'.applied s'.commit - min s.applied s.commit)) (cond-false (ltb s.applied s'.applied) _ _ (le-ltb _ _ l))

moved_falls : {X : Type 0} (M : Machine X) (s s' : Server) (ms : List X) → Falls s s' → StatesOk M s ms → StatesOk M s' (moved M s s' ms)
moved_falls M s s' ms f o =
    let a = s.applied in
    let a' = s'.applied in
    let c = s.commit in
    let k : a - a' ≤ a - c = elim (cases_lt a' a) [ inl h ↦ omega (arith, f.back h) | inr h ↦ omega arith ] in
    let e1 = states_drop M s.log (a - a') a (a - c) k in
    let x : a - (a - a') ≡ a' = omega (arith, f.less) in
    let len : length ms ≡ suc (a - c) = ap (λ (x : List _). length x) o.is ∙ states_length M s.log a (a - c) in
    let e2 : undone_times (a - a') ms ≡ states M s.log a' (a - c - (a - a')) = times_is (a - a') ms (omega arith) ∙ (ap (drop (a - a')) o.is ∙ (e1 ∙ ap (λ n. states M s.log n (a - c - (a - a'))) x)) in
    let n : min a' s'.commit - min a c ≡ a - c - (a - a') - (a' - s'.commit) = elim (cases_lt a' a) [ inl h ↦ omega (arith, f.back h, f.commit) | inr h ↦ omega (arith, f.less, f.commit) ] in
    let e3 = states_settled M s.log a' (a - c - (a - a')) (a' - s'.commit) _ (omega (arith, f.less, f.commit)) n in
    let u : (s.up && not s'.up) ≡ false = ap (λ b. s.up && not b) f.up ∙ not_both s.up in
    record {
      is = moved_back M s s' ms u f.less ∙ (ap (settled_times (min a' s'.commit - min a c)) e2 ∙ (e3 ∙ states_pre M s.log s'.log a' (a' - s'.commit) f.pre));
      down = λ d. let z = o.down (sym f.up ∙ d) in omega (arith, f.less);
      few = omega (arith, f.less, f.commit, o.few);
    }

-- a server with nothing applied, before and after, that does not stop
moved_idle : {X : Type 0} (M : Machine X) (s s' : Server) (ms : List X) → (s.up && not s'.up) ≡ false → s.applied ≡ 0 → s'.applied ≡ 0 → StatesOk M s ms → StatesOk M s' (moved M s s' ms)
moved_idle M s s' ms u z z' o =
    let c : s.applied - s.commit ≡ 0 = omega arith in
    let d : s.applied - s'.applied ≡ 0 = omega arith in
    let n : min s'.applied s'.commit - min s.applied s.commit ≡ 0 = omega arith in
    let e : ms ≡ M.opening ∷ [] = o.is ∙ (rw (c, z) (states_none M s.log)) in
    let b : moved M s s' ms ≡ M.opening ∷ [] = moved_back M s s' ms u (omega arith) ∙ rw (n, d, e) refl in
    subst (StatesOk M s') (sym b) (blank_ok M s' z')

moved_rises : {X : Type 0} (M : Machine X) (s s' : Server) (ms : List X) → s'.up ≡ true → s.up ≡ true → s'.applied ≡ suc s.applied → s'.log ≡ s.log → s'.commit ≡ s.commit
    → s.applied < s.commit + 16 → s'.applied ≤ length s'.log → StatesOk M s ms → StatesOk M s' (moved M s s' ms)
moved_rises M s s' ms u v ap' l c few w o =
    let a = s.applied in
    let h : a < length s.log = omega (arith, ap (λ (x : Log). length x) l) in
    let top : newest M.opening ms ≡ up_to M (take a s.log) = ap (λ x. newest M.opening x) o.is ∙ states_head M s.log a (a - s.commit) M.opening in
    let e : M.next (newest M.opening ms) (at s'.log a).edit ∷ ms ≡ states M s.log (suc a) (suc (a - s.commit)) =
    rw (top, l) (ap (λ x. M.next (up_to M (take a s.log)) (at s.log a).edit ∷ x) o.is ∙ states_more M s.log a (a - s.commit) h) in
    let len : length ms ≡ suc (a - s.commit) = ap (λ (x : List _). length x) o.is ∙ states_length M s.log a (a - s.commit) in
    let room : ltb (length ms) 17 ≡ true = lt-ltb _ _ (omega arith) in
    let n : min s'.applied s'.commit - min a s.commit ≡ suc (a - s.commit) - (s'.applied - s'.commit) = omega arith in
    let t = states_settled M s.log (suc a) (suc (a - s.commit)) (s'.applied - s'.commit) _ (omega arith) n in
    let q : (s.up && not s'.up) ≡ false = rw (u, v) refl in
    record {
      is = cond-false (s.up && not s'.up) _ _ q
          ∙ (ap (settled_times (min s'.applied s'.commit - min a s.commit)) (cond-true (ltb a s'.applied) _ _ (lt-ltb _ _ (omega arith)) ∙ (cond-true (ltb (length ms) 17) _ _ room ∙ e))
          ∙ (t ∙ rw (l, ap') refl));
      down = λ d. absurd (both_ways s'.up d u);
      few = omega arith;
    }

pub moved_ok : {X : Type 0} (M : Machine X) (s s' : Server) (ms : List X) → Moves s s' → s'.applied ≤ length s'.log → StatesOk M s ms → StatesOk M s' (moved M s s' ms)
moved_ok M s s' ms (falls f) w o = moved_falls M s s' ms f o
moved_ok M s s' ms (sleeps d a) w o = elim (cases_Bool s.up) [
  | inl u ↦ subst (StatesOk M s') (sym (cond-true (s.up && not s'.up) _ _ (rw (u, d) refl))) (blank_ok M s' a)
  | inr u ↦ moved_idle M s s' ms (rw u refl) (o.down u) a o
]
moved_ok M s s' ms (wakes d a l) w o = moved_idle M s s' ms (rw d refl) (o.down d) (a ∙ o.down d) o
moved_ok M s s' ms (rises d b a l c few) w o = moved_rises M s s' ms d b a l c few w o

folded_map : {X : Type 0} (next : X → Edit → X) (x : X) (l : Log) → fold next x (map (λ (e : Entry). e.edit) l) ≡ fold (λ s (e : Entry). next s e.edit) x l
folded_map next x [] = refl
folded_map next x (e ∷ l) = folded_map next (next x e.edit) l

pub newest_state : {X : Type 0} (M : Machine X) (s : Server) (ms : List X) → StatesOk M s ms → newest M.opening ms ≡ through M.next M.opening (applied_edits s)
newest_state M s ms o = ap (λ x. newest M.opening x) o.is ∙ (states_head M s.log s.applied _ M.opening ∙ sym (folded_map M.next M.opening (take s.applied s.log)))

pub open_count : {X : Type 0} (M : Machine X) (s : Server) (ms : List X) → StatesOk M s ms → (length ms ≡ suc (s.applied - s.commit)) × (s.applied ≤ s.commit + 16)
open_count M s ms o = (ap (λ (x : List _). length x) o.is ∙ states_length M s.log s.applied (s.applied - s.commit), o.few)
