-- One step after another: what is reached from a history, and the parts of a call put together.
use Rattle.std.proofs.Common.{◌≡◌, ℕ, ◌-◌, Bool, true, false, cond, ◌&&◌, eqb, ltb, leb, ◌⊎◌, [], ◌∷◌, ◌++◌, length, take, drop, Some, None, Option, sym, refl, ap, ◌∙◌, subst, inl, inr, arith}
use mathlib.Core.Path.{fun_ext}
use Rattle.std.specs.List.{AllByRecursion as All}
use Rattle.std.proofs.lemmas.Bool.{cond_both, and_parts, or_cases, ltb-true, eqb-true, leb-true}
use Rattle.std.proofs.ByRecursion.{All-push, All-append, All-take, All-drop}
use Rattle.protocol.specs.ServerIds.{ServerId, put, number_of}
use Rattle.protocol.specs.State.{Log, last_term, Server, Message, Core, change, posted}
use Rattle.protocol.specs.Elections.{may_vote, not_below, pair_of}
use Rattle.protocol.specs.Calls.{without}
use Rattle.protocol.proofs.History.{Hist, Grown, MessageOk, Inv, vote_of}
use Rattle.protocol.proofs.Shelf.{cases_id, put_here, put_there, number_inj, number_range}
use Rattle.protocol.proofs.Frame.{grown_refl, pre_grown}
use Rattle.protocol.proofs.Ballot.{NotAbove}

-- the invariant holds of w, with a history that has grown from g
pub record Next (g : Hist) (w : Core) : Type 0 where
  pub hist : Hist
  pub grown : Grown g hist
  pub inv : Inv hist w

pub stay : {g : Hist} {w : Core} → Inv g w → Next g w
stay {g} i = record { hist = g; grown = grown_refl g; inv = i }

pub reached : {g h : Hist} {w : Core} → Grown g h → Inv h w → Next g w
reached {g} {h} G i = record { hist = h; grown = G; inv = i }

pub grown_trans : {g h k : Hist} → Grown g h → Grown h k → Grown g k
grown_trans {g} G H = record {
  leads = λ T c e. H.leads T c (G.leads T c e);
  log = λ T. pre_grown H T (G.log T);
  voted = λ v T c e. H.voted v T c (G.voted v T c e);
  stood = λ c T e. H.stood c T (G.voted c T c e) ∙ G.stood c T e;
  ack = λ q T. omega (arith, G.ack q T, H.ack q T);
}

pub next_then : {g : Hist} {w v : Core} → Next g w → ((h : Hist) → Grown g h → Inv h w → Next h v) → Next g v
next_then n k = let m = k n.hist n.grown n.inv in record { hist = m.hist; grown = grown_trans n.grown m.grown; inv = m.inv }

-- a call goes on by a test
pub split : {g : Hist} (b : Bool) (x y : Core) → (b ≡ true → Next g x) → (b ≡ false → Next g y) → Next g (cond b x y)
split {g} b x y = cond_both b x y (Next g)

pub posted_inv : {g : Hist} {w : Core} → Inv g w → (l : Message) → MessageOk g l → Inv g (posted w l)
posted_inv {g} {w} i l k = record {
  hist = i.hist;
  each = i.each;
  held = i.held;
  passed = i.passed;
  network = cond_both (ltb (length w.network) 24) (w.network ++ l ∷ []) w.network (All (MessageOk g))
      (λ e. All-push (MessageOk g) w.network l i.network k) (λ e. i.network);
}

pub without_inv : {g : Hist} {w : Core} → Inv g w → (p : ℕ) → Inv g (record { server = w.server; network = without p w.network })
without_inv {g} {w} i p = record {
  hist = i.hist;
  each = i.each;
  held = i.held;
  passed = i.passed;
  network = All-append (MessageOk g) (take (p - 1) w.network) (drop p w.network) (All-take (MessageOk g) (p - 1) w.network i.network) (All-drop (MessageOk g) p w.network i.network);
}

put_put : {A : Type 0} (f : ServerId → A) (j : ServerId) (a b : A) (k : ServerId) → put (put f j a) j b k ≡ put f j b k
put_put f j a b k = elim (cases_id k j) [
  | inl e ↦ rw e (put_here (put f j a) j b ∙ sym (put_here f j b))
  | inr n ↦ put_there (put f j a) j b k n ∙ (put_there f j a k n ∙ sym (put_there f j b k n))
]

-- a server changed twice
pub change_change : (w : Core) (j : ServerId) (a b : Server) → change (change w j a) j b ≡ change w j b
change_change w j a b = ap (λ (f : ServerId → Server). record { server = f; network = w.network }) (fun_ext (put_put w.server j a b))

pub again : {h : Hist} (w : Core) (j : ServerId) (a : Server) (f : Server → Server)
    → Inv h (change (change w j a) j (f ((change w j a).server j))) → Inv h (change w j (f a))
again {h} w j a f i =
    let i' : Inv h (change (change w j a) j (f a)) = subst (λ x. Inv h (change (change w j a) j (f x))) (put_here w.server j a) i in
    subst (Inv h) (change_change w j a (f a)) i'

pub may_vote_true : (o : Option ServerId) (c : ServerId) → may_vote (vote_of o) c ≡ true → (o ≡ None) ⊎ (o ≡ Some c)
may_vote_true None c e = inl refl
may_vote_true (Some d) c e = elim (or_cases (eqb (number_of d) 0) (eqb (number_of d) (number_of c)) e) [
  | inl h ↦ absurd (omega (arith, number_range d, eqb-true (number_of d) 0 h))
  | inr h ↦ inr (ap Some (number_inj d c (eqb-true (number_of d) (number_of c) h)))
]

pub not_below_true : (l : Log) (p : ℕ × ℕ) → not_below p (pair_of l) ≡ true → NotAbove l p.0 p.1
not_below_true l p e = let t = p.0 in let n = p.1 in elim (or_cases (ltb (last_term l) t) (eqb (last_term l) t && leb (length l) n) e) [
  | inl h ↦ inl (ltb-true (last_term l) t h)
  | inr h ↦ let p = and_parts (eqb (last_term l) t) (leb (length l) n) h in inr (eqb-true (last_term l) t p.0, leb-true (length l) n p.1)
]
