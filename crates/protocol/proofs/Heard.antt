-- A message heard keeps the invariant: vote requests and vote replies.
use Rattle.std.proofs.Common.{◌≡◌, ℕ, Bool, true, false, eqb, length, Some, sym, refl, ap, ◌∙◌, subst, inl, inr, arith}
use Rattle.std.proofs.lemmas.Bool.{and_parts, ltb-true, eqb-true}
use Rattle.protocol.specs.ServerIds.{ServerId, put}
use Rattle.protocol.specs.State.{last_term, Role, follower, candidate, leader, Server, VoteRequest, VoteReply, Core, change, is_leader, is_candidate}
use Rattle.protocol.specs.Elections.{grants, may_vote, not_below, pair_of, wins, counts, two_of}
use Rattle.protocol.proofs.History.{Hist, CandidateOk, RoleOk, BodyOk, Inv}
use Rattle.protocol.proofs.Parts.{asked_in, counted_in, caught_in}
use Rattle.protocol.proofs.Shelf.{cases_id, put_here, put_all, put2_here, TwoOf, two_of_them}
use Rattle.protocol.proofs.Frame.{quiet}
use Rattle.protocol.proofs.Ballot.{NotAbove, vote_inv, vote_grown}
use Rattle.protocol.proofs.Elect.{won_inv, won_grown}
use Rattle.protocol.proofs.Still.{taken_inv}
use Rattle.protocol.proofs.Next.{Next, stay, reached, split, posted_inv, again, may_vote_true, not_below_true}

flip : {A : Type 0} {x y : A} → (x ≡ y → ⊥) → y ≡ x → ⊥
flip n e = n (sym e)

is_candidate_true : (r : Role) → is_candidate r ≡ true → r ≡ candidate
is_candidate_true follower e = cc
is_candidate_true candidate e = refl
is_candidate_true leader e = cc

pub is_leader_true : (r : Role) → is_leader r ≡ true → r ≡ leader
is_leader_true follower e = cc
is_leader_true candidate e = cc
is_leader_true leader e = refl

module _ {g : Hist} {w : Core} (inv : Inv g w) (from to : ServerId) (n : from ≡ to → ⊥) (T : ℕ) where
  pub asked_next : (pair : ℕ × ℕ) → BodyOk g from to T (VoteRequest pair) → Next g (asked_in w from to T pair)
  asked_next pair o = split (grants (w.server to) from T pair) _ _
      (λ e.
      let s = w.server to in
      let p = and_parts _ _ e in
      let q = and_parts (may_vote s.vote from) (not_below pair (pair_of s.log)) p.1 in
      let z : T ≡ s.term = eqb-true T s.term p.0 in
      let own : g.voted from s.term ≡ Some from = rw z at o.0 in
      let free = may_vote_true (g.voted to s.term) from (subst (λ v. may_vote v from ≡ true) (sym (inv.each to).vote) q.0) in
      let above : NotAbove s.log (last_term (g.stood from s.term)) (length (g.stood from s.term)) =
      subst (λ U. NotAbove s.log (last_term (g.stood from U)) (length (g.stood from U))) z
      (subst (λ (x : ℕ × ℕ). NotAbove s.log x.0 x.1) o.1 (not_below_true s.log pair q.1)) in
      reached (vote_grown inv to from n own free above)
      (posted_inv (vote_inv inv to from n own free above) _
      (record { apart = flip n; body = rw z (put2_here g.voted to s.term (Some from)) })))
      (λ e. stay (posted_inv inv _ (record { apart = flip n; body = tt })))

  counts_inv : (w.server to).role ≡ candidate → g.voted from (w.server to).term ≡ Some to → Inv g (change w to (counts from (w.server to)))
  counts_inv r v =
      let s = w.server to in
      let o = inv.each to in
      let c : CandidateOk g to s = subst (RoleOk g to s) r o.role in
      quiet inv to (counts from s) (omega arith) (record {
        log = o.log;
        durable = o.durable;
        vote = o.vote;
        unvoted = o.unvoted;
        backed = o.backed;
        unacked = o.unacked;
        ack_durable = o.ack_durable;
        ack_pre = o.ack_pre;
        role = rw r (record {
          unled = c.unled;
          own = c.own;
          log = c.log;
          voters = put_all s.voters from true (λ k x. x ≡ true → g.voted k s.term ≡ Some to) (λ _. v) (λ k m. c.voters k);
        });
        commit = o.commit;
        machine = record { within = o.machine.within; ahead = o.machine.ahead };
      })
      (λ U i t h. record { durable = h.durable; pre = h.pre })

  -- with two voters, one of them is another
  elected : Inv g (change w to (counts from (w.server to))) → (w.server to).role ≡ candidate → TwoOf (λ k. put (w.server to).voters from true k ≡ true)
      → Next g (change w to (wins (counts from (w.server to))))
  elected i r t =
      let a = counts from (w.server to) in
      let here = put_here w.server to a in
      let c : CandidateOk g to ((change w to a).server to) = subst (RoleOk g to ((change w to a).server to)) (ap (λ (s : Server). s.role) here ∙ r) (i.each to).role in
      let c' : CandidateOk g to a = subst (CandidateOk g to) here c in
      let win : (v : ServerId) → (v ≡ to → ⊥) → put (w.server to).voters from true v ≡ true → Next g (change w to (wins a)) =
      λ v m h.
      let y : g.voted v ((change w to a).server to).term ≡ Some to = rw here (c'.voters v h) in
      reached (won_grown i to v m c y) (again w to a wins (won_inv i to v m c y)) in
      elim (cases_id t.x to) [
        | inl e ↦ win t.y (λ z. t.apart (e ∙ sym z)) t.hasy
        | inr m ↦ win t.x m t.hasx
      ]

  pub counted_next : (ok : Bool) → BodyOk g from to T (VoteReply ok) → Next g (counted_in w from to T ok)
  counted_next false o = stay inv
  counted_next true o = split _ _ _
      (λ e.
      let s = w.server to in
      let p = and_parts (eqb T s.term) (is_candidate s.role) e in
      let z : T ≡ s.term = eqb-true T s.term p.0 in
      let r : s.role ≡ candidate = is_candidate_true s.role p.1 in
      let v : g.voted from s.term ≡ Some to = rw z at o in
      let i = counts_inv r v in
      split (two_of (put s.voters from true)) _ _
      (λ t. elected i r (two_of_them (put s.voters from true) (λ k. put s.voters from true k ≡ true) (λ k h. h) t))
      (λ _. stay i))
      (λ e. stay inv)

pub caught_next : {g : Hist} {w : Core} → Inv g w → (j : ServerId) (T : ℕ) → Next g (caught_in w j T)
caught_next {g} {w} inv j T = split _ _ _ (λ e. stay (taken_inv inv j T (ltb-true (w.server j).term T e))) (λ e. stay inv)
