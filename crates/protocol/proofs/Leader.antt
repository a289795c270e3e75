-- What a leader does: count replies, sync, raise its commit, send.
use Rattle.std.proofs.Common.{◌≡◌, ℕ, zero, suc, ◌-◌, ◌<◌, ◌≤◌, max, true, false, ◌&&◌, eqb, ltb, leb, ◌⊎◌, length, Some, None, Option, sym, refl, ap, ◌∙◌, subst, inl, inr, arith}
use Rattle.std.proofs.lemmas.Bool.{cases_lt, both_ways, cond_both, and_parts, ltb-true, eqb-true, leb-true}
use Rattle.protocol.specs.ServerIds.{ServerId}
use Rattle.protocol.specs.State.{Log, at, term_at, Role, follower, candidate, leader, Server, AppendReply, Core, change, is_leader}
use Rattle.protocol.specs.AppendEntries.{known, two_hold, top, raises, got_reply, append_request}
use Rattle.protocol.specs.Rules.{syncs}
use Rattle.protocol.proofs.History.{Pre, Hist, Grown, Settled, LeaderOk, RoleOk, EntryOk, BodyOk, MessageOk, Inv}
use Rattle.protocol.proofs.Parts.{replied_in}
use Rattle.protocol.proofs.Shelf.{pre_refl, put_here, put_all, TwoOf, two_of_them}
use Rattle.protocol.proofs.Frame.{quiet}
use Rattle.protocol.proofs.Accept.{ack_inv, ack_grown}
use Rattle.protocol.proofs.Still.{commits_inv, notes_inv}
use Rattle.protocol.proofs.Heard.{is_leader_true}
use Rattle.protocol.proofs.Applied.{commit_le}
use Rattle.protocol.proofs.Next.{Next, stay, reached, split, again}

two_known : (j : ServerId) (s : Server) (n : ℕ) → two_hold j s n ≡ true → TwoOf (λ k. n ≤ known j s k)
two_known j s n e = two_of_them (λ k. leb n (known j s k)) (λ k. n ≤ known j s k) (λ k h. leb-true n _ h) e

record Top (j : ServerId) (s : Server) (n x : ℕ) : Type 0 where
  i : ℕ
  is : x ≡ suc i
  low : i < n
  own : term_at s.log i ≡ s.term
  hold : two_hold j s (suc i) ≡ true

top_is : (j : ServerId) (s : Server) (n : ℕ) → (top j s n ≡ 0) ⊎ Top j s n (top j s n)
unfolding top
top_is j s zero = inl refl
top_is j s (suc n) = cond_both (eqb (term_at s.log n) s.term && two_hold j s (suc n)) (suc n) (top j s n) (λ x. (x ≡ 0) ⊎ Top j s (suc n) x)
    (λ e. let p = and_parts _ _ e in inr (record { i = n; is = refl; low = omega arith; own = eqb-true _ _ p.0; hold = p.1 }))
    (λ e. elim (top_is j s n) [ inl z ↦ inl z | inr t ↦ inr (record { i = t.i; is = t.is; low = omega (arith, t.low); own = t.own; hold = t.hold }) ])

top_le : (j : ServerId) (s : Server) (n : ℕ) → top j s n ≤ n
top_le j s n = elim (top_is j s n) [ inl z ↦ omega arith | inr t ↦ omega (arith, t.is, t.low) ]

module _ {g : Hist} {w : Core} (inv : Inv g w) (j : ServerId) (role : (w.server j).role ≡ leader) where
  pub lead_ok : LeaderOk g j (w.server j)
  lead_ok = subst (RoleOk g j (w.server j)) role (inv.each j).role

  known_ack : (k : ServerId) → known j (w.server j) k ≤ g.ack k (w.server j).term
  known_ack = put_all (w.server j).match j (w.server j).durable (λ k x. x ≤ g.ack k (w.server j).term)
      (omega (arith, lead_ok.ack)) (λ k n. lead_ok.match k n)

  top_settled : (n : ℕ) → n ≤ length (w.server j).log → 0 < top j (w.server j) n → Settled g (w.server j).term (top j (w.server j) n) (w.server j).log
  top_settled n l z = elim (top_is j (w.server j) n) [
    | inl e ↦ absurd (omega arith)
    | inr t ↦
        let s = w.server j in
        let h = two_known j s (suc t.i) t.hold in
        rw t.is (record {
          U = s.term;
          i = t.i;
          low = omega arith;
          far = omega arith;
          chosen = record {
            own = rw (← lead_ok.log) t.own;
            x = h.x;
            y = h.y;
            apart = h.apart;
            ackx = omega (arith, known_ack h.x, h.hasx);
            acky = omega (arith, known_ack h.y, h.hasy);
          };
          pre = rw (← lead_ok.log) (pre_refl s.log (suc t.i) (omega (arith, t.low)));
        })
  ]

  pub raises_inv : Inv g (change w j (raises j (w.server j)))
  raises_inv =
      let s = w.server j in
      let t = top j s (length s.log) in
      commits_inv inv j (max s.commit t) (omega arith) (omega (arith, commit_le (inv.each j), top_le j s (length s.log))) (λ z. elim (cases_lt s.commit t) [
        | inl h ↦ let e : max s.commit t ≡ t = omega arith in rw e (top_settled (length s.log) (omega arith) (omega arith))
        | inr h ↦ let e : max s.commit t ≡ s.commit = omega arith in rw e ((inv.each j).commit (omega arith))
      ])

-- a leader, changed to a with its role, then raises its commit
raised : {h : Hist} (w : Core) (j : ServerId) (a : Server) → a.role ≡ leader → Inv h (change w j a) → Inv h (change w j (raises j a))
raised w j a e i = again w j a (raises j) (raises_inv i j (ap (λ (s : Server). s.role) (put_here w.server j a) ∙ e))

pub replied_next : {g : Hist} {w : Core} → Inv g w → (from to : ServerId) → (from ≡ to → ⊥) → (T : ℕ) (m : Option ℕ)
    → BodyOk g from to T (AppendReply m) → Next g (replied_in w from to T m)
replied_next {g} {w} inv from to n T m o = split _ _ _
    (λ e.
    let s = w.server to in
    let p = and_parts (eqb T s.term) (is_leader s.role) e in
    let z : T ≡ s.term = eqb-true T s.term p.0 in
    let r : s.role ≡ leader = is_leader_true s.role p.1 in
    let l = lead_ok inv to r in
    go s r l m (subst (λ U. BodyOk g from to U (AppendReply m)) z o))
    (λ e. stay inv)
  where
    go : (s : Server) → (w.server to).role ≡ leader → LeaderOk g to (w.server to) → (m : Option ℕ) → BodyOk g from to (w.server to).term (AppendReply m)
        → Next g (change w to (raises to (got_reply from m (w.server to))))
    go s r l (Some m) k =
        let a = inv.hist.acks from (w.server to).term in
        let b : g.log (w.server to).term ≡ (w.server to).log = sym l.log in
        let c : g.ack from (w.server to).term ≤ length (w.server to).log = rw b at a in
        stay (raised w to _ r (notes_inv inv to r l from _ _ (omega (arith, l.match from n, k.1)) (omega arith) (omega (arith, l.match from n, (l.next from).1, k.1))))
    go s r l None k =
        stay (raised w to _ r (notes_inv inv to r l from _ _ (l.match from n) (omega arith) (omega (arith, (l.next from).0, (l.next from).1))))

module _ {g : Hist} {w : Core} (inv : Inv g w) (j : ServerId) where
  pub firm_leader : (w.server j).role ≡ leader → Next g (change w j (raises j (syncs (w.server j))))
  firm_leader role =
      let s = w.server j in
      let o = inv.each j in
      let l = lead_ok inv j role in
      let pm : Pre (length s.log) s.log (g.log s.term) = rw (← l.log) (pre_refl s.log (length s.log) (omega arith)) in
      let ro : (g' : Hist) → Grown g g' → g'.leads ≡ g.leads → g'.log ≡ g.log → g'.ack j s.term ≡ max (g.ack j s.term) (length s.log) → RoleOk g' j (syncs s) s.role =
      λ g' G a b c. rw role (record {
        leads = G.leads s.term j l.leads;
        log = l.log ∙ sym (ap (λ (f : ℕ → Log). f s.term) b);
        ack = omega (arith, l.ack, o.durable);
        match = λ k n. omega (arith, l.match k n, G.ack k s.term);
        next = l.next;
      }) in
      reached (ack_grown inv j (length s.log) (syncs s) refl refl refl o.log pm o.ack_pre ro o.commit (record { within = o.machine.within; ahead = o.machine.ahead }) (λ T i t h. h.pre))
      (raised w j (syncs s) role (ack_inv inv j (length s.log) (syncs s) refl refl refl o.log pm o.ack_pre ro o.commit (record { within = o.machine.within; ahead = o.machine.ahead }) (λ T i t h. h.pre)))

  role_syncs : (r : Role) → is_leader r ≡ false → RoleOk g j (w.server j) r → RoleOk g j (syncs (w.server j)) r
  role_syncs follower e o = tt
  role_syncs candidate e o = record { unled = o.unled; own = o.own; log = o.log; voters = o.voters }
  role_syncs leader e o = absurd (both_ways (is_leader leader) e refl)

  pub firm_other : is_leader (w.server j).role ≡ false → Next g (change w j (syncs (w.server j)))
  firm_other e =
      let o = inv.each j in
      stay (quiet inv j (syncs (w.server j)) (omega arith) (record {
        log = o.log;
        durable = omega arith;
        vote = o.vote;
        unvoted = o.unvoted;
        backed = o.backed;
        unacked = o.unacked;
        ack_durable = o.ack_pre.left;
        ack_pre = o.ack_pre;
        role = role_syncs (w.server j).role e o.role;
        commit = o.commit;
        machine = record { within = o.machine.within; ahead = o.machine.ahead };
      })
      (λ U i t h. record { durable = h.pre.left; pre = h.pre }))

  pub send_ok : (w.server j).role ≡ leader → (r : ServerId) → (j ≡ r → ⊥) → MessageOk g (append_request j (w.server j) r)
  send_ok role r n =
      let s = w.server j in
      let l = lead_ok inv j role in
      let p = s.next r - 1 in
      record {
        apart = n;
        body = (
          l.leads,
          rw (← l.log) (omega (arith, (l.next r).1)),
          rw (← l.log) refl,
          cond_both (ltb p (length s.log)) (Some (at s.log p)) None (EntryOk g s.term p)
              (λ e. rw (← l.log) (ltb-true p _ e, refl)) (λ e. tt),
          λ z. rw (← l.log) ((inv.each j).commit z),
        );
      }
