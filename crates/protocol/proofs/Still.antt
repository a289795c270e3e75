-- Steps that the history does not see.
use Rattle.std.proofs.Common.{◌≡◌, ℕ, suc, ◌<◌, ◌≤◌, true, length, take, refl, ap, inl, inr, arith}
use Rattle.std.proofs.lemmas.List.{length-take-le}
use Rattle.protocol.specs.ServerIds.{ServerId}
use Rattle.protocol.specs.State.{leader, Core, change}
use Rattle.protocol.specs.Elections.{taken}
use Rattle.protocol.specs.AppendEntries.{follows, commits, notes}
use Rattle.protocol.specs.Rules.{stops, starts, applies, may_apply}
use Rattle.protocol.proofs.History.{Hist, Settled, LeaderOk, Inv, vote_of}
use Rattle.protocol.proofs.Shelf.{pre_refl, pre_trans, pre_none, pre_take, cases_id, put_here, put_there, put_all}
use Rattle.protocol.proofs.Frame.{sound_less, sound_pre, settled_pre, role_alike, quiet}
use Rattle.protocol.proofs.Applied.{commit_le, applied_low, applied_raised, applied_more}

module _ {g : Hist} {w : Core} (inv : Inv g w) (j : ServerId) where
  pub taken_inv : (T : ℕ) → (w.server j).term < T → Inv g (change w j (taken T (w.server j)))
  taken_inv T l =
      let o = inv.each j in
      let none : g.ack j T ≡ 0 = o.unacked T l in
      quiet inv j (taken T (w.server j)) (omega arith) (record {
        log = sound_less g (suc (w.server j).term) (suc T) (w.server j).log (omega arith) o.log;
        durable = o.durable;
        vote = ap vote_of (o.unvoted T l);
        unvoted = λ U k. o.unvoted U (omega arith);
        backed = λ v U e. omega (arith, o.backed v U e);
        unacked = λ U k. o.unacked U (omega arith);
        ack_durable = omega arith;
        ack_pre = rw none (pre_none _ _);
        role = tt;
        commit = λ z. let s = o.commit z in settled_pre (omega arith) (pre_refl (w.server j).log (w.server j).commit s.pre.left) s;
        machine = applied_low (omega (arith, o.machine.within)) (omega arith);
      })
      (λ U i t h. record { durable = h.durable; pre = h.pre })

  pub follows_inv : Inv g (change w j (follows (w.server j)))
  follows_inv =
      let o = inv.each j in
      quiet inv j (follows (w.server j)) (omega arith) (record {
        log = o.log;
        durable = o.durable;
        vote = o.vote;
        unvoted = o.unvoted;
        backed = o.backed;
        unacked = o.unacked;
        ack_durable = o.ack_durable;
        ack_pre = o.ack_pre;
        role = tt;
        commit = o.commit;
        machine = record { within = o.machine.within; ahead = o.machine.ahead };
      })
      (λ U i t h. record { durable = h.durable; pre = h.pre })

  pub starts_inv : Inv g (change w j (starts (w.server j)))
  starts_inv =
      let o = inv.each j in
      quiet inv j (starts (w.server j)) (omega arith) (record {
        log = o.log;
        durable = o.durable;
        vote = o.vote;
        unvoted = o.unvoted;
        backed = o.backed;
        unacked = o.unacked;
        ack_durable = o.ack_durable;
        ack_pre = o.ack_pre;
        role = role_alike g j (record { term = refl; log = refl; durable = refl; next = refl; match = refl; voters = refl }) (w.server j).role o.role;
        commit = o.commit;
        machine = record { within = o.machine.within; ahead = o.machine.ahead };
      })
      (λ U i t h. record { durable = h.durable; pre = h.pre })

  pub stops_inv : (c : ℕ) → (w.server j).durable ≤ c → c ≤ length (w.server j).log → Inv g (change w j (stops c (w.server j)))
  stops_inv c low high =
      let o = inv.each j in
      let len = length-take-le c (w.server j).log high in
      quiet inv j (stops c (w.server j)) (omega arith) (record {
        log = sound_pre g (suc (w.server j).term) (take c (w.server j).log) (w.server j).log (pre_take (w.server j).log (length (take c (w.server j).log)) c (omega arith) high) o.log;
        durable = omega arith;
        vote = o.vote;
        unvoted = o.unvoted;
        backed = o.backed;
        unacked = o.unacked;
        ack_durable = omega (arith, o.ack_durable);
        ack_pre = pre_trans (pre_take (w.server j).log (g.ack j (w.server j).term) c (omega (arith, o.ack_durable)) high) o.ack_pre;
        role = tt;
        commit = λ z. absurd (omega arith);
        machine = applied_low (omega arith) (omega arith);
      })
      (λ U i t h. record { durable = omega (arith, h.durable); pre = pre_trans (pre_take (w.server j).log (suc i) c (omega (arith, h.durable)) high) h.pre })

  pub commits_inv : (n : ℕ) → (w.server j).commit ≤ n → n ≤ length (w.server j).log → (0 < n → Settled g (w.server j).term n (w.server j).log) → Inv g (change w j (commits n (w.server j)))
  commits_inv n low high k =
      let o = inv.each j in
      quiet inv j (commits n (w.server j)) (omega arith) (record {
        log = o.log;
        durable = o.durable;
        vote = o.vote;
        unvoted = o.unvoted;
        backed = o.backed;
        unacked = o.unacked;
        ack_durable = o.ack_durable;
        ack_pre = o.ack_pre;
        role = role_alike g j (record { term = refl; log = refl; durable = refl; next = refl; match = refl; voters = refl }) (w.server j).role o.role;
        commit = k;
        machine = applied_raised inv.hist (w.server j) o.log n low high o.machine;
      })
      (λ U i t h. record { durable = h.durable; pre = h.pre })

  -- a leader's next and match
  pub notes_inv : (role : (w.server j).role ≡ leader) (lead : LeaderOk g j (w.server j)) (r : ServerId) (n m : ℕ)
      → m ≤ g.ack r (w.server j).term → m < n → n ≤ suc (length (w.server j).log) → Inv g (change w j (notes r n m (w.server j)))
  notes_inv role lead r n m a b c =
      let o = inv.each j in
      let s = w.server j in
      quiet inv j (notes r n m s) (omega arith) (record {
        log = o.log;
        durable = o.durable;
        vote = o.vote;
        unvoted = o.unvoted;
        backed = o.backed;
        unacked = o.unacked;
        ack_durable = o.ack_durable;
        ack_pre = o.ack_pre;
        role = rw role (record {
          leads = lead.leads;
          log = lead.log;
          ack = lead.ack;
          match = put_all s.match r m (λ k x. (k ≡ j → ⊥) → x ≤ g.ack k s.term) (λ z. a) (λ k z. lead.match k);
          next = λ k. elim (cases_id k r) [
            | inl e ↦ rw (e, put_here s.match r m, put_here s.next r n) (b, c)
            | inr z ↦ rw (put_there s.match r m k z, put_there s.next r n k z) (lead.next k)
          ];
        });
        commit = o.commit;
        machine = record { within = o.machine.within; ahead = o.machine.ahead };
      })
      (λ U i t h. record { durable = h.durable; pre = h.pre })

  pub applies_inv : may_apply (w.server j) ≡ true → Inv g (change w j (applies (w.server j)))
  applies_inv e =
      let o = inv.each j in
      quiet inv j (applies (w.server j)) (omega arith) (record {
        log = o.log;
        durable = o.durable;
        vote = o.vote;
        unvoted = o.unvoted;
        backed = o.backed;
        unacked = o.unacked;
        ack_durable = o.ack_durable;
        ack_pre = o.ack_pre;
        role = role_alike g j (record { term = refl; log = refl; durable = refl; next = refl; match = refl; voters = refl }) (w.server j).role o.role;
        commit = o.commit;
        machine = applied_more (w.server j) (commit_le o) e;
      })
      (λ U i t h. record { durable = h.durable; pre = h.pre })
