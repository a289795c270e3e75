-- Every call keeps the invariant, and the opening has it.
use Rattle.std.proofs.Common.{◌≡◌, ℕ, ◌-◌, Bool, true, false, cond, not, ◌&&◌, ◌||◌, eqb, ltb, leb, [], length, Some, None, sym, refl, ap, subst, arith}
use Rattle.std.proofs.lemmas.Bool.{both_ways, cond_both, and_parts, not-true, ltb-true, leb-true}
use Rattle.std.proofs.ByRecursion.{All-get_or}
use Rattle.sheet.specs.declared.types.Edit.{Edit}
use Rattle.record.specs.declared.entry.Entry.{Entry}
use Rattle.protocol.specs.ServerIds.{ServerId, one, two, three, numbered, same, low, high}
use Rattle.protocol.specs.State.{Body, VoteRequest, VoteReply, AppendRequest, AppendReply, Message, Core, is_leader, core_opening}
use Rattle.protocol.specs.Elections.{stands, may_campaign, vote_request, pair_of}
use Rattle.protocol.specs.Rules.{may_propose, may_apply, may_keep}
use Rattle.protocol.specs.Calls.{without, nowhere, has_message, message_at, Call, campaign, deliver, lose, propose, firm, send, apply, outage, restart, standing, close, look, campaign_call, deliver_call, propose_call, firm_call, send_call, apply_call, outage_call, restart_call, core_after, Allowed}
use Rattle.protocol.proofs.History.{Hist, BodyOk, MessageOk, Inv}
use Rattle.protocol.proofs.Parts.{caught_in, heard_in}
use Rattle.protocol.proofs.Shelf.{pre_none, put2_here, same_self, apart12, apart13, apart23}
use Rattle.protocol.proofs.Frame.{message_grown}
use Rattle.protocol.proofs.Votes.{none_some}
use Rattle.protocol.proofs.Campaign.{stood_hist, stood_grown, stood_inv, U₀}
use Rattle.protocol.proofs.Propose.{more_inv, more_grown}
use Rattle.protocol.proofs.Still.{stops_inv, starts_inv, applies_inv}
use Rattle.protocol.proofs.Next.{Next, stay, reached, next_then, split, posted_inv, without_inv}
use Rattle.protocol.proofs.Heard.{is_leader_true, asked_next, counted_next, caught_next}
use Rattle.protocol.proofs.Append.{appended_next}
use Rattle.protocol.proofs.Turns.{change_if, change_unless, noted, campaign_is, delivered_is}
use Rattle.protocol.proofs.Leader.{lead_ok, replied_next, firm_leader, firm_other, send_ok}

low_apart : (j : ServerId) → j ≡ low j → ⊥
low_apart one e = apart12 e
low_apart two e = apart12 (sym e)
low_apart three e = apart13 (sym e)

high_apart : (j : ServerId) → j ≡ high j → ⊥
high_apart one e = apart13 e
high_apart two e = apart23 e
high_apart three e = apart23 (sym e)

heard_next : {g : Hist} {w : Core} → Inv g w → (from to : ServerId) → (from ≡ to → ⊥) → (T : ℕ) (k : Body) → BodyOk g from to T k → Next g (heard_in w from to T k)
heard_next inv from to n T (VoteRequest pair) o = asked_next inv from to n T pair o
heard_next inv from to n T (VoteReply ok) o = counted_next inv from to n T ok o
heard_next inv from to n T (AppendRequest a) o = appended_next inv from to n T a o
heard_next inv from to n T (AppendReply m) o = replied_next inv from to n T m o

deliver_next : {g : Hist} {w : Core} → Inv g w → (l : Message) → MessageOk g l → Next g (heard_in (caught_in w l.to l.term) l.from l.to l.term l.body)
deliver_next inv l o = next_then (caught_next inv l.to l.term)
    (λ h G i. let p = message_grown inv.hist G l o in heard_next i l.from l.to p.apart l.term l.body p.body)

request_ok : {g : Hist} {w : Core} (inv : Inv g w) (j r : ServerId) → (j ≡ r → ⊥) → MessageOk (stood_hist inv j) (vote_request j (stands j (w.server j)) r)
request_ok {g} {w} inv j r n =
    let e = put2_here g.stood j (U₀ inv j) (w.server j).log in
    record {
      apart = n;
      body = (put2_here g.voted j (U₀ inv j) (Some j), sym (ap pair_of e));
    }

not_same : (i j : ServerId) → not (same i j) ≡ true → i ≡ j → ⊥
not_same i j e z = both_ways (same i j) (not-true (same i j) e) (rw (← z) (same_self i))

-- one of the three servers, or none
pub numbered_both : {A : Type 0} (P : A → Type 0) (n : ℕ) (f : ServerId → A) (x : A) → ((j : ServerId) → P (f j)) → P x → P (numbered n f x)
numbered_both P n f x h k =
    cond_both (eqb n 1) (f one) (cond (eqb n 2) (f two) (cond (eqb n 3) (f three) x)) P (λ _. h one)
    (λ _. cond_both (eqb n 2) (f two) (cond (eqb n 3) (f three) x) P (λ _. h two)
    (λ _. cond_both (eqb n 3) (f three) x P (λ _. h three) (λ _. k)))

module _ {g : Hist} {w : Core} (inv : Inv g w) where
  on_server : (n : ℕ) (f : ServerId → Core) → ((j : ServerId) → Next g (f j)) → Next g (numbered n f w)
  on_server n f h = numbered_both (Next g) n f w h (stay inv)

  campaign_next : (j : ServerId) → Next g (campaign_call w j)
  campaign_next j = subst (Next g) (campaign_is w j) (split (may_campaign (w.server j)) _ _
      (λ e. reached (stood_grown inv j)
      (posted_inv (posted_inv (stood_inv inv j) _ (request_ok inv j (low j) (low_apart j))) _ (request_ok inv j (high j) (high_apart j))))
      (λ e. stay inv))

  delivered_next : (p : ℕ) (keep : Bool) → Next g (deliver_call w p keep)
  delivered_next p keep =
      let l = message_at p w.network in
      split (has_message p w.network && (w.server l.to).up) _ _
      (λ e.
      let a = and_parts (has_message p w.network) _ e in
      let b = and_parts (ltb 0 p) (leb p (length w.network)) a.0 in
      let lo = ltb-true 0 p b.0 in
      let hi = leb-true p _ b.1 in
      let o = All-get_or (MessageOk g) w.network (p - 1) nowhere (omega arith) inv.network in
      subst (Next g) (delivered_is w p keep l)
      (next_then (split {g = g} keep w (record { server = w.server; network = without p w.network }) (λ _. stay inv) (λ _. stay (without_inv inv p)))
      (λ h G i. deliver_next i l (message_grown inv.hist G l o))))
      (λ e. stay inv)

  propose_next : (j : ServerId) (e : Edit) → Next g (propose_call w j e)
  propose_next j e = subst (Next g) (sym (change_if w j (may_propose (w.server j)) _)) (split (may_propose (w.server j)) _ _
      (λ a.
      let p = and_parts _ _ a in
      let q = and_parts (is_leader (w.server j).role) _ p.1 in
      let r = is_leader_true (w.server j).role q.0 in
      let x : Entry = record { term = (w.server j).term; edit = e } in
      reached (more_grown inv j r (lead_ok inv j r) x refl) (more_inv inv j r (lead_ok inv j r) x refl))
      (λ a. stay inv))

  firm_next : (j : ServerId) → Next g (firm_call w j)
  firm_next j = subst (Next g) (noted w j (w.server j).up (is_leader (w.server j).role) _ _) (split (w.server j).up _ _
      (λ _. split (is_leader (w.server j).role) _ _ (λ e. firm_leader inv j (is_leader_true _ e)) (λ e. firm_other inv j e))
      (λ _. stay inv))

  send_next : (j r : ServerId) → Next g (send_call w j r)
  send_next j r = split _ _ _
      (λ a.
      let p = and_parts _ _ a in
      let q = and_parts (is_leader (w.server j).role) (not (same j r)) p.1 in
      stay (posted_inv inv _ (send_ok inv j (is_leader_true _ q.0) r (not_same j r q.1))))
      (λ a. stay inv)

  apply_next : (j : ServerId) → Next g (apply_call w j)
  apply_next j = subst (Next g) (sym (change_if w j ((w.server j).up && may_apply (w.server j)) _)) (split _ _ _
      (λ a. let p = and_parts (w.server j).up (may_apply (w.server j)) a in stay (applies_inv inv j p.1))
      (λ a. stay inv))

  -- what an outage may keep, where the server is up
  kept_enough : (j : ServerId) (c : ℕ) → (not (w.server j).up || may_keep c (w.server j)) ≡ true → Next g (outage_call w j c)
  kept_enough j c e = subst (Next g) (sym (change_if w j (w.server j).up _)) (split (w.server j).up _ _
      (λ u.
      let p : may_keep c (w.server j) ≡ true = rw u at e in
      let q = and_parts (leb (w.server j).durable c) (leb c (length (w.server j).log)) p in
      stay (stops_inv inv j c (leb-true _ _ q.0) (leb-true _ _ q.1)))
      (λ _. stay inv))

  outage_next : (n c : ℕ) → Allowed w (outage n c) → Next g (numbered n (λ j. outage_call w j c) w)
  outage_next n c = go (eqb n 1) (eqb n 2) (eqb n 3)
    where
      go : (a b d : Bool)
          → cond a (not (w.server one).up || may_keep c (w.server one)) (cond b (not (w.server two).up || may_keep c (w.server two)) (cond d (not (w.server three).up || may_keep c (w.server three)) true)) ≡ true
          → Next g (cond a (outage_call w one c) (cond b (outage_call w two c) (cond d (outage_call w three c) w)))
      go true b d e = kept_enough one c e
      go false true d e = kept_enough two c e
      go false false true e = kept_enough three c e
      go false false false e = stay inv

pub after_next : {g : Hist} {w : Core} → Inv g w → (c : Call) → Allowed w c → Next g (core_after w c)
after_next {g} {w} inv (campaign n) a = on_server inv n (campaign_call w) (campaign_next inv)
after_next {g} {w} inv (deliver p keep) a = delivered_next inv p keep
after_next {g} {w} inv (lose p) a = split (has_message p w.network) _ _ (λ _. stay (without_inv inv p)) (λ _. stay inv)
after_next {g} {w} inv (propose n e) a = on_server inv n (λ j. propose_call w j e) (λ j. propose_next inv j e)
after_next {g} {w} inv (firm n) a = on_server inv n (firm_call w) (firm_next inv)
after_next {g} {w} inv (send n r) a = on_server inv n (λ j. numbered r (send_call w j) w) (λ j. on_server inv r (send_call w j) (send_next inv j))
after_next {g} {w} inv (apply n) a = on_server inv n (apply_call w) (apply_next inv)
after_next {g} {w} inv (outage n c) a = outage_next inv n c a
after_next {g} {w} inv (restart n) a = on_server inv n (restart_call w) (λ j. subst (Next g) (sym (change_unless w j (w.server j).up _)) (split (w.server j).up _ _ (λ _. stay inv) (λ _. stay (starts_inv inv j))))
after_next {g} {w} inv (standing n i t) a = stay inv
after_next {g} {w} inv (close n i t) a = stay inv
after_next {g} {w} inv (look n row size) a = stay inv

pub empty : Hist
empty = record { leads = λ T. None; log = λ T. []; voted = λ v T. None; stood = λ c T. []; ack = λ q T. 0 }

pub opening_inv : Inv empty core_opening
unfolding empty
opening_inv = record {
  hist = record {
    logs = λ T i h. absurd (omega arith);
    stoods = λ c T i h. absurd (omega arith);
    grew = λ T c e. absurd (none_some refl e);
    led = λ T h. absurd (omega arith);
    elected = λ T c e. absurd (none_some refl e);
    self = λ v T c e. absurd (none_some refl e);
    acks = λ q T. omega arith;
  };
  each = λ j. record {
    log = λ i h. absurd (omega arith);
    durable = omega arith;
    vote = refl;
    unvoted = λ U h. refl;
    backed = λ v U e. absurd (none_some refl e);
    unacked = λ U h. refl;
    ack_durable = omega arith;
    ack_pre = pre_none [] [];
    role = tt;
    commit = λ z. absurd (omega arith);
    machine = record { within = omega arith; ahead = λ z. absurd (omega arith) };
  };
  held = λ T i q t. absurd (omega (arith, t.acked));
  passed = λ T i q t U c l e. absurd (none_some refl e);
  network = tt;
}
