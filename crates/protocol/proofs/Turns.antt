-- A delivery by what its receiver hears and replies is the same as the delivery in parts.
use Rattle.std.proofs.Common.{◌≡◌, ℕ, suc, Bool, true, false, cond, ◌&&◌, eqb, ltb, leb, List, length, Some, None, Option, sym, refl, ap, ◌∙◌, inl, inr}
use mathlib.Core.Path.{fun_ext}
use Rattle.record.specs.declared.entry.Entry.{Entry}
use Rattle.protocol.specs.ServerIds.{ServerId, put, low, high}
use Rattle.protocol.specs.State.{term_at, Server, is_leader, Body, VoteRequest, VoteReply, AppendRequest, AppendReply, Message, Core, joined, joined_some, change, with, posted}
use Rattle.protocol.specs.Elections.{stands, may_campaign, vote_request, taken, caught_up, grants, counting, two_of}
use Rattle.protocol.specs.AppendEntries.{reaches, took, took_to, yes_to, no_to, got_reply, raises}
use Rattle.protocol.specs.Rules.{hears, replies}
use Rattle.protocol.specs.Calls.{without, left, campaign_call}
use Rattle.protocol.proofs.Parts.{took_in, heard_in, caught_in}
use Rattle.protocol.proofs.Shelf.{cases_id, put_here, put_there}
use Rattle.protocol.proofs.Next.{change_change}

put_same : (f : ServerId → Server) (j k : ServerId) → put f j (f j) k ≡ f k
put_same f j k = elim (cases_id k j) [ inl e ↦ rw e (put_here f j (f j)) | inr n ↦ put_there f j (f j) k n ]

change_same : (w : Core) (j : ServerId) → change w j (w.server j) ≡ w
change_same w j = ap (λ (f : ServerId → Server). record { server = f; network = w.network }) (fun_ext (put_same w.server j))

-- a change of one server where a test holds
pub change_if : (w : Core) (j : ServerId) (b : Bool) (s : Server) → change w j (cond b s (w.server j)) ≡ cond b (change w j s) w
change_if w j true s = refl
change_if w j false s = change_same w j

pub change_unless : (w : Core) (j : ServerId) (b : Bool) (s : Server) → change w j (cond b (w.server j) s) ≡ cond b w (change w j s)
change_unless w j true s = change_same w j
change_unless w j false s = refl

-- a test outside, made a test inside
pub noted : (w : Core) (j : ServerId) (b d : Bool) (s t : Server) → cond b (cond d (change w j s) (change w j t)) w ≡ change w j (cond b (cond d s t) (w.server j))
noted w j true true s t = refl
noted w j true false s t = refl
noted w j false d s t = sym (change_same w j)

answered : (w : Core) (j : ServerId) (b : Bool) (s : Server) (l m : Message)
    → cond b (posted (change w j s) l) (posted w m) ≡ with w j (cond b s (w.server j)) (joined w.network (cond b l m))
answered w j true s l m = refl
answered w j false s l m = ap (λ v. posted v m) (sym (change_same w j))

pulled : {A : Type 0} (w : Core) (j : ServerId) (F : A → List Message) (b : Bool) {X Y : Core} {s t : Server} {o q : A}
    → X ≡ with w j s (F o) → Y ≡ with w j t (F q) → cond b X Y ≡ with w j (cond b s t) (F (cond b o q))
pulled w j F true x y = x
pulled w j F false x y = y

idle : (w : Core) (j : ServerId) → w ≡ with w j (w.server j) w.network
idle w j = sym (change_same w j)

told_no : (w : Core) (j : ServerId) (l : Message) → posted w l ≡ with w j (w.server j) (joined w.network l)
told_no w j l = ap (λ v. posted v l) (idle w j)

took_is : (w : Core) (from to : ServerId) (T p k : ℕ) (e : Option Entry)
    → took_in w from to T p k e ≡ with w to (took p k e (w.server to)) (joined_some w.network (yes_to from to T (took_to p e (w.server to))))
took_is w from to T p k None = refl
took_is w from to T p k (Some e) =
    let s = w.server to in
    let F : Option ℕ → List Message = λ m. joined_some w.network (yes_to from to T m) in
    pulled w to F (leb 64 p) {o = None} refl
    (pulled w to F (ltb p (length s.log)) {q = Some (suc p)}
    (pulled w to F (eqb (term_at s.log p) e.term) {o = Some (suc p)} refl (pulled w to F (ltb p s.commit) {o = None} {q = Some (suc p)} refl refl))
    refl)

-- a message at its receiver changes that server and sends at most one message
heard_is : (w : Core) (from to : ServerId) (T : ℕ) (k : Body)
    → heard_in w from to T k ≡ with w to (hears (w.server to) from to T k) (joined_some w.network (replies (w.server to) from to T k))
heard_is w from to T (VoteRequest pair) = answered w to (grants (w.server to) from T pair) _ _ _
heard_is w from to T (VoteReply ok) = noted w to (counting (w.server to) T ok) (two_of (put (w.server to).voters from true)) _ _
heard_is w from to T (AppendRequest a) =
    let s = w.server to in
    let F : Option Message → List Message = joined_some w.network in
    let no = no_to from to s in
    pulled w to F (eqb T s.term) {q = Some no}
    (pulled w to F (is_leader s.role) {o = None} (idle w to)
    (pulled w to F (reaches s.log a.previous a.previous_term) {o = yes_to from to T (took_to a.previous a.entry s)} {q = Some no} (took_is w from to T a.previous a.commit a.entry) refl))
    (told_no w to no)
heard_is w from to T (AppendReply m) = sym (change_if w to (eqb T (w.server to).term && is_leader (w.server to).role) (raises to (got_reply from m (w.server to))))

left_is : (w : Core) (keep : Bool) (p : ℕ) → cond keep w (record { server = w.server; network = without p w.network }) ≡ record { server = w.server; network = left keep p w.network }
left_is w true p = refl
left_is w false p = refl

-- the whole of a delivery that is not refused
pub delivered_is : (w : Core) (p : ℕ) (keep : Bool) (l : Message)
    → heard_in (caught_in (cond keep w (record { server = w.server; network = without p w.network })) l.to l.term) l.from l.to l.term l.body
    ≡ with w l.to (hears (caught_up l.term (w.server l.to)) l.from l.to l.term l.body)
    (joined_some (left keep p w.network) (replies (caught_up l.term (w.server l.to)) l.from l.to l.term l.body))
delivered_is w p keep l =
    let v : Core = record { server = w.server; network = left keep p w.network } in
    let j = l.to in
    let u = caught_up l.term (w.server j) in
    let hear = λ (z : Core). heard_in z l.from j l.term l.body in
    let step = λ (s : Server). with (change v j u) j (hears s l.from j l.term l.body) (joined_some v.network (replies s l.from j l.term l.body)) in
    ap (λ z. hear (caught_in z j l.term)) (left_is w keep p)
    ∙ (ap hear (sym (change_if v j (ltb (v.server j).term l.term) (taken l.term (v.server j))))
    ∙ (heard_is (change v j u) l.from j l.term l.body
    ∙ (ap step (put_here v.server j u)
    ∙ ap (λ (z : Core). record { server = z.server; network = joined_some v.network (replies u l.from j l.term l.body) }) (change_change v j u (hears u l.from j l.term l.body)))))

pub campaign_is : (w : Core) (j : ServerId)
    → cond (may_campaign (w.server j))
    (posted (posted (change w j (stands j (w.server j))) (vote_request j (stands j (w.server j)) (low j))) (vote_request j (stands j (w.server j)) (high j)))
    w
    ≡ campaign_call w j
campaign_is w j = pulled w j (λ p. p) (may_campaign (w.server j)) refl (idle w j)
