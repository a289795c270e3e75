-- How a call moves what a server has applied.
use Rattle.std.proofs.Common.{◌≡◌, ℕ, suc, ◌+◌, ◌<◌, ◌≤◌, min, Bool, true, false, cond, not, ◌&&◌, eqb, ltb, leb, [], ◌∷◌, ◌++◌, length, take, Some, None, Option, sym, refl, ◌∙◌, subst, inl, inr, arith}
use Rattle.std.proofs.lemmas.Bool.{cases_lt, cond_both, and_parts, or_cases, ltb-true, ltb-false, leb-true}
use Rattle.record.specs.declared.entry.Entry.{Entry}
use Rattle.protocol.specs.ServerIds.{ServerId, put, same, numbered}
use Rattle.protocol.specs.State.{Log, term_at, tip, Server, Body, VoteRequest, VoteReply, AppendRequest, AppendReply, Message, Core, change, posted, is_leader}
use Rattle.protocol.specs.Elections.{grants, counting, may_campaign, taken, stands, votes_for, counts, two_of, wins}
use Rattle.protocol.specs.AppendEntries.{follows, holds, commits, reaches, raises, got_reply, got_yes, got_no}
use Rattle.protocol.specs.Rules.{openly, few_open, may_propose, gains, syncs, stops, starts, applies, may_apply}
use Rattle.protocol.specs.Calls.{without, has_message, message_at, Call, campaign, deliver, lose, propose, firm, send, apply, outage, restart, standing, close, look, campaign_call, propose_call, firm_call, send_call, apply_call, outage_call, restart_call, core_after}
use Rattle.protocol.proofs.History.{Pre, Hist, Inv}
use Rattle.protocol.proofs.Parts.{kept_in, took_in, heard_in, caught_in}
use Rattle.protocol.proofs.Shelf.{pre_refl, pre_trans, pre_less, pre_push, put_all}
use Rattle.protocol.proofs.Append.{cut_pre}
use Rattle.protocol.proofs.Heard.{caught_next}
use Rattle.protocol.proofs.Next.{without_inv}
use Rattle.protocol.proofs.Turns.{change_if, change_unless, noted, campaign_is, delivered_is}
use Rattle.protocol.proofs.After.{numbered_both}

-- no more is applied than was, no less than commit, and it is as it was; commit does not fall
pub record Falls (s s' : Server) : Type 0 where
  pub up : s'.up ≡ s.up
  pub less : s'.applied ≤ s.applied
  pub pre : Pre s'.applied s.log s'.log
  pub back : s'.applied < s.applied → s.commit ≤ s'.applied
  pub commit : s.commit ≤ s'.commit

pub data Moves (s s' : Server) : Type 0 where
  falls : Falls s s' → Moves s s'
  sleeps : s'.up ≡ false → s'.applied ≡ 0 → Moves s s'
  wakes : s.up ≡ false → s'.applied ≡ s.applied → s'.log ≡ s.log → Moves s s'
  rises : s'.up ≡ true → s.up ≡ true → s'.applied ≡ suc s.applied → s'.log ≡ s.log → s'.commit ≡ s.commit → s.applied < s.commit + 16 → Moves s s'

same_falls : {s s' : Server} → s.applied ≤ length s.log → s'.up ≡ s.up → s'.applied ≡ s.applied → s'.log ≡ s.log → s.commit ≤ s'.commit → Falls s s'
same_falls {s} {s'} h u a l c = record
    { up = u; less = omega arith; pre = rw l (pre_refl s.log s'.applied (omega arith)); back = λ z. absurd (omega arith); commit = c }

falls_trans : {r s t : Server} → Falls r s → Falls s t → Falls r t
falls_trans {r} {s} {t} f g = record {
  up = g.up ∙ f.up;
  less = omega (arith, f.less, g.less);
  pre = pre_trans (pre_less g.less f.pre) g.pre;
  back = λ z. elim (cases_lt t.applied s.applied) [
    | inl h ↦ omega (arith, g.back h, f.commit)
    | inr h ↦ omega (arith, f.back (omega (arith, g.less)), g.less)
  ];
  commit = omega (arith, f.commit, g.commit);
}

taken_falls : (s : Server) (T : ℕ) → s.applied ≤ length s.log → Falls s (taken T s)
taken_falls s T h = record
    { up = refl; less = omega arith; pre = pre_refl s.log _ (omega arith); back = λ z. omega arith; commit = omega arith }

-- of each server; a record, so that both can be read off the type
record AllFall (w v : Core) : Type 0 where
  each : (j : ServerId) → Falls (w.server j) (v.server j)

fall_split : {w : Core} (b : Bool) (x y : Core) → (b ≡ true → AllFall w x) → (b ≡ false → AllFall w y) → AllFall w (cond b x y)
fall_split {w} b x y = cond_both b x y (AllFall w)

fall_post : {w v : Core} (l : Message) → AllFall w v → AllFall w (posted v l)
fall_post l f = record { each = f.each }

fall_trans : {u v w : Core} → AllFall u v → AllFall v w → AllFall u w
fall_trans f g = record { each = λ j. falls_trans (f.each j) (g.each j) }

module _ {g : Hist} {w : Core} (inv : Inv g w) where
  all_same : AllFall w w
  all_same = record { each = λ j. same_falls (inv.each j).machine.within refl refl refl (omega arith) }

  one_falls : (j : ServerId) (s : Server) → Falls (w.server j) s → AllFall w (change w j s)
  one_falls j s f = record { each = put_all w.server j s (λ k t. Falls (w.server k) t) f (λ k n. all_same.each k) }

  -- a server that keeps its log and what it has applied
  alike : (j : ServerId) (s : Server) → s.up ≡ (w.server j).up → s.applied ≡ (w.server j).applied → s.log ≡ (w.server j).log → (w.server j).commit ≤ s.commit → AllFall w (change w j s)
  alike j s u a l c = one_falls j s (same_falls (inv.each j).machine.within u a l c)

  holds_falls : (to : ServerId) (l : Log) (p a n : ℕ) → Pre p (w.server to).log l → a ≤ min (w.server to).applied p → (a < (w.server to).applied → (w.server to).commit ≤ a)
      → (w.server to).commit ≤ n → AllFall w (change w to (commits n (holds l a (w.server to))))
  holds_falls to l p a n q h b m = one_falls to _ (record { up = refl; less = omega arith; pre = pre_less (omega arith) q; back = b; commit = m })

  stays_falls : (from to : ServerId) (T m k : ℕ) → AllFall w (kept_in w from to T (w.server to).log (w.server to).applied m k)
  stays_falls from to T m k = fall_post _ (holds_falls to (w.server to).log (length (w.server to).log) (w.server to).applied _ (pre_refl _ _ (omega arith)) (omega (arith, (inv.each to).machine.within)) (λ z. absurd (omega arith)) (omega arith))

  cut_falls : (from to : ServerId) (T p k : ℕ) (e : Entry) → p ≤ length (w.server to).log → (w.server to).commit ≤ p → AllFall w (kept_in w from to T (take p (w.server to).log ++ e ∷ []) (min (w.server to).applied p) (suc p) k)
  cut_falls from to T p k e l c = fall_post _ (holds_falls to _ p (min (w.server to).applied p) _ (cut_pre (w.server to).log p e l) (omega arith) (λ z. omega arith) (omega arith))

  append_falls : (from to : ServerId) (T p k : ℕ) (e : Entry) → AllFall w (kept_in w from to T ((w.server to).log ++ e ∷ []) (w.server to).applied (suc p) k)
  append_falls from to T p k e = fall_post _ (holds_falls to _ (length (w.server to).log) (w.server to).applied _ (pre_push (w.server to).log e)
      (omega (arith, (inv.each to).machine.within)) (λ z. absurd (omega arith)) (omega arith))

  took_falls : (from to : ServerId) (T p k : ℕ) (e : Option Entry) → p ≤ length (w.server to).log → AllFall w (took_in w from to T p k e)
  took_falls from to T p k None h = stays_falls from to T p k
  took_falls from to T p k (Some e) h = fall_split (leb 64 p) _ _
      (λ _. alike to (follows (w.server to)) refl refl refl (omega arith))
      (λ _. fall_split (ltb p (length (w.server to).log)) _ _
      (λ a. fall_split (eqb (term_at (w.server to).log p) e.term) _ _
      (λ _. stays_falls from to T (suc p) k)
      (λ _. fall_split (ltb p (w.server to).commit) _ _
      (λ _. alike to (follows (w.server to)) refl refl refl (omega arith))
      (λ c. cut_falls from to T p k e h (ltb-false p _ c))))
      (λ a. append_falls from to T p k e))

  replied_falls : (from to : ServerId) (m : Option ℕ) → AllFall w (change w to (raises to (got_reply from m (w.server to))))
  replied_falls from to None = alike to (raises to (got_no from (w.server to))) refl refl refl (omega arith)
  replied_falls from to (Some m) = alike to (raises to (got_yes from m (w.server to))) refl refl refl (omega arith)

  heard_falls : (from to : ServerId) (T : ℕ) (k : Body) → AllFall w (heard_in w from to T k)
  heard_falls from to T (VoteRequest pair) = fall_split (grants (w.server to) from T pair) _ _ (λ _. fall_post _ (alike to (votes_for from (w.server to)) refl refl refl (omega arith))) (λ _. fall_post _ all_same)
  heard_falls from to T (VoteReply ok) = fall_split (counting (w.server to) T ok) _ _
      (λ _. fall_split (two_of (put (w.server to).voters from true)) _ _ (λ _. alike to (wins (counts from (w.server to))) refl refl refl (omega arith)) (λ _. alike to (counts from (w.server to)) refl refl refl (omega arith)))
      (λ _. all_same)
  heard_falls from to T (AppendRequest a) = fall_split (eqb T (w.server to).term) _ _
      (λ _. fall_split (is_leader (w.server to).role) _ _
      (λ _. all_same)
      (λ _. fall_split (reaches (w.server to).log a.previous a.previous_term) _ _
      (λ b. took_falls from to T a.previous a.commit a.entry
      (leb-true a.previous _ (and_parts (leb a.previous (length (w.server to).log)) (eqb (tip (w.server to).log a.previous) a.previous_term) b).0))
      (λ _. fall_post _ (alike to (follows (w.server to)) refl refl refl (omega arith)))))
      (λ _. fall_post _ all_same)
  heard_falls from to T (AppendReply m) = fall_split (eqb T (w.server to).term && is_leader (w.server to).role) _ _ (λ _. replied_falls from to m) (λ _. all_same)

  caught_falls : (j : ServerId) (T : ℕ) → AllFall w (caught_in w j T)
  caught_falls j T = fall_split _ _ _ (λ _. one_falls j (taken T (w.server j)) (taken_falls (w.server j) T (inv.each j).machine.within)) (λ _. all_same)

-- the message's handling, after the receiver has caught up
deliver_falls : {g : Hist} {w : Core} → Inv g w → (l : Message) → AllFall w (heard_in (caught_in w l.to l.term) l.from l.to l.term l.body)
deliver_falls inv l =
    let n = caught_next inv l.to l.term in
    fall_trans (caught_falls inv l.to l.term) (heard_falls n.inv l.from l.to l.term l.body)

few_open_by : (s : Server) → may_apply s ≡ true → s.applied < s.commit + 16
few_open_by s h = elim (or_cases (ltb s.applied s.commit) (openly s && few_open s) h) [
  | inl p ↦ omega (arith, ltb-true _ _ p)
  | inr p ↦ ltb-true _ _ (and_parts (openly s) (few_open s) p).1
]

pub record AllMove (w v : Core) : Type 0 where
  pub each : (j : ServerId) → Moves (w.server j) (v.server j)

move_split : {w : Core} (b : Bool) (x y : Core) → (b ≡ true → AllMove w x) → (b ≡ false → AllMove w y) → AllMove w (cond b x y)
move_split {w} b x y = cond_both b x y (AllMove w)

fall_moves : {w v : Core} → AllFall w v → AllMove w v
fall_moves f = record { each = λ j. falls (f.each j) }

module _ {g : Hist} {w : Core} (inv : Inv g w) where
  none_move : AllMove w w
  none_move = fall_moves (all_same inv)

  one_moves : (j : ServerId) (s : Server) → Moves (w.server j) s → AllMove w (change w j s)
  one_moves j s f = record { each = put_all w.server j s (λ k t. Moves (w.server k) t) f (λ k n. none_move.each k) }

  deliver_kept : (p : ℕ) (b : Bool) (l : Message)
      → AllFall w (heard_in (caught_in (cond b w (record { server = w.server; network = without p w.network })) l.to l.term) l.from l.to l.term l.body)
  deliver_kept p true l = deliver_falls inv l
  deliver_kept p false l = record { each = (deliver_falls (without_inv inv p) l).each }

  on_server : (n : ℕ) (f : ServerId → Core) → ((j : ServerId) → AllMove w (f j)) → AllMove w (numbered n f w)
  on_server n f h = numbered_both (AllMove w) n f w h none_move

  pub after_moves : (c : Call) → AllMove w (core_after w c)
  after_moves (campaign n) = on_server n (campaign_call w) (λ j. subst (AllMove w) (campaign_is w j) (move_split (may_campaign (w.server j)) _ _
      (λ _. fall_moves (fall_post _ (fall_post _ (one_falls inv j (stands j (w.server j)) (record
      { up = refl; less = omega arith; pre = pre_refl (w.server j).log _ (omega (arith, (inv.each j).machine.within)); back = λ z. omega arith; commit = omega arith })))))
      (λ _. none_move)))
  after_moves (deliver p keep) = move_split (has_message p w.network && (w.server (message_at p w.network).to).up) _ _
      (λ _. fall_moves (subst (AllFall w) (delivered_is w p keep (message_at p w.network)) (deliver_kept p keep (message_at p w.network))))
      (λ _. none_move)
  after_moves (lose p) = move_split (has_message p w.network) _ _ (λ _. record { each = none_move.each }) (λ _. none_move)
  after_moves (propose n e) = on_server n (λ j. propose_call w j e) (λ j. subst (AllMove w) (sym (change_if w j (may_propose (w.server j)) _)) (move_split (may_propose (w.server j)) _ _
      (λ _. fall_moves (one_falls inv j (gains (record { term = (w.server j).term; edit = e }) (w.server j)) (record
      { up = refl; less = omega arith; pre = pre_less (inv.each j).machine.within (pre_push (w.server j).log _); back = λ z. absurd (omega arith); commit = omega arith })))
      (λ _. none_move)))
  after_moves (firm n) = on_server n (firm_call w) (λ j. subst (AllMove w) (noted w j (w.server j).up (is_leader (w.server j).role) _ _) (move_split (w.server j).up _ _
      (λ _. move_split (is_leader (w.server j).role) _ _
      (λ _. fall_moves (alike inv j (raises j (syncs (w.server j))) refl refl refl (omega arith))) (λ _. fall_moves (alike inv j (syncs (w.server j)) refl refl refl (omega arith))))
      (λ _. none_move)))
  after_moves (send n r) = on_server n (λ j. numbered r (send_call w j) w) (λ j. on_server r (send_call w j) (λ q.
      move_split ((w.server j).up && (is_leader (w.server j).role && not (same j q))) _ _ (λ _. fall_moves (fall_post _ (all_same inv))) (λ _. none_move)))
  after_moves (apply n) = on_server n (apply_call w) (λ j. subst (AllMove w) (sym (change_if w j ((w.server j).up && may_apply (w.server j)) _)) (move_split _ _ _
      (λ a. let u = and_parts (w.server j).up (may_apply (w.server j)) a in one_moves j (applies (w.server j)) (rises u.0 u.0 refl refl refl (few_open_by (w.server j) u.1)))
      (λ _. none_move)))
  after_moves (outage n c) = on_server n (λ j. outage_call w j c) (λ j. subst (AllMove w) (sym (change_if w j (w.server j).up _)) (move_split (w.server j).up _ _ (λ _. one_moves j (stops c (w.server j)) (sleeps refl refl)) (λ _. none_move)))
  after_moves (restart n) = on_server n (restart_call w) (λ j. subst (AllMove w) (sym (change_unless w j (w.server j).up _)) (move_split (w.server j).up _ _ (λ _. none_move) (λ e. one_moves j (starts (w.server j)) (wakes e refl refl))))
  after_moves (standing n i t) = none_move
  after_moves (close n i t) = none_move
  after_moves (look n row size) = none_move
