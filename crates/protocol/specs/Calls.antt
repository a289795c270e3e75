-- The twelve calls: what each answers, the refusals in order of checking by their numbers, and the cluster after it. A refused call changes nothing.
use Rattle.std.specs.Prelude.{◌≡◌, ℕ, suc, ◌+◌, ◌-◌, Bool, true, false, cond, not, ◌&&◌, ◌||◌, List, ◌++◌, length, take, drop, ℤ, Ok, Err, Result, nat_le, nat_lt, slice_index_or}
use Rattle.std.specs.Option.{ok_or}
use Rattle.sheet.specs.declared.types.Edit.{Edit}
use Rattle.machine.specs.States.{newest}
use Rattle.protocol.specs.declared.Standing.{Standing}
use Rattle.protocol.specs.declared.Standing.TheVariants.{Kept, Gone, Open, Unknown}
use Rattle.protocol.specs.ServerIds.{ServerId, one, numbered, same, low, high}
use Rattle.protocol.specs.State.{Server, is_leader, VoteReply, Message, Core, Machine, Cluster, joined, lost_of, joined_some, lost_some, change, with, posted}
use Rattle.protocol.specs.Elections.{caught_up, last_of_terms, stands, may_campaign, campaigns, vote_request}
use Rattle.protocol.specs.AppendEntries.{append_request}
use Rattle.protocol.specs.Rules.{hears, replies, proposes, firms, openly, few_open, applies_next, fails, may_keep, restarts, standing_of, moved}

-- A call, with its arguments as they are given: servers by number and messages by position, any number; an outage with the count that it told.
pub data Call : Type 0 where
  campaign : (server : ℕ) → Call
  deliver : (position : ℕ) → (keep : Bool) → Call
  lose : (position : ℕ) → Call
  propose : (server : ℕ) → Edit → Call
  firm : (server : ℕ) → Call
  send : (server receiver : ℕ) → Call
  apply : (server : ℕ) → Call
  outage : (server kept : ℕ) → Call
  restart : (server : ℕ) → Call
  standing : (server n t : ℕ) → Call
  close : (server n t : ℕ) → Call
  look : (server : ℕ) → (row size : ℤ) → Call

-- An answer: the number of a refusal; or, by the call, nothing more, how many messages were lost, a ticket's number and term,
-- how many entries an outage kept, a standing, a cell.
pub data Answer : Type 0 where
  refused : ℕ → Answer
  done : Answer
  lost : ℕ → Answer
  ticket : (n t : ℕ) → Answer
  keeps : ℕ → Answer
  word : Standing → Answer
  cell : ℕ → Answer

-- The message at a position, from 1, and the network without it.
abbrev pub has_message : ℕ → List Message → Bool
has_message p ms = nat_lt 0 p && nat_le p (length ms)

abbrev pub nowhere : Message
nowhere = record { from = one; to = one; term = 0; body = VoteReply false }

abbrev pub message_at : ℕ → List Message → Message
message_at p ms = slice_index_or ms (p - 1) nowhere

abbrev pub without : ℕ → List Message → List Message
without p ms = take (p - 1) ms ++ drop p ms

-- the network once the message at p is delivered
abbrev pub left : Bool → ℕ → List Message → List Message
left keep p ms = cond keep ms (without p ms)

-- Campaign: the next term, and two vote requests, the lower receiver first.
abbrev pub campaign_call : Core → ServerId → Core
campaign_call w j =
    let s = stands j (w.server j) in
    with w j (campaigns j (w.server j))
    (cond (may_campaign (w.server j)) (joined (joined w.network (vote_request j s (low j))) (vote_request j s (high j))) w.network)

abbrev pub campaign_answer : Core → ServerId → Result ℕ ℕ
campaign_answer w j =
    cond (w.server j).up (cond (is_leader (w.server j).role) (Err 3) (cond (nat_lt (w.server j).term last_of_terms)
    (Ok (lost_of w.network + lost_of (joined w.network (vote_request j (stands j (w.server j)) (low j))))) (Err 4))) (Err 2)

-- Deliver: the message is removed first unless it is to be kept; the receiver takes its term if higher, and hears it.
abbrev pub deliver_call : Core → ℕ → Bool → Core
deliver_call w p keep =
    let l = message_at p w.network in
    let s = caught_up l.term (w.server l.to) in
    cond (has_message p w.network && (w.server l.to).up)
    (with w l.to (hears s l.from l.to l.term l.body) (joined_some (left keep p w.network) (replies s l.from l.to l.term l.body)))
    w

abbrev pub deliver_answer : Core → ℕ → Bool → Result ℕ ℕ
deliver_answer w p keep =
    let l = message_at p w.network in
    let s = caught_up l.term (w.server l.to) in
    cond (has_message p w.network)
    (cond (w.server l.to).up
    (Ok (lost_some (left keep p w.network) (replies s l.from l.to l.term l.body)))
    (Err 2))
    (Err 5)

abbrev pub lose_call : Core → ℕ → Core
lose_call w p = cond (has_message p w.network) (record { server = w.server; network = without p w.network }) w

abbrev pub lose_answer : Core → ℕ → Result (Unit {0}) ℕ
lose_answer w p = cond (has_message p w.network) (Ok tt) (Err 5)

-- Propose: an entry of the leader's term, volatile, and a ticket with its number and term.
abbrev pub propose_call : Core → ServerId → Edit → Core
propose_call w j e = change w j (proposes e (w.server j))

abbrev pub propose_answer : Server → Result (ℕ × ℕ) ℕ
propose_answer s = cond s.up (cond (is_leader s.role) (cond (nat_lt (length s.log) 64) (Ok (suc (length s.log), s.term)) (Err 7)) (Err 6)) (Err 2)

-- Firm: the store is synced; a leader then raises its commit.
abbrev pub firm_call : Core → ServerId → Core
firm_call w j = change w j (firms j (w.server j))

abbrev pub firm_answer : Server → Result (Unit {0}) ℕ
firm_answer s = cond s.up (Ok tt) (Err 2)

-- Send: a leader's append request to another.
abbrev pub send_call : Core → ServerId → ServerId → Core
send_call w j r =
    cond ((w.server j).up && (is_leader (w.server j).role && not (same j r))) (posted w (append_request j (w.server j) r)) w

abbrev pub send_answer : Core → ServerId → ServerId → Result ℕ ℕ
send_answer w j r = cond (w.server j).up (cond (is_leader (w.server j).role) (cond (same j r) (Err 8) (Ok (lost_of w.network))) (Err 6)) (Err 2)

-- Apply: the next entry, below commit or openly.
abbrev pub apply_call : Core → ServerId → Core
apply_call w j = change w j (applies_next (w.server j))

abbrev pub apply_answer : Server → Result (Unit {0}) ℕ
apply_answer s = cond s.up (cond (nat_lt s.applied s.commit) (Ok tt) (cond (openly s) (cond (few_open s) (Ok tt) (Err 10)) (Err 9))) (Err 2)

-- Outage and restart.
abbrev pub outage_call : Core → ServerId → ℕ → Core
outage_call w j c = change w j (fails c (w.server j))

abbrev pub outage_answer : Server → ℕ → Result ℕ ℕ
outage_answer s c = cond s.up (Ok c) (Err 2)

abbrev pub restart_call : Core → ServerId → Core
restart_call w j = change w j (restarts (w.server j))

abbrev pub restart_answer : Server → Result (Unit {0}) ℕ
restart_answer s = cond s.up (Err 11) (Ok tt)

-- Standing, close and look change nothing. Close answers kept or gone.
abbrev pub standing_answer : Server → ℕ → ℕ → Result Standing ℕ
standing_answer s n t = cond s.up (Ok (standing_of s n t)) (Err 2)

abbrev pub decided : Standing → Result Standing ℕ
decided Kept = Ok Kept
decided Gone = Ok Gone
decided Open = Err 12
decided Unknown = Err 12

abbrev pub close_answer : Server → ℕ → ℕ → Result Standing ℕ
close_answer s n t = cond s.up (decided (standing_of s n t)) (Err 2)

abbrev pub look_answer : {X : Type 0} → Machine X → Server → List X → ℤ → ℤ → Result ℕ ℕ
look_answer M s ms row size = cond s.up (ok_or (M.cell (newest M.opening ms) row size) 13) (Err 2)

-- The core after a call.
abbrev pub core_after : Core → Call → Core
core_after w (campaign n) = numbered n (campaign_call w) w
core_after w (deliver p keep) = deliver_call w p keep
core_after w (lose p) = lose_call w p
core_after w (propose n e) = numbered n (λ j. propose_call w j e) w
core_after w (firm n) = numbered n (firm_call w) w
core_after w (send n r) = numbered n (λ j. numbered r (send_call w j) w) w
core_after w (apply n) = numbered n (apply_call w) w
core_after w (outage n c) = numbered n (λ j. outage_call w j c) w
core_after w (restart n) = numbered n (restart_call w) w
core_after w (standing n i t) = w
core_after w (close n i t) = w
core_after w (look n row size) = w

-- The cluster after a call: each machine moves with its server.
abbrev pub after : {X : Type 0} → Machine X → Cluster X → Call → Cluster X
after M k c = record {
  core = core_after k.core c;
  states = λ j. moved M (k.core.server j) ((core_after k.core c).server j) (k.states j);
}

-- What a result says: its value as an answer, or the number of the refusal.
abbrev pub said : {V : Type 0} → (V → Answer) → Result V ℕ → Answer
said f (Ok v) = f v
said f (Err n) = refused n

-- The answer to a call; 1 where there is no server with the number given.
abbrev pub answer : {X : Type 0} → Machine X → Cluster X → Call → Answer
answer M k (campaign n) = numbered n (λ j. said lost (campaign_answer k.core j)) (refused 1)
answer M k (deliver p keep) = said lost (deliver_answer k.core p keep)
answer M k (lose p) = said (λ _. done) (lose_answer k.core p)
answer M k (propose n e) = numbered n (λ j. said (λ x. ticket x.0 x.1) (propose_answer (k.core.server j))) (refused 1)
answer M k (firm n) = numbered n (λ j. said (λ _. done) (firm_answer (k.core.server j))) (refused 1)
answer M k (send n r) = numbered n (λ j. numbered r (λ q. said lost (send_answer k.core j q)) (refused 1)) (refused 1)
answer M k (apply n) = numbered n (λ j. said (λ _. done) (apply_answer (k.core.server j))) (refused 1)
answer M k (outage n c) = numbered n (λ j. said keeps (outage_answer (k.core.server j) c)) (refused 1)
answer M k (restart n) = numbered n (λ j. said (λ _. done) (restart_answer (k.core.server j))) (refused 1)
answer M k (standing n i t) = numbered n (λ j. said word (standing_answer (k.core.server j) i t)) (refused 1)
answer M k (close n i t) = numbered n (λ j. said word (close_answer (k.core.server j) i t)) (refused 1)
answer M k (look n row size) = numbered n (λ j. said cell (look_answer M (k.core.server j) (k.states j) row size)) (refused 1)

-- All but one choice is made by the rules: an outage of an up server tells a count from what is durable up to the whole log.
abbrev pub keeps_enough : Core → Call → Bool
keeps_enough w (campaign n) = true
keeps_enough w (deliver p keep) = true
keeps_enough w (lose p) = true
keeps_enough w (propose n e) = true
keeps_enough w (firm n) = true
keeps_enough w (send n r) = true
keeps_enough w (apply n) = true
keeps_enough w (outage n c) = numbered n (λ j. not (w.server j).up || may_keep c (w.server j)) true
keeps_enough w (restart n) = true
keeps_enough w (standing n i t) = true
keeps_enough w (close n i t) = true
keeps_enough w (look n row size) = true

abbrev pub Allowed : Core → Call → Type 0
Allowed w c = keeps_enough w c ≡ true
