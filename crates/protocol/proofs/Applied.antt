-- What is applied past commit is of the own term.
use Rattle.std.proofs.Common.{◌≡◌, ℕ, zero, suc, ◌<◌, ◌≤◌, min, true, eqb, ltb, length, sym, ◌∙◌, inl, inr, arith}
use Rattle.std.proofs.lemmas.Bool.{cases_lt, and_parts, or_cases, ltb-true, eqb-true}
use Rattle.protocol.specs.ServerIds.{ServerId}
use Rattle.protocol.specs.State.{Log, tip, Server}
use Rattle.protocol.specs.AppendEntries.{commits}
use Rattle.protocol.specs.Rules.{applies, openly, few_open, may_apply}
use Rattle.protocol.proofs.History.{Pre, Hist, Sound, HistOk, AppliedOk, Ok}
use Rattle.protocol.proofs.Shelf.{pre_less}
use Rattle.protocol.proofs.Frame.{tip_pre}
use Rattle.protocol.proofs.Votes.{rising}

pub commit_le : {g : Hist} {j : ServerId} {s : Server} → Ok g j s → s.commit ≤ length s.log
commit_le {s = s} o = elim (cases_lt 0 s.commit) [ inl h ↦ (o.commit h).pre.left | inr h ↦ omega arith ]

-- nothing is applied past commit
pub applied_low : {s : Server} → s.applied ≤ length s.log → s.applied ≤ s.commit → AppliedOk s
applied_low h k = record { within = h; ahead = λ z. absurd (omega arith) }

-- another log that agrees through c, no more applied than that
pub applied_keeps : {s s' : Server} (c : ℕ) → Pre c s.log s'.log → AppliedOk s → s'.applied ≤ min s.applied c → s.commit ≤ c
    → s'.commit ≡ s.commit → s'.term ≡ s.term → AppliedOk s'
applied_keeps {s} {s'} c p a h k ec et = record {
  within = omega (arith, p.right);
  ahead = λ z. let o = a.ahead (omega arith) in
      (omega (arith, o.0), rw (ec, et) (sym (tip_pre s.commit (pre_less k p)) ∙ o.1));
}

pub tip_rising : {g : Hist} → HistOk g → (B : ℕ) (l : Log) → Sound g B l → (m n : ℕ) → 0 < m → m ≤ n → n ≤ length l → tip l m ≤ tip l n
tip_rising H B l s zero n a b c = absurd (omega arith)
tip_rising H B l s (suc i) zero a b c = absurd (omega arith)
tip_rising H B l s (suc i) (suc k) a b c = rising H B l s i k (omega arith) c

tip_below : {g : Hist} (B : ℕ) (l : Log) → Sound g B l → (n : ℕ) → 0 < n → n ≤ length l → tip l n < B
tip_below B l s zero a c = absurd (omega arith)
tip_below B l s (suc i) a c = (s i c).below

-- commit rises
pub applied_raised : {g : Hist} → HistOk g → (s : Server) → Sound g (suc s.term) s.log → (n : ℕ) → s.commit ≤ n → n ≤ length s.log → AppliedOk s → AppliedOk (commits n s)
applied_raised H s d n low high a = record {
  within = a.within;
  ahead = λ z. let o = a.ahead (omega arith) in
      (omega (arith, o.0), omega (arith, o.1, tip_rising H _ s.log d s.commit n o.0 low high, tip_below _ s.log d n (omega (arith, o.0)) high));
}

pub applied_more : (s : Server) → s.commit ≤ length s.log → may_apply s ≡ true → AppliedOk (applies s)
applied_more s c e = elim (or_cases _ _ e) [
  | inl h ↦ let k = ltb-true s.applied s.commit h in applied_low (omega arith) (omega arith)
  | inr h ↦
      let p = and_parts (openly s) (few_open s) h in
      let q = and_parts (ltb 0 s.commit) _ p.0 in
      let r = and_parts (eqb (tip s.log s.commit) s.term) _ q.1 in
      record { within = ltb-true s.applied (length s.log) r.1; ahead = λ z. (ltb-true 0 s.commit q.0, eqb-true (tip s.log s.commit) s.term r.0) }
]
