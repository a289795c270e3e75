-- The rules on six calls: what stands at each server after each.
use Rattle.std.specs.Prelude.{◌≡◌, false, [], ◌∷◌, ℕ, pos, length}
use Rattle.sheet.specs.declared.types.Edit.{Edit}
use Rattle.protocol.specs.declared.ServerId.TheVariants.{One, Two, Three}
use Rattle.protocol.specs.declared.Role.{Role}
use Rattle.protocol.specs.declared.Role.TheVariants.{Follower, Candidate, Leader}
use Rattle.protocol.specs.State.{Server, Core}
use Rattle.protocol.specs.Calls.{campaign, deliver, propose, firm, apply, refused, done, lost, ticket}
use Rattle.protocol.specs.Runs.{History, Run, moment}
use Rattle.safety.specs.Story.{sheets}

-- term, role, length, durable, commit, applied
abbrev pub Line : Type 0
Line = ℕ × Role × ℕ × ℕ × ℕ × ℕ

abbrev pub line : Server → Line
line s = (s.term, s.role, length s.log, s.durable, s.commit, s.applied)

abbrev pub lines : Core → Line × Line × Line
lines w = (line (w.server One), line (w.server Two), line (w.server Three))

abbrev pub idle : Edit
idle = record { kind = 0; row = pos 0; size = pos 0; a = pos 0; q = pos 0 }

abbrev pub six : History
six = (campaign 1, lost 0) ∷ (deliver 1 false, lost 0) ∷ (deliver 2 false, lost 0) ∷ (propose 1 idle, ticket 1 1) ∷ (firm 1, done) ∷ (apply 1, refused 9) ∷ []

abbrev pub shown : ℕ → Line × Line × Line
shown m = lines (moment sheets six m).core

pub record SixCalls : Type 0 where
  pub runs : Run sheets six
  pub first : shown 1 ≡ ((1, Candidate, 0, 0, 0, 0), (0, Follower, 0, 0, 0, 0), (0, Follower, 0, 0, 0, 0))
  pub second : shown 2 ≡ ((1, Candidate, 0, 0, 0, 0), (1, Follower, 0, 0, 0, 0), (0, Follower, 0, 0, 0, 0))
  pub third : shown 3 ≡ ((1, Leader, 0, 0, 0, 0), (1, Follower, 0, 0, 0, 0), (0, Follower, 0, 0, 0, 0))
  pub fourth : shown 4 ≡ ((1, Leader, 1, 0, 0, 0), (1, Follower, 0, 0, 0, 0), (0, Follower, 0, 0, 0, 0))
  pub fifth : shown 5 ≡ ((1, Leader, 1, 1, 0, 0), (1, Follower, 0, 0, 0, 0), (0, Follower, 0, 0, 0, 0))
  pub sixth : shown 6 ≡ ((1, Leader, 1, 1, 0, 0), (1, Follower, 0, 0, 0, 0), (0, Follower, 0, 0, 0, 0))
