-- A vote counted, and the test that follows.
use Rattle.std.proofs.Common.{◌≡◌, true, false, sym, ap, ◌∙◌, subst}
use Rattle.std.proofs.lemmas.Bool.{cond-true, cond-false}
use Rattle.protocol.specs.declared.ServerId.{ServerId}
use Rattle.protocol.specs.ServerIds.{put}
use Rattle.protocol.specs.State.{Server}
use Rattle.protocol.specs.Elections.{two_of, counts, wins, tallied}

pub tally_yes : (from : ServerId) (s m t : Server) → m ≡ counts from s → t ≡ wins m → two_of m.voters ≡ true → t ≡ tallied from s
tally_yes from s m t a b e =
    let z : two_of (put s.voters from true) ≡ true = subst (λ (x : Server). two_of x.voters ≡ true) a e in
    b ∙ (ap wins a ∙ sym (cond-true (two_of (put s.voters from true)) _ _ z))

pub tally_no : (from : ServerId) (s m : Server) → m ≡ counts from s → two_of m.voters ≡ false → m ≡ tallied from s
tally_no from s m a e =
    let z : two_of (put s.voters from true) ≡ false = subst (λ (x : Server). two_of x.voters ≡ false) a e in
    a ∙ sym (cond-false (two_of (put s.voters from true)) _ _ z)
