-- A line, from what was read of it and what was made of that.
use Rattle.std.proofs.Common.{◌≡◌, ℕ, List, Some, None, Option, Ok, Err, Result, refl, sym, subst}
use Rattle.refusal.specs.declared.Refusal.{Refusal}
use Rattle.refusal.specs.Numbers.{told}
use Rattle.protocol.specs.State.{Machine, Cluster as Model}
use Rattle.cluster.specs.Called.{Called}
use Rattle.command.specs.declared.types.Command.{Command}
use Rattle.command.specs.declared.types.Told.{Told}
use Rattle.command.specs.declared.types.Problem.{Problem}
use Rattle.command.specs.declared.types.Problem.TheVariants.{NoCommand, Refused}
use Rattle.command.specs.Grammar.{FindsOnly, Reads}
use Rattle.session.specs.Made.{call_of, kept_in, answer_of}
use Rattle.session.specs.Answered.{told_problem, Heeds}

-- it was read as none
module _ {X : Type 0} (K : Machine X) (line : List ℕ) (before : Model X) where
  pub unread_line : (read : Option Command) → FindsOnly read (Reads line) → read ≡ None → (a : Result Told Problem) → a ≡ Err NoCommand → Heeds K line a before before
  unread_line read f e a p =
      let none : (k : Command) → Reads line k → ⊥ = subst (λ (o : Option Command). FindsOnly o (Reads line)) e f in
      record { made = λ k r. absurd (none k r); unread = λ _. (p, refl) }

-- it was read as the command k
module _ {X : Type 0} (K : Machine X) (line : List ℕ) (before later : Model X) where
  read_line : (read : Option Command) → FindsOnly read (Reads line) → (k : Command) → read ≡ Some k → (a : Result Told Problem)
      → Called K (call_of k (kept_in a)) (answer_of (told_problem a)) before later → Heeds K line a before later
  read_line read f k e a c =
      let only : Reads line k × ((y : Command) → Reads line y → y ≡ k) = subst (λ (o : Option Command). FindsOnly o (Reads line)) e f in
      record {
        made = λ y r. subst (λ (z : Command). Called K (call_of z (kept_in a)) (answer_of (told_problem a)) before later) (sym (only.1 y r)) c;
        unread = λ none. absurd (none k only.0);
      }

  abbrev pub Made : Command → Result Told Refusal → Type 0
  Made k made = Called K (call_of k (kept_in made)) (answer_of (told made)) before later

  -- and the call was answered
  pub answered_line : (read : Option Command) → FindsOnly read (Reads line) → (k : Command) → read ≡ Some k → (made : Result Told Refusal)
      → Made k made → (x : Told) → made ≡ Ok x → Heeds K line (Ok x) before later
  answered_line read f k e made c x p = read_line read f k e (Ok x) (subst (λ (r : Result Told Refusal). Made k r) p c)

  -- or refused
  pub refused_line : (read : Option Command) → FindsOnly read (Reads line) → (k : Command) → read ≡ Some k → (made : Result Told Refusal)
      → Made k made → (x : Refusal) → made ≡ Err x → (a : Result Told Problem) → a ≡ Err (Refused x) → Heeds K line a before later
  refused_line read f k e made c x p a q =
      subst (λ (r : Result Told Problem). Heeds K line r before later) (sym q) (read_line read f k e (Err (Refused x)) (subst (λ (r : Result Told Refusal). Made k r) p c))
