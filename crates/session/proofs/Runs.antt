-- A run by commands, one command more at a time.
use Rattle.std.proofs.Common.{◌≡◌, ℕ, ◌+◌, ◌<◌, List, [], ◌∷◌, ◌++◌, length, Result, get_or, take, sym, refl, ap, ◌∙◌, subst, arith, length-append}
use Rattle.std.proofs.lemmas.List.{take_more}
use Rattle.protocol.specs.State.{Machine, Cluster as Model, opening}
use Rattle.protocol.specs.Runs.{History, Run, following}
use Rattle.protocol.specs.Promises.{Promises}
use Rattle.protocol.proofs.Tickets.{safe}
use Rattle.cluster.specs.Called.{Called}
use Rattle.command.specs.declared.types.Command.{Command}
use Rattle.refusal.specs.declared.Refusal.{Refusal}
use Rattle.refusal.specs.Numbers.{told}
use Rattle.command.specs.declared.types.Told.{Told}
use Rattle.session.specs.Made.{call_of, kept_in, answer_of}
use Rattle.session.specs.Ran.{history_of, Ran}

history_push : (ks : List Command) (answers : List (Result Told Refusal)) (k : Command) (a : Result Told Refusal) → length answers ≡ length ks
    → history_of (ks ++ k ∷ []) (answers ++ a ∷ []) ≡ history_of ks answers ++ (call_of k (kept_in a), answer_of (told a)) ∷ []
history_push [] [] k a e = refl
history_push [] (b ∷ answers) k a e = absurd (omega arith)
history_push (j ∷ ks) [] k a e = absurd (omega arith)
history_push (j ∷ ks) (b ∷ answers) k a e = ap (λ (h : History). (call_of j (kept_in b), answer_of (told b)) ∷ h) (history_push ks answers k a (omega arith))

module _ {X : Type 0} (K : Machine X) where
  -- before the first
  pub ran_none : (answers : List (Result Told Refusal)) (k : Model X) → answers ≡ [] → k ≡ opening K → Ran K [] answers k
  ran_none answers k e f = record { all = ap length e; runs = tt; leads = f; promises = safe X K [] tt }

  more : (ks : List Command) (answers : List (Result Told Refusal)) (k : Command) (a : Result Told Refusal) (before later : Model X)
      → Ran K ks answers before → Called K (call_of k (kept_in a)) (answer_of (told a)) before later → Ran K (ks ++ k ∷ []) (answers ++ a ∷ []) later
  more ks answers k a before later r c =
      let on = c.runs (history_of ks answers) r.runs r.leads in
      let e = sym (history_push ks answers k a r.all) in
      record {
        all = simp length-append (omega (arith, r.all));
        runs = subst (Run K) e on.0;
        leads = subst (λ (h : History). later ≡ following K (opening K) h) e on.1;
        promises = subst (Promises K) e on.2;
      }

  -- after the one at i
  pub ran_more : (ks : List Command) (i : ℕ) (d : Command) → i < length ks → (answers answers' : List (Result Told Refusal)) (a : Result Told Refusal) (before later : Model X)
      → answers' ≡ answers ++ a ∷ [] → Ran K (take i ks) answers before → Called K (call_of (get_or ks i d) (kept_in a)) (answer_of (told a)) before later
      → Ran K (take (i + 1) ks) answers' later
  ran_more ks i d h answers answers' a before later e r c = rw (take_more ks i d h, e) (more (take i ks) answers (get_or ks i d) a before later r c)
