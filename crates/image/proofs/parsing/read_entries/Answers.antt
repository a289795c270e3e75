use Rattle.std.proofs.Common.{◌≡◌, ◌<◌, ◌++◌, length, Ok, Err, sym, refl, ap, ◌∙◌, inl, inr, arith, rules}
use Rattle.std.proofs.lemmas.List.{nil_from_length}
use Rattle.std.proofs.lemmas.Result.{err_from_is_err_and}
use Rattle.record.specs.declared.kinds.Record.TheVariants.{Opening, Logged}
use Rattle.record.specs.Format.{encode, BallotFits, EntryFits}
use Rattle.image.specs.Images.{held}
use Rattle.image.proofs.Reading.{behind_more, behind_all, behind_wrong, too_many, unfit, no_fault, length_entry}
use Rattle.image.proofs.parsing.read_entries.Goals as goal
use Rattle.image.proofs.parsing.read_entries.Goals.{In-Logged}

fits : (c : In-Logged) → EntryFits c.in-Logged.entry
fits c = (search rules, search rules, search rules, search rules, search rules, search rules)

begins : (c : In-Logged) → c.loop-rest.rest.now ≡ encode (Logged c.in-Logged.entry) ++ c.in_ok-record.after.now
begins c = c.in_ok-record.ensures.answer ∙ ap (λ x. encode x ++ c.in_ok-record.after.now) c.in-Logged.is

some_bytes : (c : In-Logged) → 0 < length c.loop-rest.rest.now
some_bytes c = search rules

pub returns-in_err-record : goal.returns-in_err-record
returns-in_err-record c =
    let p = err_from_is_err_and c.from_residual.result c.from_residual.ensures.1 in
    let l : 0 < length c.loop-rest.rest.now = search rules in
    rw (p.1, p.2) (Err _, behind_wrong _ _ _ _ _ _ _ _ c.loop-rest.invariant.2 l (inl (_, c.in_err-record.ensures.answer, refl)), refl)

pub returns-in_default : goal.returns-in_default
returns-in_default c =
    let l : 0 < length c.loop-rest.rest.now = search rules in
    let f : BallotFits c.in_default.field-0 = (search rules, search rules) in
    let e : c.loop-rest.rest.now ≡ encode (Opening c.in_default.field-0) ++ c.in_ok-record.after.now
    = c.in_ok-record.ensures.answer ∙ ap (λ x. encode x ++ c.in_ok-record.after.now) c.in_default.is in
    (Err _, behind_wrong _ _ _ _ _ _ _ _ c.loop-rest.invariant.2 l (inr (Opening c.in_default.field-0, _, f, e, refl)), refl)

pub returns-then-contents-eq-MAX_ENTRIES : goal.returns-then-contents-eq-MAX_ENTRIES
returns-then-contents-eq-MAX_ENTRIES c =
    let at = (goal.at.returns-then-contents-eq-MAX_ENTRIES c).In-Logged in
    let t = too_many c.args.ballot.term c.loop-rest.contents.len c.loop-rest.low c.loop-rest.offset c.in-Logged.entry (omega arith) in
    (Err _, behind_wrong _ _ _ _ _ _ _ _ c.loop-rest.invariant.2 (some_bytes at) (inr (Logged c.in-Logged.entry, _, fits at, begins at, t)), refl)

pub returns-then-not-term_in_range : goal.returns-then-not-term_in_range
returns-then-not-term_in_range c =
    let at = (goal.at.returns-then-not-term_in_range c).In-Logged in
    let t = unfit c.args.ballot.term c.loop-rest.contents.len c.loop-rest.low c.loop-rest.offset c.in-Logged.entry (omega arith) (sym c.if-not-term_in_range.ensures) in
    (Err _, behind_wrong _ _ _ _ _ _ _ _ c.loop-rest.invariant.2 (some_bytes at) (inr (Logged c.in-Logged.entry, _, fits at, begins at, t)), refl)

pub loop-rest-smaller : goal.loop-rest-smaller
loop-rest-smaller c =
    omega (arith, ap length (begins (goal.at.loop-rest-smaller c).In-Logged), length_entry c.in-Logged.entry c.in_ok-record.after.now)

pub loop-rest-preserved : goal.loop-rest-preserved
loop-rest-preserved c =
    let at = (goal.at.loop-rest-preserved c).In-Logged in
    let t = no_fault c.args.ballot.term c.loop-rest.contents.len c.loop-rest.low c.loop-rest.offset c.in-Logged.entry (omega arith) (sym c.if-not-term_in_range.ensures) in (
      omega (arith, c.push.ensures.len),
      c.push.ensures.ballot ∙ c.loop-rest.invariant.1,
      behind_more _ _ _ _ _ _ _ _ _ _ _ c.loop-rest.invariant.2 (fits at, begins at, t) c.push.ensures.entries c.push.ensures.len,
    )

pub returns : goal.returns
returns c =
    let l : length c.loop-rest.rest.now ≡ 0 = search rules in
    (Ok _, behind_all _ _ _ _ _ _ _ c.loop-rest.invariant.2 (nil_from_length c.loop-rest.rest.now l), ap (λ b. Ok (b, held c.loop-rest.contents)) c.loop-rest.invariant.1)
