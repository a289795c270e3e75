use Rattle.std.proofs.Common.{◌≡◌, ◌^◌, ◌<◌, Ok, Err, Some, None, Option, ◌++◌, sym, ◌∙◌, inl, inr, arith, rules}
use Rattle.std.specs.Option.{ok_or}
use Rattle.std.proofs.lemmas.List.{take-append-drop}
use Rattle.std.proofs.lemmas.Result.{err_from_is_err_and}
use Rattle.record.specs.Format.{BallotFits, EntryFits}
use Rattle.record.proofs.Back.{reads_back}
use Rattle.record.proofs.Cuts.{Cut, cut, head_says, whole_ballot, whole_entry, short, wrong_ballot, wrong_entry, wrong_kind}
use Rattle.record.proofs.read.read_record.Goals as goal
use Rattle.record.proofs.read.read_record.Goals.{In_ok-length, In_ok-fields}

-- the fault of an answer that was missing
fault : {X E : Type 0} (o : Option X) (e d : E) → Err d ≡ ok_or o e → o ≡ None → d ≡ e
fault None e d h n = cc
fault (Some x) e d h n = cc

apart : (c : In_ok-fields) → Cut c.args.bytes.now c.in_ok-fields.fields.now c.in_ok-fields.rest.now c.in_ok-length.field-0.kind
apart c =
    let hl : c.in_ok-length.field-0.length < 2 ^ 16 = search rules in
    let hk : c.in_ok-length.field-0.kind < 2 ^ 16 = search rules in
    let h = rw c.in_ok-length.ensures.ok_part at c.take_head.ensures in
    let s = rw c.in_ok-fields.ensures.ok_part at c.split_at_checked.ensures.cases in
    let whole = sym (take-append-drop _ _) ∙ (λ i. sym s.1 i ++ sym s.2 i) in
    cut _ _ _ _ _ _ h hl hk whole s.3

pub returns-in_err-length : goal.returns-in_err-length
returns-in_err-length c =
    let p = err_from_is_err_and c.from_residual.result c.from_residual.ensures.1 in
    let m = rw c.in_err-length.ensures.ok_part at c.take_head.ensures in
    let d = fault _ _ _ c.in_err-length.ensures.value c.in_err-length.ensures.ok_part in
    let a = short c.args.bytes.now c.args.offset (inl m) in
    rw (p.1, p.2, d) (record { answer = a; back = reads_back _ _ (Err _) tt a })

pub returns-in_err-fields : goal.returns-in_err-fields
returns-in_err-fields c =
    let p = err_from_is_err_and c.from_residual-in_err-fields.result c.from_residual-in_err-fields.ensures.1 in
    let hl : c.in_ok-length.field-0.length < 2 ^ 16 = search rules in
    let hk : c.in_ok-length.field-0.kind < 2 ^ 16 = search rules in
    let h = head_says _ _ _ _ (rw c.in_ok-length.ensures.ok_part at c.take_head.ensures) hl hk in
    let m = rw c.in_err-fields.ensures.ok_part at c.split_at_checked.ensures.cases in
    let d = fault _ _ _ c.in_err-fields.ensures.value c.in_err-fields.ensures.ok_part in
    let a = short c.args.bytes.now c.args.offset (inr (omega (arith, h.0, h.2, m))) in
    rw (p.1, p.2, d) (record { answer = a; back = reads_back _ _ (Err _) tt a })

pub returns-in_err-ok_or-in-1 : goal.returns-in_err-ok_or-in-1
returns-in_err-ok_or-in-1 c =
    let p = err_from_is_err_and c.from_residual-in_err-ok_or-in-1.result c.from_residual-in_err-ok_or-in-1.ensures.1 in
    let m = rw c.in_err-ok_or-in-1.ensures.ok_part at c.read_ballot.ensures in
    let d = fault _ _ _ c.in_err-ok_or-in-1.ensures.value c.in_err-ok_or-in-1.ensures.ok_part in
    let a = wrong_ballot _ _ _ _ c.args.offset (apart (goal.at.returns-in_err-ok_or-in-1 c).In_ok-fields) c.in-1.is m in
    rw (p.1, p.2, d) (record { answer = a; back = reads_back _ _ (Err _) tt a })

pub returns-in_err-ok_or-in-2 : goal.returns-in_err-ok_or-in-2
returns-in_err-ok_or-in-2 c =
    let p = err_from_is_err_and c.from_residual-in_err-ok_or-in-2.result c.from_residual-in_err-ok_or-in-2.ensures.1 in
    let m = rw c.in_err-ok_or-in-2.ensures.ok_part at c.read_entry.ensures in
    let d = fault _ _ _ c.in_err-ok_or-in-2.ensures.value c.in_err-ok_or-in-2.ensures.ok_part in
    let a = wrong_entry _ _ _ _ c.args.offset (apart (goal.at.returns-in_err-ok_or-in-2 c).In_ok-fields) c.in-2.is m in
    rw (p.1, p.2, d) (record { answer = a; back = reads_back _ _ (Err _) tt a })

pub returns-in_default : goal.returns-in_default
returns-in_default c =
    let a = wrong_kind _ _ _ _ c.args.offset (apart (goal.at.returns-in_default c).In_ok-fields) (search rules) (search rules) in
    record { answer = a; back = reads_back _ c.args.offset (Err _) tt a }

pub returns-in_ok-ok_or-in-1 : goal.returns-in_ok-ok_or-in-1
returns-in_ok-ok_or-in-1 c =
    let a = whole_ballot _ _ _ _ _ (apart (goal.at.returns-in_ok-ok_or-in-1 c).In_ok-fields) c.in-1.is (rw c.in_ok-ok_or-in-1.ensures.ok_part at c.read_ballot.ensures) in
    let f : BallotFits c.in_ok-ok_or-in-1.field-0 = (search rules, search rules) in
    record { answer = a; back = reads_back _ c.args.offset (Ok _) f a }

pub returns-in_ok-ok_or-in-2 : goal.returns-in_ok-ok_or-in-2
returns-in_ok-ok_or-in-2 c =
    let a = whole_entry _ _ _ _ _ (apart (goal.at.returns-in_ok-ok_or-in-2 c).In_ok-fields) c.in-2.is (rw c.in_ok-ok_or-in-2.ensures.ok_part at c.read_entry.ensures) in
    let f : EntryFits c.in_ok-ok_or-in-2.field-0 = (search rules, search rules, search rules, search rules, search rules, search rules) in
    record { answer = a; back = reads_back _ c.args.offset (Ok _) f a }
