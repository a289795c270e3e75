use Rattle.std.proofs.Common.{◌≡◌, ℕ, drop, Ok, sym, ◌∙◌, arith, rules}
use Rattle.record.specs.declared.kinds.Record.TheVariants.{Opening}
use Rattle.record.specs.Format.{answered}
use Rattle.record.proofs.Bytes.{Bytes}
use Rattle.byte_store.specs.Bytes.{opening_part, ballot_in}
use Rattle.byte_store.specs.Decoding.{ballot_fits}
use Rattle.byte_store.proofs.Reading.{opened_front, bytes_opening, answered_ok, answered_record}
use Rattle.byte_store.proofs.memory.places.read_ballot.Goals as goal
use Rattle.byte_store.proofs.memory.places.read_ballot.Goals.{After-read_record, After-unwrap-record}

told : (c : After-read_record) → answered c.read_record.result ≡ Ok (Opening (ballot_in (opening_part c.args.bytes.now)), drop 10 c.args.bytes.now)
told c =
    let f : Bytes c.args.bytes.now = search rules in
    c.read_record.ensures.back _ _ (ballot_fits (opening_part c.args.bytes.now) (bytes_opening c.args.bytes.now f)) (opened_front c.args.bytes.now c.requires)

read : (c : After-unwrap-record) → c.unwrap-record.result.0 ≡ Opening (ballot_in (opening_part c.args.bytes.now))
read c = answered_record _ c.unwrap-record.result _ _ (told (goal.at.After-unwrap-record c).After-read_record) c.unwrap-record.ensures

pub unwrap-record-requires : goal.unwrap-record-requires
unwrap-record-requires c = answered_ok c.read_record.result _ (told c)

pub unreachable-requires : goal.unreachable-requires
unreachable-requires c =
    let e = sym c.in-Logged.is ∙ read (goal.at.unreachable-requires c).After-unwrap-record in
    let z : ◌≡◌ {A = ℕ} 0 1 = cc in
    omega arith

pub returns : goal.returns
returns c =
    let e = sym c.in-Opening.is ∙ read (goal.at.returns c).After-unwrap-record in
    cc
