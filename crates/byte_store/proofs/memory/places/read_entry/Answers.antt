use Rattle.std.proofs.Common.{◌≡◌, ℕ, ◌+◌, ◌-◌, [], Ok, sym, ◌∙◌, arith, rules}
use Rattle.record.specs.declared.kinds.Record.TheVariants.{Logged}
use Rattle.record.specs.Format.{answered}
use Rattle.record.proofs.Bytes.{Bytes}
use Rattle.byte_store.specs.Bytes.{place_part, entry_in}
use Rattle.byte_store.specs.Decoding.{entry_fits}
use Rattle.byte_store.proofs.Reading.{placed_part, bytes_place, answered_ok, answered_record}
use Rattle.byte_store.proofs.memory.places.read_entry.Goals as goal
use Rattle.byte_store.proofs.memory.places.read_entry.Goals.{After-read_record, After-unwrap-record}

told : (c : After-read_record) → answered c.read_record.result ≡ Ok (Logged (entry_in (place_part c.args.place c.args.bytes.now)), [])
told c =
    let f : Bytes c.args.bytes.now = search rules in
    c.read_record.ensures.back _ _ (entry_fits (place_part c.args.place c.args.bytes.now) (bytes_place c.args.bytes.now c.args.place f))
    (placed_part c.args.bytes.now c.args.place c.start_of-at.result (c.start_of-at.result + 26 - c.start_of-at.result) c.start_of-at.ensures (omega arith) c.requires.placed)

read : (c : After-unwrap-record) → c.unwrap-record.result.0 ≡ Logged (entry_in (place_part c.args.place c.args.bytes.now))
read c = answered_record _ c.unwrap-record.result _ _ (told (goal.at.After-unwrap-record c).After-read_record) c.unwrap-record.ensures

pub unwrap-record-requires : goal.unwrap-record-requires
unwrap-record-requires c = answered_ok c.read_record.result _ (told c)

pub unreachable-requires : goal.unreachable-requires
unreachable-requires c =
    let e = sym c.in-Opening.is ∙ read (goal.at.unreachable-requires c).After-unwrap-record in
    let z : ◌≡◌ {A = ℕ} 0 1 = cc in
    omega arith

pub returns : goal.returns
returns c =
    let e = sym c.in-Logged.is ∙ read (goal.at.returns c).After-unwrap-record in
    cc
