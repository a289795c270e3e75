use Rattle.std.proofs.Common.{◌≡◌, ◌+◌, ◌*◌, ◌++◌, length, drop, Ok, sym, refl, ap, ◌∙◌, arith}
use Rattle.image.specs.Images.{held, image}
use Rattle.image.proofs.Writes.{length_image, write_law, short_law, written_law}
use Rattle.image.proofs.contents.Contents.write.Goals as goal
use Rattle.image.proofs.contents.Contents.write.Goals.{After-logged-entries}

-- the length that the code reckons is the image's
size : (c : After-logged-entries) → length (image c.args.self.now.ballot (held c.args.self.now)) ≡ 10 + 26 * length c.logged-entries.result.now
size c = length_image c.args.self.now.ballot (held c.args.self.now) ∙ ap (λ l. 10 + 26 * length l) (sym c.logged-entries.ensures.value)

pub returns-then-buffer-size : goal.returns-then-buffer-size
returns-then-buffer-size c =
    let s = size (goal.at.returns-then-buffer-size c).After-logged-entries in
    let p = short_law c.args.self.now.ballot (held c.args.self.now) c.args.buffer.now (sym c.if-not-in_range.ensures) (omega (arith, s)) in
    record { answer = p.0; after = p.1 }

pub returns : goal.returns
returns c =
    let s = size (goal.at.returns c).After-logged-entries in
    let p = written_law c.args.self.now.ballot (held c.args.self.now) c.args.buffer.now (sym c.if-not-in_range.ensures) (omega (arith, s)) in
    record {
      answer = ap Ok (sym s) ∙ p.0;
      after = write_law c.args.buffer.now _ _ _ c.args.self.now.ballot c.logged-entries.result.now refl (c.copy_from_slice.ensures.after ∙ c.bytes_of_ballot-bytes.ensures) c.put_entries.ensures
          ∙ ap (λ l. image c.args.self.now.ballot l ++ drop (length (image c.args.self.now.ballot l)) c.args.buffer.now) c.logged-entries.ensures.value
          ∙ p.1;
    }
