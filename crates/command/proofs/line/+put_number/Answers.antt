use Rattle.std.proofs.Common.{◌^◌, ◌<◌, sym, arith}
use Rattle.std.proofs.lemmas.Fmt.{decimal_digit, decimal_step}
use Rattle.command.proofs.Puts.{put_one, put_then, put_is, put_within, decimal_few, decimal_front_few}
use Rattle.command.proofs.line.+put_number.Goals as goal

pub push_reserved-requires-else-n-lt10 : goal.push_reserved-requires-else-n-lt10
push_reserved-requires-else-n-lt10 t c =
    let h : c.args.n < 2 ^ 32 = omega arith in
    omega (arith, decimal_front_few c.args.n c.if-n-lt10.false h, c.put_number.ensures.len, c.put_number.ensures.capacity)

pub returns-then-n-lt10 : goal.returns-then-n-lt10
returns-then-n-lt10 t c =
    let h : c.args.n < 2 ^ 32 = omega arith in
    let e = c.push_reserved.ensures in
    put_within (put_is (put_one c.args.out.now c.push_reserved.new.self e.items e.len e.capacity) (sym (decimal_digit c.args.n c.if-n-lt10.true))) (decimal_few c.args.n h)

pub returns-else-n-lt10 : goal.returns-else-n-lt10
returns-else-n-lt10 t c =
    let h : c.args.n < 2 ^ 32 = omega arith in
    let e = c.push_reserved-else-n-lt10.ensures in
    put_within
    (put_is
    (put_then c.put_number.ensures (put_one c.put_number.new.out c.push_reserved-else-n-lt10.new.self e.items e.len e.capacity))
    (sym (decimal_step c.args.n c.if-n-lt10.false (omega arith))))
    (decimal_few c.args.n h)
